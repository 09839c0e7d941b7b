use Rattle.std.proofs.Common.{refl}
use Rattle.std.proofs.lemmas.Str.{IsUtf8-string_bytes}
use Rattle.jp_tokens.proofs.Cuts.{pushed}
use Rattle.jp_explain.proofs.Pictures.{shown_pushed}
use Rattle.jp_explain.proofs.line.PlainLine.push.Goals as goal

pub invariant_of-self : goal.invariant_of-self
invariant_of-self c = record {
  shown = shown_pushed c.push.result _ _ c.args.c (IsUtf8-string_bytes c.args.self.now.text)
      (rw c.ranges.c.0 refl) c.push.ensures.bytes c.requires c.args.self.now.shown;
}

pub returns : goal.returns
returns c = pushed c.push.result _ _ c.args.c (IsUtf8-string_bytes c.args.self.now.text)
    (rw c.ranges.c.0 refl) c.push.ensures.bytes
