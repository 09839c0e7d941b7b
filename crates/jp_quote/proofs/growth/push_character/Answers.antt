use Rattle.std.proofs.Common.{refl}
use Rattle.std.proofs.lemmas.Str.{IsUtf8-string_bytes}
use Rattle.jp_tokens.proofs.Cuts.{pushed}
use Rattle.jp_quote.proofs.growth.push_character.Goals as goal

pub returns : goal.returns
returns c = pushed c.push.result _ _ c.args.c (IsUtf8-string_bytes c.args.text.now) (rw c.ranges.c.0 refl)
    c.push.ensures.bytes
