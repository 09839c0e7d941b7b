use Rattle.std.proofs.Common.{subst}
use Rattle.std.specs.Str.{chars}
use Rattle.std.proofs.lemmas.Result.{IfOk-weaker}
use Rattle.jp_automaton.specs.Held.{IsRead, pattern_of}
use Rattle.jp_compiled.proofs.PatternSets.{read_had}
use Rattle.jp_value.proofs.Answering.{finding, finding_none}
use Rattle.jp_value.proofs.read_pattern.ReadPattern.found_in.Goals as goal

pub returns-in-Some : goal.returns-in-Some
returns-in-Some c =
    let known = c.args.self.now in
    let read = subst (IsRead (chars known.text.now)) c.in-Some.is
    (read_had (chars known.text.now) known.pattern known.read) in
    IfOk-weaker c.found_in.result _ _ (λ b h. finding (chars c.args.text.now) (chars known.text.now)
    (pattern_of c.in-Some.pattern) b read h) c.found_in.ensures

pub returns-in-None : goal.returns-in-None
returns-in-None c =
    let known = c.args.self.now in
    let read = subst (IsRead (chars known.text.now)) c.in-None.is
    (read_had (chars known.text.now) known.pattern known.read) in
    finding_none (chars c.args.text.now) (chars known.text.now) read
