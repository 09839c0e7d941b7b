use Rattle.std.proofs.Common.{subst, sym}
use Rattle.std.specs.Prelude.{option_map}
use Rattle.std.specs.Arc.{arc_value}
use Rattle.std.specs.Str.{chars}
use Rattle.std.proofs.lemmas.Result.{IfOk-weaker}
use Rattle.jp_tree.specs.View.{text_of}
use Rattle.jp_automaton.specs.Held.{IsRead, pattern_of}
use Rattle.jp_automaton.specs.SameLanguage.{IsWrittenAs}
use Rattle.jp_compiled.proofs.PatternSets.{read_had}
use Rattle.jp_value.proofs.Answering.{matching, matching_none}
use Rattle.jp_value.proofs.functions.is_match.Goals as goal

pub returns-in-Some : goal.returns-in-Some
returns-in-Some c =
    let known = c.args.known.now in
    let read = subst (λ o. IsRead (text_of known.text) (option_map arc_value o)) c.in-Some.is
    (read_had (text_of known.text) (option_map arc_value known.pattern) known.read) in
    let same = subst (λ p. IsWrittenAs (text_of known.text) (pattern_of p)) (sym c.deref.ensures) read in
    IfOk-weaker c.matches.result _ _ (λ b h. matching (chars c.args.text.now) (text_of known.text)
    (pattern_of c.deref.result.now) b same h) c.matches.ensures

pub returns-in-None : goal.returns-in-None
returns-in-None c =
    let known = c.args.known.now in
    let read = subst (λ o. IsRead (text_of known.text) (option_map arc_value o)) c.in-None.is
    (read_had (text_of known.text) (option_map arc_value known.pattern) known.read) in
    matching_none (chars c.args.text.now) (text_of known.text) read
