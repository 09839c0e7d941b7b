use Rattle.std.proofs.Common.{sym, ap, ◌∙◌}
use Rattle.std.proofs.lemmas.List.{nil_from_length}
use Rattle.std.proofs.lemmas.Str.{chars_past_char, chars-nil}
use Rattle.std.specs.Str.{chars}
use Rattle.jp_types.specs.Numbers.{is_negative}
use Rattle.jp_types.proofs.written.is_negative.Goals as goal

pub returns-in-Some : goal.returns-in-Some
returns-in-Some c =
    let first = c.in-Some.ensures.steps.0 in
    sym (ap is_negative (chars_past_char c.args.text.now _ c.in-Some.c c.utf8.text
    (sym c.chars.ensures.rest ∙ first)))

pub returns-in-None : goal.returns-in-None
returns-in-None c =
    let none = c.in-None.ensures.steps.0.0 in
    sym (ap (λ t. is_negative (chars t)) (sym c.chars.ensures.rest ∙ nil_from_length _ none)
    ∙ ap is_negative chars-nil)
