use Rattle.std.proofs.Common.{◌∙◌, sym}
use Rattle.jp_automaton.proofs.CursorLemmas.{letter_active, letter_inactive}
use Rattle.jp_automaton.proofs.cursor.behind_set.Goals as goal

pub returns-then-is_active_up_to : goal.returns-then-is_active_up_to
returns-then-is_active_up_to c = λ set. letter_active c.args.active.now c.args.at c.requires.stands set
    (sym c.is_active_up_to.ensures ∙ c.if-is_active_up_to.true)

pub returns-else-is_active_up_to : goal.returns-else-is_active_up_to
returns-else-is_active_up_to c = λ set. letter_inactive c.args.active.now c.args.at c.requires.stands set
    (sym c.is_active_up_to.ensures ∙ c.if-is_active_up_to.false)
