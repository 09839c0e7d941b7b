use Rattle.std.proofs.Common.{◌∙◌, sym}
use Rattle.jp_automaton.proofs.CursorLemmas.{passed_none, passed_idle}
use Rattle.jp_automaton.proofs.cursor.passed.Goals as goal

pub returns-then-size-eq0-clause-passed : goal.returns-then-size-eq0-clause-passed
returns-then-size-eq0-clause-passed c =
    passed_none c.args.active.now c.args.at c.requires.stands c.args.size c.if-size-eq0.true

pub returns-clause-passed : goal.returns-clause-passed
returns-clause-passed c =
    passed_idle c.args.active.now c.args.at c.requires.stands c.args.size c.if-at.false
    (sym c.is_active_up_to.ensures ∙ c.if-is_active_up_to.false)
