use Rattle.std.proofs.Common.{true, arith, ◌∙◌}
use Rattle.jp_automaton.specs.Held.{pattern_of}
use Rattle.jp_automaton.proofs.ProfileLemmas.{kept_dfa}
use Rattle.jp_automaton.proofs.DfaLemmas.{is_some, is_zero, nothing_begins}
use Rattle.jp_automaton.proofs.pattern.Pattern.may_begin.Goals as goal

pub returns : goal.returns
returns c = λ h.
    let self = c.args.self.now in
    let zero = is_zero c.next.result h in
    nothing_begins (pattern_of self) self.part.states.items self.part.cells.items
    (kept_dfa _ true self.part self.part_steps).steps c.args.c
    (omega (arith, is_some _ c.is_empty.result c.is_empty.ensures c.if-is_empty.false))
    c.next.ensures.scalar (c.next.ensures.cell (omega arith) ∙ zero)
