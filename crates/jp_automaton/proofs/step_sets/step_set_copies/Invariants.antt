use Rattle.std.proofs.Common.{◌≡◌, ◌+◌, ◌-◌, ◌≤◌, ◌++◌}
use Rattle.jp_automaton.specs.declared.cursor.Cursor.{Cursor}
use Rattle.jp_automaton.specs.Letters.{letters_of}
use Rattle.jp_pattern.specs.Unrolled.{counted, letters, letter}
use Rattle.jp_automaton.specs.inner.Simulation.{step, is_elem, IsAt, IsWalk, or_entered}
use Rattle.jp_automaton.proofs.step_sets.step_set_copies.Given as goal

abbrev pub invariant-loop-i : goal.invariant-loop-i
invariant-loop-i l =
    let active = l.input.active.now in
    let a = letter (letters_of l.set) in
    let rest = counted (l.copies.least - l.i) (l.copies.most - l.i) a in
    ((r : Cursor) → IsWalk active rest l.here r
    → IsWalk active (counted l.copies.least l.copies.most a) l.fn.at (or_entered l.left r))
    × (l.here.past + letters rest ≡ l.fn.at.past + letters (counted l.copies.least l.copies.most a))
    × IsAt active l.here.past l.here.index × (l.i ≤ l.copies.most)
    × (l.out.items ++ step (is_elem active) l.input.c rest l.here.past l.here.entered
    ≡ l.fn.out.items ++ step (is_elem active) l.input.c (counted l.copies.least l.copies.most a) l.fn.at.past
    l.fn.at.entered)

abbrev pub decreases-loop-i : goal.decreases-loop-i
decreases-loop-i l = l.copies.most - l.i
