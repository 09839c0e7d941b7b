use Rattle.std.proofs.Common.{◌≡◌, ◌+◌, ◌-◌, ◌≤◌, ◌++◌, drop}
use Rattle.jp_automaton.specs.declared.cursor.Cursor.{Cursor}
use Rattle.jp_automaton.specs.Expressions.{branches_before, unrolled_in, unrolled_in_turn}
use Rattle.jp_pattern.specs.Unrolled.{Unrolled, counted, letters, nothing}
use Rattle.jp_automaton.specs.inner.Simulation.{step, is_elem, IsAt, IsWalk, or_entered, entered_as}
use Rattle.jp_automaton.proofs.step.+step.Given as goal

-- a walk over what is left is the end of a walk over all
abbrev pub invariant-step_in_turn-loop-piece : goal.invariant-step_in_turn-loop-piece
invariant-step_in_turn-loop-piece l =
    let active = l.input.active.now in
    let rest = unrolled_in_turn (drop l.piece-index l.pieces) in
    ((r : Cursor) → IsWalk active rest l.here r → IsWalk active (unrolled_in_turn l.pieces) l.fn.at r)
    × (l.end ≡ l.here.past + letters rest) × IsAt active l.here.past l.here.index
    × (l.out.items ++ step (is_elem active) l.input.c rest l.here.past l.here.entered
    ≡ l.fn.out.items ++ step (is_elem active) l.input.c (unrolled_in_turn l.pieces) l.fn.at.past
    l.fn.at.entered)

abbrev pub invariant-step_before-loop-branch : goal.invariant-step_before-loop-branch
invariant-step_before-loop-branch l =
    let active = l.input.active.now in
    ((q : Unrolled) (r : Cursor) → IsWalk active (branches_before (drop l.branch-index l.branches) q)
    (entered_as l.at.entered l.others) r →
    IsWalk active (branches_before l.branches q) l.at (or_entered l.others.entered r))
    × (l.others.past + letters (branches_before (drop l.branch-index l.branches) nothing)
    ≡ l.at.past + letters (branches_before l.branches nothing))
    × IsAt active l.others.past l.others.index
    × ((q : Unrolled) → l.out.items ++ step (is_elem active) l.input.c
    (branches_before (drop l.branch-index l.branches) q) l.others.past l.at.entered
    ≡ l.fn.out.items ++ step (is_elem active) l.input.c (branches_before l.branches q) l.at.past l.at.entered)

abbrev pub invariant-step_counted-loop-i : goal.invariant-step_counted-loop-i
invariant-step_counted-loop-i l =
    let active = l.input.active.now in
    let a = unrolled_in l.atom in
    let rest = counted (l.copies.least - l.i) (l.copies.most - l.i) a in
    ((r : Cursor) → IsWalk active rest l.here r
    → IsWalk active (counted l.copies.least l.copies.most a) l.fn.at (or_entered l.left r))
    × (l.here.past + letters rest ≡ l.fn.at.past + letters (counted l.copies.least l.copies.most a))
    × IsAt active l.here.past l.here.index × (l.i ≤ l.copies.most)
    × (l.out.items ++ step (is_elem active) l.input.c rest l.here.past l.here.entered
    ≡ l.fn.out.items ++ step (is_elem active) l.input.c (counted l.copies.least l.copies.most a)
    l.fn.at.past l.fn.at.entered)

abbrev pub decreases-step_counted-loop-i : goal.decreases-step_counted-loop-i
decreases-step_counted-loop-i l = l.copies.most - l.i
