use Rattle.std.proofs.Common.{◌≡◌, ◌+◌, ◌-◌, ◌≤◌, drop}
use Rattle.jp_automaton.specs.declared.cursor.Cursor.{Cursor}
use Rattle.jp_automaton.specs.Expressions.{branches_before, unrolled_in, unrolled_in_turn}
use Rattle.jp_pattern.specs.Unrolled.{Unrolled, counted, letters, nothing}
use Rattle.jp_automaton.specs.inner.Simulation.{IsAt, IsWalk, or_entered, entered_as}
use Rattle.jp_automaton.proofs.exit.+exit.Given as goal

-- a walk over what is left is the end of a walk over all
abbrev pub invariant-exit_in_turn-loop-piece : goal.invariant-exit_in_turn-loop-piece
invariant-exit_in_turn-loop-piece l =
    let rest = unrolled_in_turn (drop l.piece-index l.pieces) in
    ((r : Cursor) → IsWalk l.active rest l.here r → IsWalk l.active (unrolled_in_turn l.pieces) l.fn.at r)
    × (l.end ≡ l.here.past + letters rest) × IsAt l.active l.here.past l.here.index

abbrev pub invariant-exit_before-loop-branch : goal.invariant-exit_before-loop-branch
invariant-exit_before-loop-branch l =
    ((q : Unrolled) (r : Cursor) → IsWalk l.active (branches_before (drop l.branch-index l.branches) q)
    (entered_as l.at.entered l.others) r →
    IsWalk l.active (branches_before l.branches q) l.at (or_entered l.others.entered r))
    × (l.others.past + letters (branches_before (drop l.branch-index l.branches) nothing)
    ≡ l.at.past + letters (branches_before l.branches nothing))
    × IsAt l.active l.others.past l.others.index

abbrev pub invariant-exit_counted-loop-i : goal.invariant-exit_counted-loop-i
invariant-exit_counted-loop-i l =
    let a = unrolled_in l.atom in
    let rest = counted (l.least - l.i) (l.most - l.i) a in
    ((r : Cursor) → IsWalk l.active rest l.here r
    → IsWalk l.active (counted l.least l.most a) l.fn.at (or_entered l.left r))
    × (l.here.past + letters rest ≡ l.fn.at.past + letters (counted l.least l.most a))
    × IsAt l.active l.here.past l.here.index × (l.i ≤ l.most)

abbrev pub decreases-exit_counted-loop-i : goal.decreases-exit_counted-loop-i
decreases-exit_counted-loop-i l = l.most - l.i
