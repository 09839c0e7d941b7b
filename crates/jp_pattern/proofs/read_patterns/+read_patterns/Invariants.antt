use Rattle.std.proofs.Common.{◌≡◌, ◌-◌, ◌+◌, ◌*◌, map}
use Rattle.jp_pattern.specs.inner.Reading.{pattern_within, pattern_behind}
use Rattle.jp_pattern.specs.Tree.{node_of}
use Rattle.jp_pattern.proofs.read_patterns.+read_patterns.Given as goal

abbrev pub decreases-group_at : goal.decreases-group_at
decreases-group_at l = 5 * l.left

abbrev pub decreases-atom_at : goal.decreases-atom_at
decreases-atom_at l = 5 * l.left + 1

abbrev pub decreases-piece_at : goal.decreases-piece_at
decreases-piece_at l = 5 * l.left + 2

abbrev pub decreases-next_part : goal.decreases-next_part
decreases-next_part l = 5 * l.left + 3

abbrev pub decreases-pattern_at : goal.decreases-pattern_at
decreases-pattern_at l = 5 * l.left + 4

abbrev pub invariant-pattern_at-loop-turn : goal.invariant-pattern_at-loop-turn
invariant-pattern_at-loop-turn l = pattern_within l.left l.turns l.fn.text
    ≡ pattern_behind (map node_of l.before.items) (map node_of l.pieces.items)
    (pattern_within l.left (l.turns - l.turn) l.rest)
