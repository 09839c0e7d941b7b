use Rattle.std.proofs.Common.{◌≡◌, ◌-◌, map}
use Rattle.jp_pattern.specs.inner.Reading.{elements_behind}
use Rattle.jp_pattern.specs.Tree.{element_of}
use Rattle.jp_pattern.proofs.read_sets.elements_from.Given as goal

abbrev pub invariant-loop-turn : goal.invariant-loop-turn
invariant-loop-turn l = elements_behind (map element_of l.fn.found.items) l.turns l.fn.text
    ≡ elements_behind (map element_of l.found.items) (l.turns - l._turn) l.rest
