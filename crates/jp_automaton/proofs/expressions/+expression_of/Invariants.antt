use Rattle.std.proofs.Common.{map, IsTrue}
use Rattle.jp_automaton.specs.Expressions.{all_sized, meaning, patterns_in}
use Rattle.jp_automaton.specs.inner.Simpler.{HasEmpty, StandBefore, StandInTurn}
use Rattle.jp_pattern.specs.Tree.{node_of}
use Rattle.jp_automaton.proofs.expressions.+expression_of.Given as goal

abbrev pub invariant-pieces_of-loop-node : goal.invariant-pieces_of-loop-node
invariant-pieces_of-loop-node l =
    StandInTurn (map node_of l.yielded) (patterns_in l.pieces.items)
    × IsTrue (all_sized (map meaning l.pieces.items))

abbrev pub invariant-branches_of-loop-node : goal.invariant-branches_of-loop-node
invariant-branches_of-loop-node l =
    StandBefore l.is_last_empty (map node_of l.yielded) (patterns_in l.branches.items)
    × IsTrue (all_sized (map meaning l.branches.items))
    × HasEmpty l.is_last_empty l.has_empty (patterns_in l.branches.items)
