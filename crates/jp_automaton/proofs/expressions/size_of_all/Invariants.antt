use Rattle.std.proofs.Common.{◌≡◌, map, min, take}
use Rattle.jp_automaton.specs.Expressions.{meaning, sizes}
use Rattle.jp_automaton.proofs.expressions.size_of_all.Given as goal

abbrev pub invariant-loop-expression : goal.invariant-loop-expression
invariant-loop-expression l =
    l.total ≡ min (sizes (map meaning (take l.expression-index l.expressions))) 4_294_967_295
