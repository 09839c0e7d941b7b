use Rattle.std.proofs.Common.{◌≡◌, ◌∷◌}
use Rattle.std.specs.List.{flat_map}
use Rattle.jp_tree.specs.View.{text_of}
use Rattle.jp_node.specs.Path.{escaped}
use Rattle.jp_quote.proofs.literal.quote.Given as goal

abbrev pub invariant-loop-c : goal.invariant-loop-c
invariant-loop-c l = text_of l.literal ≡ 39 ∷ flat_map escaped l.yielded
