use Rattle.std.proofs.Common.{◌≡◌, take}
use Rattle.jp_node.specs.Part.{part_value}
use Rattle.jp_eval.proofs.roots.answer_roots.Given as goal

abbrev pub invariant-loop-slot : goal.invariant-loop-slot
invariant-loop-slot g l = (l.context.roots.now ≡ take l.slot l.roots)
    × (part_value l.context.root ≡ part_value l.initial.root)
