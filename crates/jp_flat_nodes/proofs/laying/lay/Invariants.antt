use Rattle.std.proofs.Common.{take}
use Rattle.jp_flat_nodes.proofs.LaidNodes.{LaidSoFar}
use Rattle.jp_flat_nodes.proofs.laying.lay.Given as goal

abbrev pub invariant-loop-node : goal.invariant-loop-node
invariant-loop-node l = LaidSoFar l.out.texts.items (take l.node-index l.tape) l.out.nodes.items
