use Rattle.std.proofs.Common.{w64, arith}
use mir.Val.{SFits}
use Rattle.std.proofs.lemmas.Int.{ints}
use Rattle.jp_node.proofs.slices.above.Goals as goal

pub overflow_add-result : goal.overflow_add-result
overflow_add-result c =
    let b : SFits w64 c.args.bound = c.ranges.bound in
    omega (arith, ints, c.requires.below)
