use Rattle.std.proofs.Common.{◌≡◌, length}
use Rattle.jp_tree.specs.Tree.{segments}
use Rattle.jp_tree.specs.PartViews.{segments_of}
use Rattle.jp_tree.specs.Singular.{each_is_singular}
use Rattle.jp_tree.proofs.singular.each_is_singular.Given as goal

abbrev pub invariant-loop-rest : goal.invariant-loop-rest
invariant-loop-rest l = each_is_singular (segments (segments_of l.rest))
    ≡ each_is_singular (segments (segments_of l.segments))

abbrev pub decreases-loop-rest : goal.decreases-loop-rest
decreases-loop-rest l = length l.rest
