use Rattle.jp_node.specs.Slice.{slice_bounds}
use Rattle.jp_node.proofs.BoundsLaws.{bounds_of_rising, bounds_of_falling}
use Rattle.jp_node.proofs.SliceOrder.{indexes_within, slice_rises, slice_falls}
use Rattle.jp_node.proofs.laws.slice.Goals as goal

pub returns-clause-within : goal.returns-clause-within
returns-clause-within c = λ first past step len. indexes_within (slice_bounds first past step len) len

pub returns-clause-rising : goal.returns-clause-rising
returns-clause-rising c = slice_rises

pub returns-clause-falling : goal.returns-clause-falling
returns-clause-falling c = slice_falls

pub returns-clause-bounds_of_rising : goal.returns-clause-bounds_of_rising
returns-clause-bounds_of_rising c = bounds_of_rising

pub returns-clause-bounds_of_falling : goal.returns-clause-bounds_of_falling
returns-clause-bounds_of_falling c = bounds_of_falling
