use Rattle.std.proofs.Common.{refl, arith}
use Rattle.jp_pattern.specs.Samples.{in_groups, letter_a}
use Rattle.jp_pattern.proofs.RightTests.{has_counts_sound}
use Rattle.jp_pattern.proofs.examples.limits.Goals as goal

pub returns : goal.returns
returns c = record {
  greatest_count = record {
    counts = ((omega arith, omega arith), tt);
    depth_fits = omega arith;
    size_fits =
        omega arith;
  };
  count_above = λ h. let g = h.counts.0.1 in omega arith;
  least_above = λ h. let g = h.counts.0 in omega arith;
  bounds_that_fall = λ h. let g = h.counts.0.0 in omega arith;
  inside = λ h. let g = h.counts.1.0.0.0 in omega arith;
  deepest = record {
    counts = has_counts_sound (in_groups 64 letter_a) refl;
    depth_fits =
        omega arith;
    size_fits = omega arith;
  };
  too_deep = λ h. let g = h.depth_fits in omega arith;
  largest = record {
    counts = ((omega arith, omega arith), ((omega arith, omega arith), tt));
    depth_fits =
        omega arith;
    size_fits = omega arith;
  };
  too_large = λ h. let g = h.size_fits in omega arith;
}
