-- That some views did together what others did, in whatever order.
use Rattle.std.specs.Prelude.{◌≡◌, List, IsPermutation}
use Rattle.jp_board.specs.declared.view.View.{View}
use Rattle.jp_board.specs.Together.{all_claims, all_reports, all_looks, times_told}

-- the second views did together what the first did
pub record SameAccount (before after : List View) : Type 0 where
  pub claims : IsPermutation (all_claims before) (all_claims after)
  pub reports : IsPermutation (all_reports before) (all_reports after)
  pub looks : IsPermutation (all_looks before) (all_looks after)
  pub told : times_told after ≡ times_told before
