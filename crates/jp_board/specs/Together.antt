-- What several views did together.
use Rattle.std.specs.Prelude.{ℕ, List, sum_by, flat_map}
use Rattle.std.specs.List.{range_with_len}
use Rattle.jp_board.specs.declared.view.View.{View}

-- all that the views have claimed, reported and seen
abbrev pub all_claims : List View → List ℕ
all_claims views = flat_map (λ v. v.claims) views

abbrev pub all_reports : List View → List ℕ
all_reports views = flat_map (λ v. v.reports) views

abbrev pub all_looks : List View → List ℕ
all_looks views = flat_map (λ v. v.looks) views

-- how often they were told that no piece is left
abbrev pub times_told : List View → ℕ
times_told views = sum_by (λ v. v.told) views

-- for how many seats they stand
abbrev pub seats_stood_for : List View → ℕ
seats_stood_for views = sum_by (λ v. v.stands_for) views

-- 0, 1, 2 and so on below n
abbrev pub numbers_below : ℕ → List ℕ
numbers_below n = range_with_len 0 n
