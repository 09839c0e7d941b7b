-- The lawful states of a board: what holds between any two steps, in whatever order the callers take them.
use Rattle.std.specs.Prelude.{◌≡◌, ℕ, ◌+◌, ◌<◌, ◌≤◌, ◌⊎◌, min, List, [], length, All, Contains, IsPermutation}
use Rattle.jp_board.specs.Events.{BoardState}
use Rattle.jp_board.specs.Limits.{max_pieces, max_seats}
use Rattle.jp_board.specs.declared.view.View.{View}
use Rattle.jp_board.specs.Together.{all_claims, all_reports, all_looks, times_told, seats_stood_for}
use Rattle.jp_board.specs.Together.{numbers_below}

-- what holds of each view
pub record IsLawfulView (pieces made : ℕ) (v : View) : Type 0 where
  -- it was told at most once for each seat that it stands for that no piece is left
  pub told_once : v.told ≤ v.stands_for
  -- it knows the numbers of the board, unless it is spent
  pub numbers : 0 < v.stands_for → (v.pieces ≡ pieces) × (v.made ≡ made)
  -- what it has reported, it has claimed
  pub reports_claimed : All (Contains v.claims) v.reports
  -- a view that stands for no seat is empty
  pub spent_is_empty : v.stands_for ≡ 0 → (v.claims ≡ []) × (v.reports ≡ []) × (v.looks ≡ [])

-- the mark `least`, beside all reports and all looks
pub record IsMark (pieces least : ℕ) (reports looks : List ℕ) : Type 0 where
  -- it is the number of pieces, or it was reported
  pub given : (least ≡ pieces) ⊎ Contains reports least
  -- it is at most each report
  pub under_reports : All (λ x. least ≤ x) reports
  -- it is at most each look
  pub under_looks : All (λ x. least ≤ x) looks
  -- each look was the number of pieces, or is among the reports
  pub looks_given : All (λ x. (x ≡ pieces) ⊎ Contains reports x) looks

-- the numbers of pieces and seats, the two words of the board, and the views of all seats
pub record Lawful (pieces made next least : ℕ) (views : List View) : Type 0 where
  -- there are not too many pieces and seats
  pub in_range : (pieces ≤ max_pieces) × (made ≤ max_seats)
  -- the views stand for the seats that were made
  pub seats : seats_stood_for views ≡ made
  -- each view is lawful
  pub each : All (IsLawfulView pieces made) views
  -- the claims are the pieces below `next`, each once
  pub claimed_once : IsPermutation (numbers_below (min next pieces)) (all_claims views)
  -- `next` counts the claims and how often somebody was told that no piece is left
  pub next_counts : next ≡ length (all_claims views) + times_told views
  -- nobody is told so before `next` is above the number of pieces
  pub told_late : 0 < times_told views → pieces < next
  -- `least` is the least report so far, or the number of pieces
  pub mark : IsMark pieces least (all_reports views) (all_looks views)

-- the state is lawful
abbrev pub IsLawful : ℕ → ℕ → BoardState → Type 0
IsLawful pieces made s = Lawful pieces made s.next s.least s.views

-- found is `least` in a lawful state that holds this view
abbrev pub IsLeastOf : View → ℕ → Type 0
IsLeastOf v found = (next : ℕ) × (views : List View) × Contains views v
    × Lawful v.pieces v.made next found views
