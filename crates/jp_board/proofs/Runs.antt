-- Proofs of the worked examples.
use Rattle.std.proofs.Common.{◌≡◌, ℕ, zero, suc, ◌≤◌, List, length, [], ◌∷◌, refl, ap, ⊎_elim, arith}
use Rattle.std.proofs.Common.{Contains}
use Rattle.std.proofs.lemmas.List.Elements.{All-contains}
use Rattle.std.proofs.lemmas.List.Sorted.{Contains-permutation}
use Rattle.jp_board.specs.declared.view.View.{View}
use Rattle.jp_board.specs.Events.{claim, report, look, split, join, May, LeadTo, first_state}
use Rattle.jp_board.specs.Lawful.{IsLawful}
use Rattle.jp_board.specs.inner.Samples.{worked, claimed_twice, skipped, told_early, told_twice, risen}
use Rattle.jp_board.specs.inner.Samples.{invented}
use Rattle.jp_board.specs.Together.{numbers_below}
use Rattle.jp_board.specs.Views.{fresh, spent}
use Rattle.jp_board.proofs.Lawfuls.{claim_below, next_le}

-- a list of one element has that alone
of_one : (x y : ℕ) → Contains (x ∷ []) y → x ≡ y
of_one x y (zero, lt, is) = is
of_one x y (suc k, lt, is) = absurd (omega (arith, lt))

pub one_run : LeadTo (join 0 1 ∷ claim 0 ∷ look 0 ∷ report 1 1 ∷ claim 1 ∷ claim 0 ∷ split 0 ∷ [])
    (first_state 2 2)
    (record {
      next = 3;
      least = 1;
      views = record {
        pieces = 2;
        made = 2;
        stands_for = 2;
        claims = 0 ∷ 1 ∷ [];
        reports = 1 ∷ [];
        looks = 1 ∷ [];
        told = 1;
      } ∷ spent ∷ [];
    })
one_run = (
  _,
  (
    _,
    (
      _,
      (
        _,
        (
          _,
          (
            _,
            (
              _,
              refl,
              (_, refl, (omega arith, refl), refl),
            ),
            (_, refl, omega arith, refl),
          ),
          (_, refl, omega arith, refl),
        ),
        (_, refl, (omega arith, (0, omega arith, refl)), refl),
      ),
      (_, refl, omega arith, refl),
    ),
    (_, refl, omega arith, refl),
  ),
  (_, refl, (omega arith, λ e. absurd (omega arith)), (_, refl, refl)),
)

pub told_no_claim : ¬ May (claim 0) (worked [] [] [] 1)
told_no_claim h = omega arith

pub unclaimed_no_report : ¬ May (report 0 1) (worked (0 ∷ []) [] [] 0)
unclaimed_no_report h = let is = of_one 0 1 h.1 in omega arith

pub spent_no_look : ¬ May (look 0) spent
spent_no_look h = omega arith

pub worked_no_split : ¬ May (split 0) (worked (0 ∷ []) [] [] 0)
worked_no_split h = omega (arith, ap (λ (v : View). length v.claims) h.1)

pub itself_no_join : ¬ May (join 0 0) (fresh 2 3 1)
itself_no_join h = h.1 refl

abbrev zeros : List ℕ
zeros = 0 ∷ 0 ∷ []

no_one : Contains zeros 1 → ⊥
no_one (zero, lt, is) = omega (arith, is)
no_one (suc zero, lt, is) = omega (arith, is)
no_one (suc (suc k), lt, is) = omega (arith, lt)

pub not_claimed_twice : ¬ IsLawful 2 1 claimed_twice
not_claimed_twice law =
    no_one (Contains-permutation (numbers_below 2) zeros 1 law.claimed_once (1, omega arith, refl))

pub not_skipped : ¬ IsLawful 2 1 skipped
not_skipped law = let below = claim_below law 1 (0, omega arith, refl) in omega arith

pub not_told_early : ¬ IsLawful 2 1 told_early
not_told_early law = let late = law.told_late (omega arith) in omega arith

pub not_told_twice : ¬ IsLawful 2 1 told_twice
not_told_twice law = let top = next_le law in omega arith

pub not_risen : ¬ IsLawful 2 1 risen
not_risen law = let low = All-contains (λ x. 2 ≤ x) (0 ∷ []) 0 law.mark.under_looks (0, omega arith, refl) in
    omega arith

pub not_invented : ¬ IsLawful 2 1 invented
not_invented law = ⊎_elim (λ e. omega arith) (λ (c : Contains [] 1). let lt = c.1 in omega arith)
    law.mark.given
