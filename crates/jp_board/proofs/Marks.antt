-- How the mark stays right: it follows the reports and looks in any order of theirs, one more report, and
-- one more look.
use Rattle.std.proofs.Common.{◌≡◌, ◌⊎◌, inl, inr, ℕ, ◌≤◌, min, List, [], ◌∷◌, ◌++◌, subst, ⊎_elim, arith}
use Rattle.std.proofs.Common.{Contains, IsPermutation}
use mathlib.Core.Logic.{dite}
use native.Mathlib.Decide.{dec_lt}
use Rattle.std.proofs.lemmas.List.Elements.{All-push, All-weaker, Contains-append_left, Contains-push}
use Rattle.std.proofs.lemmas.List.Sorted.{All-permutation, Contains-permutation}
use Rattle.jp_board.specs.Lawful.{IsMark}

-- a look that was given stays so where there are as many reports or more
still_given : (pieces x : ℕ) (rs rs' : List ℕ) → (Contains rs x → Contains rs' x) → (x ≡ pieces)
    ⊎ Contains rs x → (x ≡ pieces) ⊎ Contains rs' x
still_given pieces x rs rs' more h = ⊎_elim (λ e. inl e) (λ c. inr (more c)) h

pub mark_shuffled : (pieces least : ℕ) (rs rs' ls ls' : List ℕ) → IsPermutation rs rs' → IsPermutation ls ls'
    → IsMark pieces least rs ls → IsMark pieces least rs' ls'
mark_shuffled pieces least rs rs' ls ls' p q m =
    let over : (x : ℕ) → Contains rs x → Contains rs' x = λ x. Contains-permutation rs rs' x p in
    record {
      given = still_given pieces least rs rs' (over least) m.given;
      under_reports = All-permutation (λ x. least ≤ x) rs rs' p m.under_reports;
      under_looks = All-permutation (λ x. least ≤ x) ls ls' q m.under_looks;
      looks_given = All-permutation (λ x. (x ≡ pieces) ⊎ Contains rs' x) ls ls' q
          (All-weaker (λ x. (x ≡ pieces) ⊎ Contains rs x) (λ x. (x ≡ pieces) ⊎ Contains rs' x)
          (λ x. still_given pieces x rs rs' (over x)) ls m.looks_given);
    }

pub mark_reported : (pieces least r : ℕ) (rs ls : List ℕ) → IsMark pieces least rs ls
    → IsMark pieces (min least r) (rs ++ r ∷ []) ls
mark_reported pieces least r rs ls m =
    let over : (x : ℕ) → Contains rs x → Contains (rs ++ r ∷ []) x = λ x. Contains-append_left rs (r ∷ [])
    x in
    let lower : (x : ℕ) → least ≤ x → min least r ≤ x = λ x le. omega arith in
    record {
      given = dite (dec_lt r least)
          (λ less. let is : r ≡ min least r = omega arith in subst (λ y. (y ≡ pieces)
          ⊎ Contains (rs ++ r ∷ []) y) is (inr (Contains-push rs r)))
          (λ more. let is : least ≡ min least r = omega arith in subst (λ y. (y ≡ pieces)
          ⊎ Contains (rs ++ r ∷ []) y) is (still_given pieces least rs (rs ++ r ∷ []) (over least)
          m.given));
      under_reports = All-push (λ x. min least r ≤ x) rs r (All-weaker (λ x. least ≤ x) (λ x. min least r ≤ x)
          lower rs m.under_reports) (omega arith);
      under_looks = All-weaker (λ x. least ≤ x) (λ x. min least r ≤ x) lower ls m.under_looks;
      looks_given = All-weaker (λ x. (x ≡ pieces) ⊎ Contains rs x) (λ x. (x ≡ pieces)
          ⊎ Contains (rs ++ r ∷ []) x) (λ x. still_given pieces x rs (rs ++ r ∷ []) (over x)) ls
          m.looks_given;
    }

pub mark_looked : (pieces least : ℕ) (rs ls : List ℕ) → IsMark pieces least rs ls
    → IsMark pieces least rs (ls ++ least ∷ [])
mark_looked pieces least rs ls m = record {
  given = m.given;
  under_reports = m.under_reports;
  under_looks = All-push (λ x. least ≤ x) ls least m.under_looks (omega arith);
  looks_given = All-push (λ x. (x ≡ pieces) ⊎ Contains rs x) ls least m.looks_given m.given;
}
