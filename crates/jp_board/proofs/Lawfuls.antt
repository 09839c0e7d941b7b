-- Facts of each lawful state, and that each kind of step leads from one to another.
use Rattle.std.proofs.Common.{◌≡◌, ℕ, ◌+◌, ◌<◌, ◌≤◌, min, List, [], ◌∷◌, ◌++◌, length, set, refl, sym, ap}
use Rattle.std.proofs.Common.{subst, ◌∙◌, ⊎_elim, arith, All, Contains, IsPermutation, length-append}
use mathlib.Core.Option.{some}
use lib.ListN.{get_elem?}
use Rattle.std.proofs.lemmas.List.Elements.{All-set, All-weaker, All-push, Contains-append_left}
use Rattle.std.proofs.lemmas.List.FromFn.{length-range_with_len}
use Rattle.std.proofs.lemmas.List.Sorted.{IsPermutation-trans, IsPermutation-sym, IsPermutation-append_left}
use Rattle.std.proofs.lemmas.List.Sorted.{length_permutation, Contains-permutation}
use Rattle.jp_board.specs.declared.view.View.{View}
use Rattle.jp_board.specs.Views.{with_claim, with_told, with_report, with_look}
use Rattle.jp_board.specs.Together.{all_claims, all_reports, all_looks, numbers_below}
use Rattle.jp_board.specs.Lawful.{IsLawfulView, Lawful}
use Rattle.jp_board.proofs.Lists.{at_all, sum_set, sum_le, flat_among, below_from_contains, numbers_more}
use Rattle.jp_board.proofs.Shuffles.{same_list, flat_same, flat_grown}
use Rattle.jp_board.proofs.Marks.{mark_shuffled, mark_reported, mark_looked}

module _ {pieces made next least : ℕ} {views : List View} where
  -- as the claims are the pieces below `next`, each once, there are as many
  pub count_of_claims : Lawful pieces made next least views → length (all_claims views) ≡ min next pieces
  count_of_claims law = length_permutation (numbers_below (min next pieces)) (all_claims views)
      law.claimed_once ∙ length-range_with_len 0 (min next pieces)

  -- so that one more does not wrap
  pub next_le : Lawful pieces made next least views → next ≤ pieces + made
  next_le law =
      let c = count_of_claims law in
      let n = law.next_counts in
      let t = sum_le (λ v. v.told) (λ v. v.stands_for) views
      (All-weaker (IsLawfulView pieces made) (λ v. v.told ≤ v.stands_for) (λ v f. f.told_once) views
      law.each) in
      let s = law.seats in
      omega arith

  -- what anybody has claimed is below `next` and is a piece
  pub claim_below : Lawful pieces made next least views → (x : ℕ) → Contains (all_claims views) x
      → x < min next pieces
  claim_below law x h = below_from_contains (min next pieces) x (Contains-permutation (all_claims views)
      (numbers_below (min next pieces)) x (IsPermutation-sym (numbers_below (min next pieces))
      (all_claims views) law.claimed_once) h)

  -- so what is reported is a piece too, and the mark is at most the number of pieces
  pub least_le : Lawful pieces made next least views → least ≤ pieces
  least_le law = ⊎_elim
      (λ (e : least ≡ pieces). omega arith)
      (λ (c : Contains (all_reports views) least).
      let b = claim_below law least (flat_among (λ v. v.reports) (λ v. v.claims) views
      (All-weaker (IsLawfulView pieces made) (λ v. All (Contains v.claims) v.reports)
      (λ v f. f.reports_claimed) views law.each) least c) in omega arith)
      law.mark.given

module _ (pieces made next least : ℕ) (views : List View) (id : ℕ) (v : View) where
  pub claim_lawful : Lawful pieces made next least views → get_elem? views id ≡ some v → next < pieces
      → 0 < v.stands_for → Lawful pieces made (next + 1) least (set views id (with_claim v next))
  claim_lawful law at left stands =
      let w : View = with_claim v next in
      let after : List View = set views id w in
      let f : IsLawfulView pieces made v = at_all (IsLawfulView pieces made) views id v law.each at in
      let grown : IsPermutation (all_claims views ++ next ∷ []) (all_claims after) =
      flat_grown (λ (u : View). u.claims) views id v w (next ∷ []) at refl in
      let more : numbers_below (min (next + 1) pieces) ≡ numbers_below (min next pieces) ++ next ∷ [] =
      numbers_more next (min next pieces) (min (next + 1) pieces) (omega arith) (omega arith) in
      let long = length_permutation (all_claims views ++ next ∷ []) (all_claims after) grown in
      let push = length-append (all_claims views) (next ∷ []) in
      let told = sum_set (λ (u : View). u.told) views id v w at in
      let seats = sum_set (λ (u : View). u.stands_for) views id v w at in
      let counts = law.next_counts in
      let made_is = law.seats in
      record {
        in_range = law.in_range;
        seats = omega arith;
        each = All-set (IsLawfulView pieces made) views id w record {
          told_once = f.told_once;
          numbers = f.numbers;
          reports_claimed = All-weaker (Contains v.claims) (Contains w.claims)
              (λ x. Contains-append_left v.claims (next ∷ []) x) v.reports f.reports_claimed;
          spent_is_empty = λ z. absurd (omega arith);
        } law.each;
        claimed_once = subst (λ l. IsPermutation l (all_claims after)) (sym more)
            (IsPermutation-trans (numbers_below (min next pieces) ++ next ∷ [])
            (all_claims views ++ next ∷ []) (all_claims after)
            (IsPermutation-append_left (next ∷ []) (numbers_below (min next pieces)) (all_claims views)
            law.claimed_once) grown);
        next_counts = omega arith;
        told_late = λ h. let late = law.told_late (omega arith) in omega arith;
        mark = mark_shuffled pieces least (all_reports views) (all_reports after) (all_looks views)
            (all_looks after)
            (same_list (all_reports views) (all_reports after)
            (sym (flat_same (λ (u : View). u.reports) views id v w at refl)))
            (same_list (all_looks views) (all_looks after)
            (sym (flat_same (λ (u : View). u.looks) views id v w at refl))) law.mark;
      }

  pub told_lawful : Lawful pieces made next least views → get_elem? views id ≡ some v → pieces ≤ next
      → v.told < v.stands_for → Lawful pieces made (next + 1) least (set views id (with_told v))
  told_lawful law at none stands =
      let w : View = with_told v in
      let after : List View = set views id w in
      let f : IsLawfulView pieces made v = at_all (IsLawfulView pieces made) views id v law.each at in
      let same : all_claims after ≡ all_claims views = flat_same (λ (u : View). u.claims) views id v w at
      refl in
      let long = ap length same in
      let still : min next pieces ≡ min (next + 1) pieces = omega arith in
      let told = sum_set (λ (u : View). u.told) views id v w at in
      let seats = sum_set (λ (u : View). u.stands_for) views id v w at in
      let counts = law.next_counts in
      let made_is = law.seats in
      record {
        in_range = law.in_range;
        seats = omega arith;
        each = All-set (IsLawfulView pieces made) views id w record {
          told_once = omega arith;
          numbers = f.numbers;
          reports_claimed = f.reports_claimed;
          spent_is_empty = λ z. absurd (omega arith);
        } law.each;
        claimed_once = subst (λ l. IsPermutation (numbers_below (min (next + 1) pieces)) l) (sym same)
            (subst (λ n. IsPermutation (numbers_below n) (all_claims views)) still law.claimed_once);
        next_counts = omega arith;
        told_late = λ h. omega arith;
        mark = mark_shuffled pieces least (all_reports views) (all_reports after) (all_looks views)
            (all_looks after)
            (same_list (all_reports views) (all_reports after)
            (sym (flat_same (λ (u : View). u.reports) views id v w at refl)))
            (same_list (all_looks views) (all_looks after)
            (sym (flat_same (λ (u : View). u.looks) views id v w at refl))) law.mark;
      }

  pub report_lawful : (r : ℕ) → Lawful pieces made next least views → get_elem? views id ≡ some v
      → Contains v.claims r → 0 < v.stands_for
      → Lawful pieces made next (min least r) (set views id (with_report v r))
  report_lawful r law at mine stands =
      let w : View = with_report v r in
      let after : List View = set views id w in
      let f : IsLawfulView pieces made v = at_all (IsLawfulView pieces made) views id v law.each at in
      let same : all_claims after ≡ all_claims views = flat_same (λ (u : View). u.claims) views id v w at
      refl in
      let long = ap length same in
      let told = sum_set (λ (u : View). u.told) views id v w at in
      let seats = sum_set (λ (u : View). u.stands_for) views id v w at in
      let counts = law.next_counts in
      let made_is = law.seats in
      record {
        in_range = law.in_range;
        seats = omega arith;
        each = All-set (IsLawfulView pieces made) views id w record {
          told_once = f.told_once;
          numbers = f.numbers;
          reports_claimed = All-push (Contains v.claims) v.reports r f.reports_claimed mine;
          spent_is_empty = λ z. absurd (omega arith);
        } law.each;
        claimed_once = subst (IsPermutation (numbers_below (min next pieces))) (sym same) law.claimed_once;
        next_counts = omega arith;
        told_late = λ h. law.told_late (omega arith);
        mark = mark_shuffled pieces (min least r) (all_reports views ++ r ∷ []) (all_reports after)
            (all_looks views) (all_looks after)
            (flat_grown (λ (u : View). u.reports) views id v w (r ∷ []) at refl)
            (same_list (all_looks views) (all_looks after)
            (sym (flat_same (λ (u : View). u.looks) views id v w at refl)))
            (mark_reported pieces least r (all_reports views) (all_looks views) law.mark);
      }

  pub look_lawful : Lawful pieces made next least views → get_elem? views id ≡ some v → 0 < v.stands_for
      → Lawful pieces made next least (set views id (with_look v least))
  look_lawful law at stands =
      let w : View = with_look v least in
      let after : List View = set views id w in
      let f : IsLawfulView pieces made v = at_all (IsLawfulView pieces made) views id v law.each at in
      let same : all_claims after ≡ all_claims views = flat_same (λ (u : View). u.claims) views id v w at
      refl in
      let long = ap length same in
      let told = sum_set (λ (u : View). u.told) views id v w at in
      let seats = sum_set (λ (u : View). u.stands_for) views id v w at in
      let counts = law.next_counts in
      let made_is = law.seats in
      record {
        in_range = law.in_range;
        seats = omega arith;
        each = All-set (IsLawfulView pieces made) views id w record {
          told_once = f.told_once;
          numbers = f.numbers;
          reports_claimed = f.reports_claimed;
          spent_is_empty = λ z. absurd (omega arith);
        } law.each;
        claimed_once = subst (IsPermutation (numbers_below (min next pieces))) (sym same) law.claimed_once;
        next_counts = omega arith;
        told_late = λ h. law.told_late (omega arith);
        mark = mark_shuffled pieces least (all_reports views) (all_reports after)
            (all_looks views ++ least ∷ []) (all_looks after)
            (same_list (all_reports views) (all_reports after)
            (sym (flat_same (λ (u : View). u.reports) views id v w at refl)))
            (flat_grown (λ (u : View). u.looks) views id v w (least ∷ []) at refl)
            (mark_looked pieces least (all_reports views) (all_looks views) law.mark);
      }
