-- That a board begins in a lawful state, and that cutting a seat off and joining two leads from one to
-- another.
use Rattle.std.proofs.Common.{◌≡◌, ℕ, ◌-◌, ◌<◌, ◌≤◌, min, List, [], ◌∷◌, ◌++◌, length, set, refl, sym, ap}
use Rattle.std.proofs.Common.{subst, ◌∙◌, inl, arith, All, Contains, IsPermutation}
use mathlib.Core.Option.{some}
use lib.ListN.{get_elem?}
use Rattle.std.proofs.lemmas.List.Elements.{All-nil, All-cons, All-set, All-push, All-append, All-weaker}
use Rattle.std.proofs.lemmas.List.Elements.{Contains-append_left, Contains-append_right}
use Rattle.std.proofs.lemmas.List.Sorted.{IsPermutation-refl, IsPermutation-trans, length_permutation}
use Rattle.std.proofs.lemmas.List.Sums.{sum_by_push}
use Rattle.atomic_table.proofs.Lists.{set_else}
use Rattle.jp_board.specs.declared.view.View.{View}
use Rattle.jp_board.specs.Views.{fresh, first_view, joined, spent}
use Rattle.jp_board.specs.Together.{all_claims, all_reports, all_looks, times_told, seats_stood_for}
use Rattle.jp_board.specs.Together.{numbers_below}
use Rattle.jp_board.specs.Events.{first_state}
use Rattle.jp_board.specs.Lawful.{IsLawfulView, Lawful, IsLawful}
use Rattle.jp_board.proofs.Lists.{at_all, sum_set}
use Rattle.jp_board.proofs.Shuffles.{same_list, flat_dealt, flat_joined}
use Rattle.jp_board.proofs.Marks.{mark_shuffled}

-- an empty view is lawful
empty_view : (pieces made p m seats : ℕ) → (0 < seats → (p ≡ pieces) × (m ≡ made))
    → IsLawfulView pieces made (fresh p m seats)
empty_view pieces made p m seats numbers = record {
  told_once = omega arith;
  numbers = numbers;
  reports_claimed = All-nil (Contains []);
  spent_is_empty = λ _. (refl, refl, refl);
}

-- the first state is lawful
pub first_lawful : (pieces made : ℕ) → pieces ≤ 4294967296 → made ≤ 64
    → IsLawful pieces made (first_state pieces made)
first_lawful pieces made few seats =
    let none : min 0 pieces ≡ 0 = omega arith in
    record {
      in_range = (few, seats);
      seats = omega arith;
      each = All-cons (IsLawfulView pieces made) (first_view (pieces, made)) []
          (empty_view pieces made pieces made made (λ _. (refl, refl))) (All-nil (IsLawfulView pieces made));
      claimed_once = subst (λ n. IsPermutation (numbers_below n) []) (sym none) (IsPermutation-refl []);
      next_counts = refl;
      told_late = λ h. absurd (omega arith);
      mark = record {
        given = inl refl;
        under_reports = All-nil (λ x. pieces ≤ x);
        under_looks = All-nil (λ x. pieces ≤ x);
        looks_given = All-nil _;
      };
    }

-- a fresh view is cut in two
pub split_lawful : (pieces made next least : ℕ) (views : List View) (id p m seats : ℕ) → 0 < seats
    → Lawful pieces made next least views
    → get_elem? views id ≡ some (fresh p m seats)
    → Lawful pieces made next least (set views id (fresh p m (seats - 1)) ++ fresh p m 1 ∷ [])
split_lawful pieces made next least views id p m seats some_seat law at =
    let v : View = fresh p m seats in
    let left : View = fresh p m (seats - 1) in
    let right : View = fresh p m 1 in
    let mid : List View = set views id left in
    let after : List View = mid ++ right ∷ [] in
    let f : IsLawfulView pieces made v = at_all (IsLawfulView pieces made) views id v law.each at in
    let numbers = f.numbers some_seat in
    let same : all_claims after ≡ all_claims views = flat_dealt (λ (u : View). u.claims) views id v left right
    at refl refl in
    let long = ap length same in
    let t = sum_set (λ (u : View). u.told) views id v left at in
    let t' = sum_by_push (λ (u : View). u.told) mid right in
    let told : times_told after ≡ times_told views = omega arith in
    let p1 = sum_set (λ (u : View). u.stands_for) views id v left at in
    let p2 = sum_by_push (λ (u : View). u.stands_for) mid right in
    let stood : seats_stood_for after ≡ seats_stood_for views = omega arith in
    let counts = law.next_counts in
    record {
      in_range = law.in_range;
      seats = stood ∙ law.seats;
      each = All-push (IsLawfulView pieces made) mid right
          (All-set (IsLawfulView pieces made) views id left
          (empty_view pieces made p m (seats - 1) (λ _. numbers)) law.each)
          (empty_view pieces made p m 1 (λ _. numbers));
      claimed_once = subst (IsPermutation (numbers_below (min next pieces))) (sym same) law.claimed_once;
      next_counts = omega arith;
      told_late = λ h. law.told_late (omega arith);
      mark = mark_shuffled pieces least (all_reports views) (all_reports after) (all_looks views)
          (all_looks after)
          (same_list (all_reports views) (all_reports after)
          (sym (flat_dealt (λ (u : View). u.reports) views id v left right at refl refl)))
          (same_list (all_looks views) (all_looks after)
          (sym (flat_dealt (λ (u : View). u.looks) views id v left right at refl refl))) law.mark;
    }

-- what two views have reported, they have claimed together
joined_reports : (v w : View) → All (Contains v.claims) v.reports → All (Contains w.claims) w.reports
    → All (Contains (v.claims ++ w.claims)) (v.reports ++ w.reports)
joined_reports v w a b = All-append (Contains (v.claims ++ w.claims)) v.reports w.reports
    (All-weaker (Contains v.claims) (Contains (v.claims ++ w.claims))
    (λ x. Contains-append_left v.claims w.claims x) v.reports a)
    (All-weaker (Contains w.claims) (Contains (v.claims ++ w.claims))
    (λ x. Contains-append_right v.claims w.claims x) w.reports b)

-- a view takes over what another did
pub join_lawful : (pieces made next least : ℕ) (views : List View) (id : ℕ) (v : View) (other : ℕ) (w : View)
    → 0 < v.stands_for → Lawful pieces made next least views
    → get_elem? views id ≡ some v → ¬ (other ≡ id) → get_elem? views other ≡ some w
    → Lawful pieces made next least (set (set views id (joined v w)) other spent)
join_lawful pieces made next least views id v other w some_seat law at apart there =
    let both : View = joined v w in
    let mid : List View = set views id both in
    let after : List View = set mid other spent in
    let at' : get_elem? mid other ≡ some w = set_else views id other both apart ∙ there in
    let f : IsLawfulView pieces made v = at_all (IsLawfulView pieces made) views id v law.each at in
    let g : IsLawfulView pieces made w = at_all (IsLawfulView pieces made) views other w law.each there in
    let shuffled : IsPermutation (all_claims views) (all_claims after) = flat_joined (λ (u : View). u.claims)
    views id other v w both spent at apart there refl refl in
    let long = length_permutation (all_claims views) (all_claims after) shuffled in
    let t1 = sum_set (λ (u : View). u.told) views id v both at in
    let t2 = sum_set (λ (u : View). u.told) mid other w spent at' in
    let told : times_told after ≡ times_told views = omega arith in
    let p1 = sum_set (λ (u : View). u.stands_for) views id v both at in
    let p2 = sum_set (λ (u : View). u.stands_for) mid other w spent at' in
    let stood : seats_stood_for after ≡ seats_stood_for views = omega arith in
    let counts = law.next_counts in
    let told_v = f.told_once in
    let told_w = g.told_once in
    record {
      in_range = law.in_range;
      seats = stood ∙ law.seats;
      each = All-set (IsLawfulView pieces made) mid other spent
          (empty_view pieces made 0 0 0 (λ z. absurd (omega arith)))
          (All-set (IsLawfulView pieces made) views id both record {
            told_once = omega arith;
            numbers = λ _. f.numbers some_seat;
            reports_claimed = joined_reports v w f.reports_claimed g.reports_claimed;
            spent_is_empty = λ z. absurd (omega arith);
          } law.each);
      claimed_once = IsPermutation-trans (numbers_below (min next pieces)) (all_claims views)
          (all_claims after) law.claimed_once shuffled;
      next_counts = omega arith;
      told_late = λ h. law.told_late (omega arith);
      mark = mark_shuffled pieces least (all_reports views) (all_reports after) (all_looks views)
          (all_looks after)
          (flat_joined (λ (u : View). u.reports) views id other v w both spent at apart there refl refl)
          (flat_joined (λ (u : View). u.looks) views id other v w both spent at apart there refl refl)
          law.mark;
    }
