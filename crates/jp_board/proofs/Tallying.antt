-- What the last state says of the view that stands for all seats, and so of all seats.
use Rattle.std.proofs.Common.{◌≡◌, ℕ, zero, suc, ◌+◌, ◌-◌, ◌<◌, ◌≤◌, min, length, ⊎_elim, List, [], ◌∷◌, ◌++◌}
use Rattle.std.proofs.Common.{map, get_or, refl, sym, ap, subst, ◌∙◌, arith, All, Contains, IsPermutation}
use Rattle.std.proofs.Common.{sum_by, flat_map, append-nil}
use mathlib.Core.Option.{some, some-ne-none, some-injective}
use lib.ListN.{get_elem?}
use Rattle.std.proofs.lemmas.List.{map-append}
use Rattle.std.proofs.lemmas.List.Elements.{All-weaker, All-cons, All-nil, All-contains}
use Rattle.std.proofs.lemmas.List.Sorted.{IsPermutation-trans, IsPermutation-sym}
use Rattle.std.proofs.lemmas.List.Sorted.{Contains-permutation, length_permutation}
use Rattle.std.proofs.lemmas.List.FromFn.{length-range_with_len}
use Rattle.std.proofs.lemmas.List.Sums.{sum_by-cons, sum_by_push}
use Rattle.atomic_table.specs.Table.{Final, Seen}
use Rattle.jp_board.specs.declared.view.View.{View}
use Rattle.jp_board.specs.declared.seat.Seat.{Seat}
use Rattle.jp_board.specs.Views.{fresh, less_one, one_of, joined}
use Rattle.jp_board.specs.Together.{all_claims, all_reports, all_looks, times_told, seats_stood_for}
use Rattle.jp_board.specs.Together.{numbers_below}
use Rattle.jp_board.specs.Lawful.{IsLawfulView, Lawful}
use Rattle.jp_board.specs.Rule.{Holds}
use Rattle.jp_board.specs.Steps.{Place}
use Rattle.jp_board.specs.Seats.{view_of}
use Rattle.jp_board.specs.Tally.{Tallies}
use Rattle.jp_board.specs.Account.{SameAccount}
use Rattle.jp_board.proofs.Lists.{all_of, at_all, below_from_contains, contains_below, flat_among, sum_alone}
use Rattle.jp_board.proofs.Lists.{flat_alone}
use Rattle.jp_board.proofs.Shuffles.{same_list, flat_gathered}
use Rattle.jp_board.proofs.Marks.{mark_shuffled}
use Rattle.jp_board.proofs.Lawfuls.{least_le}
use Rattle.jp_board.proofs.Reaching.{lawful_of}

-- dealing one seat after the other off a fresh one leaves fresh ones
pub left_fresh : (old new : Place) (pieces made : ℕ) → old ≡ (fresh pieces made old.0.stands_for, [])
    → new ≡ (less_one old.0, old.1) → (new ≡ (fresh pieces made new.0.stands_for, []))
    × (new.0.stands_for ≡ old.0.stands_for - 1)
left_fresh old new pieces made e f =
    let p = ap (λ (x : Place). x.0.pieces) e in
    let m = ap (λ (x : Place). x.0.made) e in
    let c = ap (λ (x : Place). x.1) e in
    let k : new.0.stands_for ≡ old.0.stands_for - 1 = ap (λ (x : Place). x.0.stands_for) f in
    (f ∙ (λ i. (fresh (p i) (m i) (sym k i), c i)), k)

pub one_fresh : (old new : Place) (pieces made : ℕ) → old ≡ (fresh pieces made old.0.stands_for, [])
    → new ≡ (one_of old.0, []) → new ≡ (fresh pieces made 1, [])
one_fresh old new pieces made e f =
    let p = ap (λ (x : Place). x.0.pieces) e in
    let m = ap (λ (x : Place). x.0.made) e in
    f ∙ (λ i. (fresh (p i) (m i) 1, []))

pub same_trans : (us vs ws : List View) → SameAccount us vs → SameAccount vs ws → SameAccount us ws
same_trans us vs ws a b = record {
  claims = IsPermutation-trans (all_claims us) (all_claims vs) (all_claims ws) a.claims b.claims;
  reports = IsPermutation-trans (all_reports us) (all_reports vs) (all_reports ws) a.reports b.reports;
  looks = IsPermutation-trans (all_looks us) (all_looks vs) (all_looks ws) a.looks b.looks;
  told = b.told ∙ a.told;
}

sum_gathered : (f : View → ℕ) (v w both : View) (rest : List View) → f both ≡ f v + f w
    → sum_by f (both ∷ rest) ≡ sum_by f (v ∷ (rest ++ w ∷ []))
sum_gathered f v w both rest e =
    let a = sum_by-cons f both rest in
    let b = sum_by-cons f v (rest ++ w ∷ []) in
    let c = sum_by_push f rest w in
    a ∙ omega arith ∙ sym b

-- the first view takes over what the last one did
gathered : (v w : View) (rest : List View) → SameAccount (v ∷ (rest ++ w ∷ [])) (joined v w ∷ rest)
gathered v w rest = record {
  claims = flat_gathered (λ (u : View). u.claims) v w (joined v w) rest refl;
  reports = flat_gathered (λ (u : View). u.reports) v w (joined v w) rest refl;
  looks = flat_gathered (λ (u : View). u.looks) v w (joined v w) rest refl;
  told = sum_gathered (λ (u : View). u.told) v w (joined v w) rest refl;
}

-- the last seat goes to the front
pub first_gathered : (s : Seat) (rest all : List Seat) → all ≡ rest ++ s ∷ []
    → SameAccount (map view_of all) (view_of s ∷ map view_of rest)
first_gathered s rest all e =
    let is : map view_of all ≡ map view_of rest ++ view_of s ∷ [] = ap (map view_of) e
    ∙ map-append view_of rest (s ∷ []) in
    subst (λ l. SameAccount l (view_of s ∷ map view_of rest)) (sym is) (front (view_of s) (map view_of rest))
  where
    sums : (f : View → ℕ) (v : View) (vs : List View) → sum_by f (v ∷ vs) ≡ sum_by f (vs ++ v ∷ [])
    sums f v vs = let a = sum_by-cons f v vs in let b = sum_by_push f vs v in a ∙ omega arith ∙ sym b

    none : View
    none = fresh 0 0 0

    front : (v : View) (vs : List View) → SameAccount (vs ++ v ∷ []) (v ∷ vs)
    front v vs = record {
      claims = flat_gathered (λ (u : View). u.claims) none v v vs refl;
      reports = flat_gathered (λ (u : View). u.reports) none v v vs refl;
      looks = flat_gathered (λ (u : View). u.looks) none v v vs refl;
      told = sums (λ (u : View). u.told) v vs;
    }

pub next_gathered : (v : View) (s : Seat) (rest before : List Seat) (all : List View)
    → SameAccount all (v ∷ map view_of before) → before ≡ rest ++ s ∷ []
    → SameAccount all (joined v (view_of s) ∷ map view_of rest)
next_gathered v s rest before all a e =
    let is : map view_of before ≡ map view_of rest ++ view_of s ∷ [] = ap (map view_of) e
    ∙ map-append view_of rest (s ∷ []) in
    same_trans all (v ∷ (map view_of rest ++ view_of s ∷ [])) (joined v (view_of s) ∷ map view_of rest)
    (subst (λ l. SameAccount all (v ∷ l)) is a) (gathered v (view_of s) (map view_of rest))

-- a tally is one of all views that did the same together
pub tallies_same : (pieces claimed least : ℕ) (us vs : List View) → SameAccount us vs
    → Tallies pieces claimed least vs → Tallies pieces claimed least us
tallies_same pieces claimed least us vs a t = record {
  claimed_once = IsPermutation-trans (numbers_below claimed) (all_claims vs) (all_claims us) t.claimed_once
      (IsPermutation-sym (all_claims us) (all_claims vs) a.claims);
  all_claimed = λ h. t.all_claimed (let e = a.told in omega arith);
  within = t.within;
  reports_claimed = all_of (Contains (all_claims us)) (all_reports us) (λ x has.
      Contains-permutation (all_claims vs) (all_claims us) x
      (IsPermutation-sym (all_claims us) (all_claims vs) a.claims)
      (All-contains (Contains (all_claims vs)) (all_reports vs) x t.reports_claimed
      (Contains-permutation (all_reports us) (all_reports vs) x a.reports has)));
  mark = mark_shuffled pieces least (all_reports vs) (all_reports us) (all_looks vs) (all_looks us)
      (IsPermutation-sym (all_reports us) (all_reports vs) a.reports)
      (IsPermutation-sym (all_looks us) (all_looks vs) a.looks) t.mark;
}

-- the number at a place of a list
index_at : (ws : List ℕ) (i k : ℕ) → get_elem? ws i ≡ some k → get_or ws i 0 ≡ k
index_at [] i k e = absurd (some-ne-none k (sym e))
index_at (x ∷ xs) zero k e = some-injective x k e
index_at (x ∷ xs) (suc i) k e = index_at xs i k e

-- where each view's reports are among its claims, so are those of all
reported_claimed : (views : List View) → All (λ (u : View). All (Contains u.claims) u.reports) views
    → All (Contains (all_claims views)) (all_reports views)
reported_claimed views h = all_of (Contains (all_claims views)) (all_reports views)
    (λ x has. flat_among (λ (u : View). u.reports) (λ (u : View). u.claims) views h x has)

-- where one view stands for all seats, the others are empty, and the lawful state speaks of it alone
alone_tallies : (pieces made next least : ℕ) (views : List View) (id : ℕ) (v : View)
    → Lawful pieces made next least views → get_elem? views id ≡ some v → v.stands_for ≡ made
    → Tallies pieces (min next pieces) least (v ∷ [])
alone_tallies pieces made next least views id v law at whole =
    let parts : seats_stood_for views ≡ v.stands_for = law.seats ∙ sym whole in
    let list : (f : View → List ℕ) → ((u : View) → IsLawfulView pieces made u → u.stands_for ≡ 0 → f u ≡ [])
    → flat_map f views ≡ flat_map f (v ∷ []) = λ f empty.
    flat_alone (λ (u : View). u.stands_for) f views id v
    (All-weaker (IsLawfulView pieces made) (λ u. u.stands_for ≡ 0 → f u ≡ []) empty views law.each) at parts
    ∙ sym (append-nil (f v)) in
    let cs : all_claims views ≡ all_claims (v ∷ []) =
    list (λ (u : View). u.claims) (λ u k z. (k.spent_is_empty z).0) in
    let rs : all_reports views ≡ all_reports (v ∷ []) =
    list (λ (u : View). u.reports) (λ u k z. (k.spent_is_empty z).1) in
    let ls : all_looks views ≡ all_looks (v ∷ []) =
    list (λ (u : View). u.looks) (λ u k z. (k.spent_is_empty z).2) in
    let told : times_told views ≡ v.told = sum_alone (λ (u : View). u.stands_for) (λ (u : View). u.told) views
    id v
    (All-weaker (IsLawfulView pieces made) (λ u. u.stands_for ≡ 0 → u.told ≡ 0) (λ u k z. let t =
    k.told_once in omega arith) views law.each) at parts in
    let one = sum_by-cons (λ (u : View). u.told) v [] in
    let low = least_le law in
    record {
      claimed_once = subst (IsPermutation (numbers_below (min next pieces))) cs law.claimed_once;
      all_claimed = λ h. let late = law.told_late (omega arith) in omega arith;
      within = (omega arith, low);
      reports_claimed = reported_claimed (v ∷ []) (All-cons (λ u. All (Contains u.claims) u.reports) v []
          (at_all (IsLawfulView pieces made) views id v law.each at).reports_claimed
          (All-nil (λ (u : View). All (Contains u.claims) u.reports)));
      mark = mark_shuffled pieces least (all_reports views) (all_reports (v ∷ [])) (all_looks views)
          (all_looks (v ∷ [])) (same_list (all_reports views) (all_reports (v ∷ [])) rs)
          (same_list (all_looks views) (all_looks (v ∷ [])) ls) law.mark;
    }

pub settles : (key : ℕ × ℕ) (id : ℕ) (v : View) (ws : List ℕ) (xs : List (Unit {0})) (next least : ℕ)
    → Final (Seen (Holds key) id v) ws xs → v.stands_for ≡ key.1 → get_elem? ws 0 ≡ some next
    → get_elem? ws 1 ≡ some least → Tallies key.0 (min next key.0) least (v ∷ [])
settles key id v ws xs next least (s, (h, at), is, _, _) whole at0 at1 =
    let first = index_at s.words 0 next (ap (λ l. get_elem? l 0) is ∙ at0) in
    let second = index_at s.words 1 least (ap (λ l. get_elem? l 1) is ∙ at1) in
    alone_tallies key.0 key.1 next least s.views id v
    (subst (λ (z : ℕ × ℕ). Lawful key.0 key.1 z.0 z.1 s.views) (λ i. (first i, second i))
    (lawful_of key s h)) at whole

-- what a tally says of the reports

pub reports_below : (pieces claimed least x : ℕ) (views : List View) → Tallies pieces claimed least views
    → Contains (all_reports views) x → x < claimed
reports_below pieces claimed least x views t h =
    below_from_contains claimed x (Contains-permutation (all_claims views) (numbers_below claimed) x
    (IsPermutation-sym (numbers_below claimed) (all_claims views) t.claimed_once)
    (All-contains (Contains (all_claims views)) (all_reports views) x t.reports_claimed h))

pub least_below : (pieces claimed least x : ℕ) (views : List View) → Tallies pieces claimed least views
    → Contains (all_reports views) x → least ≤ x
least_below pieces claimed least x views t h = All-contains (λ y. least ≤ y) (all_reports views) x
    t.mark.under_reports h

pub least_reported : (pieces claimed least x : ℕ) (views : List View) → Tallies pieces claimed least views
    → Contains (all_reports views) x → Contains (all_reports views) least
least_reported pieces claimed least x views t h =
    let below = reports_below pieces claimed least x views t h in
    let low = least_below pieces claimed least x views t h in
    let few = t.within.0 in
    ⊎_elim (λ (e : least ≡ pieces). absurd (omega arith)) (λ (c : Contains (all_reports views) least). c)
    t.mark.given

pub none_reported : (pieces claimed least : ℕ) (views : List View) → Tallies pieces claimed least views
    → all_reports views ≡ [] → least ≡ pieces
none_reported pieces claimed least views t none =
    ⊎_elim (λ (e : least ≡ pieces). e)
    (λ (c : Contains (all_reports views) least). let lt = c.1 in let long =
    ap length none in absurd (omega arith)) t.mark.given

-- what a tally says of the claims

pub claims_each : (pieces claimed least x : ℕ) (views : List View) → Tallies pieces claimed least views
    → x < claimed
    → Contains (all_claims views) x
claims_each pieces claimed least x views t below =
    Contains-permutation (numbers_below claimed) (all_claims views) x t.claimed_once
    (contains_below claimed x below)

pub claims_below : (pieces claimed least x : ℕ) (views : List View) → Tallies pieces claimed least views
    → Contains (all_claims views) x → x < claimed
claims_below pieces claimed least x views t h =
    below_from_contains claimed x (Contains-permutation (all_claims views) (numbers_below claimed) x
    (IsPermutation-sym (numbers_below claimed) (all_claims views) t.claimed_once) h)

pub claims_once : (pieces claimed least : ℕ) (views : List View) → Tallies pieces claimed least views
    → length (all_claims views) ≡ claimed
claims_once pieces claimed least views t =
    length_permutation (numbers_below claimed) (all_claims views) t.claimed_once
    ∙ length-range_with_len 0 claimed

pub claims_all : (pieces claimed least x : ℕ) (views : List View) → Tallies pieces claimed least views
    → 0 < times_told views
    → x < pieces → Contains (all_claims views) x
claims_all pieces claimed least x views t told below =
    let whole = t.all_claimed told in claims_each pieces claimed least x views t (omega arith)
