-- That the table lets a seat claim, report and look.
use Rattle.std.proofs.Common.{◌≡◌, ℕ, ◌+◌, ◌%◌, ◌^◌, ◌<◌, ◌≤◌, min, if◌then◌else◌, set, get_or, refl, sym, ap}
use Rattle.std.proofs.Common.{subst, ◌∙◌, slice_get}
use Rattle.std.proofs.Common.{arith, Contains, length-set, get_or-set_same, get_or-set_other}
use mathlib.Core.Option.{none, some}
use lib.ListN.{get_elem?}
use Rattle.std.proofs.lemmas.Bool.{lt-ltb, le-ltb}
use Rattle.std.proofs.lemmas.List.Elements.{All-contains}
use Rattle.atomic_table.specs.Table.{State, step, keeps, stepped, Allows}
use Rattle.jp_board.specs.declared.view.View.{View}
use Rattle.jp_board.specs.Views.{with_claim, with_told, with_report, with_look}
use Rattle.jp_board.specs.Together.{all_reports, all_looks}
use Rattle.jp_board.specs.Events.{BoardState, Event, claim, report, look, after_claim, Happens, IsReached}
use Rattle.jp_board.specs.Events.{found_by}
use Rattle.jp_board.specs.Lawful.{IsLawfulView, Lawful}
use Rattle.jp_board.specs.Rule.{Holds, state_of}
use Rattle.jp_board.specs.Steps.{Place, IsStep, Claims, Reports, Looks}
use Rattle.jp_board.proofs.Lists.{get_from_at, get_set, at_all, all_of, set_contains, flat_contains}
use Rattle.jp_board.proofs.Lawfuls.{next_le, claim_below, least_le, look_lawful}
use Rattle.jp_board.proofs.Reaching.{lawful_of, goes_on}

-- what makes a step of the table an event
is_step : (key : ℕ × ℕ) (id : ℕ) (e : ℕ → Event) (v w : View) (s : State (Unit {0}) View) (t : BoardState)
    → Holds key s
    → (v.pieces ≡ key.0) × (v.made ≡ key.1) → get_elem? s.views id ≡ some v → Happens (e id) (state_of s) t
    → t.views ≡ set s.views id w → IsStep e (found_by (e id) (state_of s)) v w
is_step key id e v w s t h b at happens is = record {
  seat = id;
  before = state_of s;
  after = t;
  reached = subst (λ (z : ℕ × ℕ). IsReached z.0 z.1 (state_of s)) (λ i. (sym b.0 i, sym b.1 i)) h.reached;
  happens = happens;
  finds = refl;
  view_before = get_from_at s.views id v at;
  view_after = ap (λ l. slice_get l id) is ∙ get_set s.views id v w at;
}

pub claims : (key : ℕ × ℕ) (slots id : ℕ) (me : Place) → me.0.stands_for ≡ 1 → me.0.told ≡ 0
    → Allows (Holds key) slots id me 0 (λ n. (n + 1) % 2 ^ 64) (Claims (step slots 0 1 0 none) me)
claims key slots id me one untold s h _ at small =
    let n : ℕ = get_or s.words 0 0 in
    let l : ℕ = get_or s.words 1 0 in
    let k : ℕ = (n + 1) % 18446744073709551616 in
    let law : Lawful key.0 key.1 n l s.views = lawful_of key s h in
    let v : View = me.0 in
    let w : View = after_claim v n in
    let f : IsLawfulView key.0 key.1 v = at_all (IsLawfulView key.0 key.1) s.views id v law.each at in
    let b = f.numbers (omega arith) in
    let top = next_le law in
    let few = law.in_range in
    let wide = h.words in
    let next : get_or (set s.words 0 k) 0 0 ≡ n + 1 = get_or-set_same s.words 0 k 0 (omega arith)
    ∙ omega arith in
    let least = get_or-set_other s.words 0 1 k 0 (λ e. absurd (omega arith)) in (
      w,
      keeps,
      tt,
      goes_on key s (stepped s 0 k id me.1 w keeps) h (length-set s.words 0 k ∙ wide) (claim id) v at
          (omega arith)
          (λ i. record { next = next i; least = least i; views = set s.views id w }),
      (
        (λ left. (
          ap (λ t. if t then with_claim v n else with_told v) (lt-ltb n v.pieces left),
          all_of (λ x. x < n) v.claims
              (λ x has. let below =
              claim_below law x (flat_contains (λ (u : View). u.claims) s.views id v x at has) in omega
              arith),
        )),
        (λ past. ap (λ t. if t then with_claim v n else with_told v) (le-ltb n v.pieces past)),
        refl,
        is_step key id claim v w s (record { next = n + 1; least = l; views = set s.views id w }) h b at
            (v, get_from_at s.views id v at, omega arith, refl) refl,
      ),
    )

pub reports : (key : ℕ × ℕ) (slots id : ℕ) (me : Place) (r : ℕ) → me.0.stands_for ≡ 1 → Contains me.0.claims r
    → Allows (Holds key) slots id me 1 (λ n. min n r) (Reports (step slots 1 r 0 none) me)
reports key slots id me r one mine s h _ at small =
    let n : ℕ = get_or s.words 0 0 in
    let l : ℕ = get_or s.words 1 0 in
    let law : Lawful key.0 key.1 n l s.views = lawful_of key s h in
    let f : IsLawfulView key.0 key.1 me.0 = at_all (IsLawfulView key.0 key.1) s.views id me.0 law.each at in
    let b = f.numbers (omega arith) in
    let w : View = with_report me.0 r in
    let wide = h.words in
    let next = get_or-set_other s.words 1 0 (min l r) 0 (λ e. absurd (omega arith)) in
    let least = get_or-set_same s.words 1 (min l r) 0 (omega arith) in (
      w,
      keeps,
      tt,
      goes_on key s (stepped s 1 (min l r) id me.1 w keeps) h (length-set s.words 1 (min l r) ∙ wide)
          (report id r) me.0 at
          (omega arith, mine) (λ i. record { next = next i; least = least i; views = set s.views id w }),
      (
        refl,
        refl,
        is_step key id (λ seat. report seat r) me.0 w s
            (record { next = n; least = min l r; views = set s.views id w }) h b at
            (me.0, get_from_at s.views id me.0 at, (omega arith, mine), refl) refl,
      ),
    )

pub looks : (key : ℕ × ℕ) (slots id : ℕ) (me : Place) → me.0.stands_for ≡ 1
    → Allows (Holds key) slots id me 1 (λ n. n) (Looks (step slots 1 0 0 none) me)
looks key slots id me one s h _ at small =
    let n : ℕ = get_or s.words 0 0 in
    let l : ℕ = get_or s.words 1 0 in
    let v : View = me.0 in
    let law : Lawful key.0 key.1 n l s.views = lawful_of key s h in
    let f : IsLawfulView key.0 key.1 v = at_all (IsLawfulView key.0 key.1) s.views id v law.each at in
    let b = f.numbers (omega arith) in
    let w : View = with_look v l in
    let after : Lawful key.0 key.1 n l (set s.views id w) = look_lawful key.0 key.1 n l s.views id v law at
    (omega arith) in
    let low = least_le law in
    let wide = h.words in
    let next = get_or-set_other s.words 1 0 l 0 (λ e. absurd (omega arith)) in
    let least = get_or-set_same s.words 1 l 0 (omega arith) in (
      w,
      keeps,
      tt,
      goes_on key s (stepped s 1 l id me.1 w keeps) h (length-set s.words 1 l ∙ wide) (look id) v at
          (omega arith)
          (λ i. record { next = next i; least = least i; views = set s.views id w }),
      (
        refl,
        omega arith,
        all_of (λ x. l ≤ x) v.looks (λ x has. All-contains (λ x. l ≤ x) (all_looks s.views) x
            law.mark.under_looks (flat_contains (λ (u : View). u.looks) s.views id v x at has)),
        all_of (λ x. l ≤ x) v.reports (λ x has. All-contains (λ x. l ≤ x) (all_reports s.views) x
            law.mark.under_reports (flat_contains (λ (u : View). u.reports) s.views id v x at has)),
        (
          n,
          set s.views id w,
          set_contains s.views id v w at,
          subst
              (λ (z : ℕ × ℕ). Lawful z.0 z.1 n l (set s.views id w)) (λ i. (sym b.0 i, sym b.1 i)) after,
        ),
        refl,
        is_step key id look v w s (record { next = n; least = l; views = set s.views id w }) h b at
            (v, get_from_at s.views id v at, omega arith, refl) refl,
      ),
    )
