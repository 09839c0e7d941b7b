-- That each event leads from a lawful state to another, and that the steps of a board's table are events.
use Rattle.std.proofs.Common.{◌≡◌, ℕ, ◌+◌, ◌<◌, ◌≤◌, Bool, true, false, nat_lt, if◌then◌else◌, List, [], ◌∷◌}
use Rattle.std.proofs.Common.{length, set}
use Rattle.std.proofs.Common.{refl, sym, ap, subst, ◌∙◌, arith}
use mathlib.Core.Option.{some}
use lib.ListN.{get_elem?}
use Rattle.std.proofs.lemmas.Bool.{ltb-true, ltb-false}
use Rattle.atomic_table.specs.Table.{State, Splits, Joins, opening}
use Rattle.atomic_table.proofs.Lists.{set_else}
use Rattle.jp_board.specs.declared.view.View.{View}
use Rattle.jp_board.specs.Views.{fresh, first_view, IsFreshView, with_claim, with_told, less_one, one_of}
use Rattle.jp_board.specs.Views.{joined, spent}
use Rattle.jp_board.specs.Events.{BoardState, Event, claim, report, look, split, join, May, seat_of, Leads}
use Rattle.jp_board.specs.Events.{Happens, LeadTo, IsReached, first_state}
use Rattle.jp_board.specs.Lawful.{IsLawfulView, Lawful, IsLawful}
use Rattle.jp_board.specs.Rule.{Holds, state_of}
use Rattle.jp_board.proofs.Lists.{at_from_get, get_from_at, at_all}
use Rattle.jp_board.proofs.Lawfuls.{claim_lawful, told_lawful, report_lawful, look_lawful, next_le, least_le}
use Rattle.jp_board.proofs.Parts.{first_lawful, split_lawful, join_lawful}

-- a claim finds a piece, or none
claimed_lawful : (pieces made next least : ℕ) (views : List View) (id : ℕ) (v : View)
    → Lawful pieces made next least views
    → get_elem? views id ≡ some v → v.told < v.stands_for → (found : Bool) → nat_lt next v.pieces ≡ found
    → Lawful pieces made (next + 1) least (set views id (if found then with_claim v next else with_told v))
claimed_lawful pieces made next least views id v law at untold true is =
    let f : IsLawfulView pieces made v = at_all (IsLawfulView pieces made) views id v law.each at in
    let b = f.numbers (omega arith) in
    let below = ltb-true next v.pieces is in
    claim_lawful pieces made next least views id v law at (omega arith) (omega arith)
claimed_lawful pieces made next least views id v law at untold false is =
    let f : IsLawfulView pieces made v = at_all (IsLawfulView pieces made) views id v law.each at in
    let b = f.numbers (omega arith) in
    let past = ltb-false next v.pieces is in
    told_lawful pieces made next least views id v law at (omega arith) untold

event_lawful : (pieces made : ℕ) (e : Event) (v : View) (s t : BoardState) → IsLawful pieces made s
    → get_elem? s.views (seat_of e) ≡ some v → May e v → Leads e v s t → IsLawful pieces made t
event_lawful pieces made (claim seat) v s t law at may is =
    subst (IsLawful pieces made) (sym is) (claimed_lawful pieces made s.next s.least s.views seat v law at may
    (nat_lt s.next v.pieces) refl)
event_lawful pieces made (report seat piece) v s t law at may is =
    subst (IsLawful pieces made) (sym is) (report_lawful pieces made s.next s.least s.views seat v piece law
    at may.1 may.0)
event_lawful pieces made (look seat) v s t law at may is =
    subst (IsLawful pieces made) (sym is) (look_lawful pieces made s.next s.least s.views seat v law at may)
event_lawful pieces made (split seat) v s t law at may is =
    subst (IsLawful pieces made) (sym is)
    (split_lawful pieces made s.next s.least s.views seat v.pieces v.made v.stands_for may.0 law (at
    ∙ ap some may.1))
event_lawful pieces made (join seat other) v s t law at may (w, there, is) =
    subst (IsLawful pieces made) (sym is) (join_lawful pieces made s.next s.least s.views seat v other w may.0
    law at may.1 (at_from_get s.views other w there))

pub happens_lawful : (pieces made : ℕ) (e : Event) (s t : BoardState) → IsLawful pieces made s → Happens e s t
    → IsLawful pieces made t
happens_lawful pieces made e s t law (v, at, may, is) = event_lawful pieces made e v s t law
    (at_from_get s.views (seat_of e) v at) may is

pub led_lawful : (pieces made : ℕ) (es : List Event) (s t : BoardState) → IsLawful pieces made s
    → LeadTo es s t → IsLawful pieces made t
led_lawful pieces made [] s t law is = subst (IsLawful pieces made) (sym is) law
led_lawful pieces made (e ∷ es) s t law (before, led, happens) =
    happens_lawful pieces made e before t (led_lawful pieces made es s before law led) happens

pub next_in_range : (pieces made : ℕ) (s : BoardState) → IsLawful pieces made s → s.next ≤ pieces + 64
next_in_range pieces made s law = let top = next_le law in let few = law.in_range in omega arith

pub least_in_range : (pieces made : ℕ) (s : BoardState) → IsLawful pieces made s → s.least ≤ pieces
least_in_range pieces made s law = least_le law

pub reached_lawful : (pieces made : ℕ) (s : BoardState) → pieces ≤ 4294967296 → made ≤ 64
    → IsReached pieces made s
    → IsLawful pieces made s
reached_lawful pieces made s few seats (es, led) =
    led_lawful pieces made es (first_state pieces made) s (first_lawful pieces made few seats) led

-- the table

pub lawful_of : (key : ℕ × ℕ) (s : State (Unit {0}) View) → Holds key s → IsLawful key.0 key.1 (state_of s)
lawful_of key s h =
    reached_lawful key.0 key.1 (state_of s) h.in_range.0 h.in_range.1 h.reached

-- a step of the table that is an event
pub goes_on : (key : ℕ × ℕ) (s t : State (Unit {0}) View) → Holds key s → length t.words ≡ 2
    → (e : Event) (v : View)
    → get_elem? s.views (seat_of e) ≡ some v → May e v → Leads e v (state_of s) (state_of t) → Holds key t
goes_on key s t h wide e v at may leads = record {
  words = wide;
  in_range = h.in_range;
  reached = (
    e ∷ h.reached.0,
    (state_of s, h.reached.1, (v, get_from_at s.views (seat_of e) v at, may, leads)),
  );
}

pub opens : (pieces made : ℕ) → pieces ≤ 4294967296 → made ≤ 64
    → Holds (pieces, made) (opening (0 ∷ pieces ∷ []) [] (first_view (pieces, made)))
opens pieces made few seats = record { words = refl; in_range = (few, seats); reached = ([], refl) }

pub deals : (key : ℕ × ℕ) (id : ℕ) (v : View) (p m seats : ℕ) → v ≡ fresh p m seats → 0 < seats
    → Splits (Holds key) id v (less_one v) (one_of v)
deals key id v p m seats is some_seat s h at =
    let back = sym is in
    let stands : seats ≡ v.stands_for = ap (λ (u : View). u.stands_for) back in
    let untouched : IsFreshView v =
    is ∙ (λ i. fresh (ap (λ (u : View). u.pieces) back i) (ap (λ (u : View). u.made) back i) (stands i)) in
    goes_on key s _ h h.words (split id) v at (omega arith, untouched) refl

pub gathers : (key : ℕ × ℕ) (id : ℕ) (v : View) (other : ℕ) (w : View) → 0 < v.stands_for
    → Joins (Holds key) id v other w (joined v w) spent
gathers key id v other w some_seat s h at apart at' =
    let there : get_elem? s.views other ≡ some w = sym (set_else s.views id other (joined v w) apart) ∙ at' in
    goes_on key s _ h h.words (join id other) v at (some_seat, apart)
    (w, get_from_at s.views other w there, refl)
