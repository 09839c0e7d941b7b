-- What the steps of a DFA lead to.
use Rattle.std.proofs.Common.{◌≡◌, ℕ, zero, suc, ◌<◌, ◌⊎◌, ◌↔◌, Bool, true, false, IsTrue, List, [], ◌∷◌}
use Rattle.std.proofs.Common.{length, slice_index_or, refl, sym, ap, ◌∙◌, subst, arith, nat_eq, not}
use Rattle.std.proofs.Common.{true≢false, nat_lt, inl, inr, if◌then◌else◌}
use Rattle.std.proofs.lemmas.Bool.{ltb-true, ltb-false}
use Rattle.jp_automaton.specs.declared.dfa.State.{State}
use Rattle.jp_automaton.specs.declared.dfa.Dfa.{Dfa}
use Rattle.jp_pattern.specs.CharSets.{is_scalar}
use Rattle.jp_pattern.specs.Language.{Member}
use Rattle.jp_pattern.specs.Pattern.{Text, Pattern}
use Rattle.jp_pattern.specs.Profile.{HasCounts}
use Rattle.jp_automaton.specs.inner.Dfa.{AreStates, HasPositions, IsCell, IsColumnOf, IsState, IsDfa, IsDfaOf}
use Rattle.jp_automaton.specs.inner.Dfa.{cell_at, column_of}
use Rattle.jp_pattern.specs.Unrolled.{unrolled, SomePositionHas, all_positions}
use Rattle.jp_automaton.specs.inner.Simulation.{step, is_elem}
use Rattle.std.proofs.lemmas.Bool.Decides.{nat_tests}
use Rattle.jp_automaton.proofs.FindLemmas.{all_left}
use Rattle.jp_automaton.proofs.TermLemmas.{takes_step, accepted}

-- a DFA without states
pub no_dfa : (p : Pattern) (unanchored : Bool) (dfa : Dfa) → dfa.states.items ≡ [] → dfa.cells.items ≡ []
    → IsDfa (unrolled p) unanchored dfa
no_dfa p unanchored dfa none no_cells =
    let empty : length dfa.states.items ≡ 0 = ap length none in
    let no_cell : length dfa.cells.items ≡ 0 = ap length no_cells in
    record {
      steps = record {
        known = record {
          each = λ i s lt. absurd (omega arith);
          no_match = λ i s past lt. absurd (omega arith);
          first = λ s lt. absurd (omega arith);
        };
        few = omega arith;
        cell = λ i column lt in_row. absurd (omega arith);
        stays = λ i column lt low high. absurd (omega arith);
      };
      full = omega arith;
    }

-- a list that is not empty, by the test of the code
pub is_some : (n : ℕ) (b : Bool) → b ≡ nat_eq n 0 → b ≡ false → 0 < n
is_some zero b e f = absurd (true≢false (sym e ∙ f))
is_some (suc n) b e f = omega arith

pub is_zero : (n : ℕ) → not (nat_eq n 0) ≡ false → n ≡ 0
is_zero n e = grind (arith, nat_tests)

-- the positions of a state
abbrev pub positions_at : State → List ℕ
positions_at s = all_positions s.at_start s.active.items

module _ (p : Pattern) where
  pub has_positions : (s : State) (active : List ℕ) (start : Bool) → HasPositions s active start →
      positions_at s ≡
      all_positions start active
  has_positions s active start of = ap (λ b. all_positions b s.active.items) of.start ∙
      ap (all_positions start) of.positions

  module _ (counts : HasCounts p) (unanchored : Bool) (states : List State) (cells : List ℕ)
      (of : IsDfaOf (unrolled p) unanchored states cells) where
    pub state_accepts : (i : ℕ) (s t : State) → i < length states → s ≡ slice_index_or states i t →
        IsTrue s.accepts ↔ SomePositionHas p (positions_at s) []
    state_accepts i s t lt e =
        let here : IsState (unrolled p) s = subst (IsState (unrolled p)) (sym e) (of.known.each i t lt) in
        accepted p counts s.at_start s.active.items here.rises s.accepts here.accepts

    module _ (i c n : ℕ) (lt : i < length states) (small : n < 254)
        (cell : IsCell (unrolled p) unanchored states i c n) where
      pub next_takes : (s t : State) (u : Text) → SomePositionHas p
          (positions_at (slice_index_or states n t)) u
          ↔ (SomePositionHas p (positions_at (slice_index_or states i s)) (c ∷ u) ⊎
          (IsTrue unanchored × Member p u))
      next_takes s t u =
          let from = slice_index_or states i s in
          let next = step (is_elem from.active.items) c (unrolled p) 0 from.at_start in
          let stepped =
          takes_step p counts from.at_start from.active.items (of.known.each i s lt).rises c unanchored
          next refl u in
          subst
          (λ positions. SomePositionHas p positions u
          ↔ (SomePositionHas p (positions_at from) (c ∷ u) ⊎ (IsTrue unanchored × Member p u)))
          (sym (has_positions (slice_index_or states n t) next unanchored (cell.follows s t small))) stepped

-- the text is among those that are left at the state of this number
abbrev pub LeftAt : Pattern → List State → ℕ → State → Text → Type 0
LeftAt p states i s u = SomePositionHas p (positions_at (slice_index_or states i s)) u

pub left_state : (p : Pattern) (states : List State) (i : ℕ) (s t : State) → s ≡ slice_index_or states i t →
    (u : Text) →
    SomePositionHas p (positions_at s) u → LeftAt p states i t u
left_state p states i s t e u h = subst (λ x. SomePositionHas p (positions_at x) u) e h

pub start_left : (p : Pattern) (states : List State) → AreStates (unrolled p) states → 0 < length states →
    (s : State) (u : Text) →
    LeftAt p states 0 s u ↔ Member p u
start_left p states of some s u =
    subst (λ positions. SomePositionHas p positions u ↔ Member p u)
    (sym (has_positions p _ [] true (of.first s some)))
    (all_left p u)

-- the first column of a character
first_column : (c : ℕ) → IsColumnOf c (column_of c) × (column_of c < 256)
first_column c = by (nat_lt c 128) refl where
  by : (b : Bool) → nat_lt c 128 ≡ b →
      IsColumnOf c (if b then c else 192) × ((if b then c else 192) < 256)
  by true e = let lt = ltb-true c 128 e in (inl (lt, refl), omega arith)
  by false e = (inr (ltb-false c 128 e, omega arith), omega arith)

-- a step from the start back to the start
pub nothing_begins : (p : Pattern) (states : List State) (cells : List ℕ) →
    IsDfaOf (unrolled p) true states cells → (c : ℕ) → 0 < length states → IsTrue (is_scalar c) →
    cell_at cells 0 (column_of c) ≡ 0 → step (is_elem []) c (unrolled p) 0 true ≡ []
nothing_begins p [] cells of c some scalar e = absurd (omega arith)
nothing_begins p (s ∷ states) cells of c some scalar e =
    let first = of.known.first s some in
    let here = of.cell 0 (column_of c) some (first_column c).1 c scalar (first_column c).0 in
    let one = subst (IsCell (unrolled p) true (s ∷ states) 0 c) e here in
    let next = one.follows s s (omega arith) in
    ap (λ active. step (is_elem active) c (unrolled p) 0 true) (sym first.positions)
    ∙ ap (λ b. step (is_elem s.active.items) c (unrolled p) 0 b) (sym first.start)
    ∙ (sym next.positions ∙ first.positions)
