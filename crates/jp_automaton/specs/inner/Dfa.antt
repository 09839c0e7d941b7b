-- A working file, which nobody has to believe: what a DFA holds. No public contract names it.
use Rattle.std.specs.Prelude.{◌≡◌, ℕ, ◌+◌, ◌*◌, ◌<◌, ◌≤◌, ◌⊎◌, Bool, true, false, nat_lt, List, [], ◌∷◌}
use Rattle.std.specs.Prelude.{length, IsTrue, slice_index_or, if◌then◌else◌}
use Rattle.jp_automaton.specs.declared.dfa.State.{State}
use Rattle.jp_automaton.specs.declared.dfa.Dfa.{Dfa}
use Rattle.jp_automaton.specs.declared.limits.TheConstants.{STRIDE, MAX_STATES}
use Rattle.jp_automaton.specs.declared.dfa.TheConstants.{QUIT, MATCH_OR_DEAD, CONTINUATION, PAST_ASCII}
use Rattle.jp_pattern.specs.CharSets.{is_scalar}
use Rattle.jp_pattern.specs.Unrolled.{Unrolled}
use Rattle.jp_automaton.specs.inner.Simulation.{step, is_elem, exits, Rises}

-- the state has these positions and no others
pub record HasPositions (s : State) (active : List ℕ) (at_start : Bool) : Type 0 where
  pub positions : s.active.items ≡ active
  pub start : s.at_start ≡ at_start

-- the positions rise, and the state accepts where the empty text is left there
pub record IsState (p : Unrolled) (s : State) : Type 0 where
  pub rises : Rises 0 s.active.items
  pub accepts : s.accepts ≡ exits (is_elem s.active.items) p 0 s.at_start

-- each of them, and the first is the start; no other is a match state where a part is looked for
pub record AreStates (p : Unrolled) (states : List State) : Type 0 where
  pub each : (i : ℕ) (s : State) → i < length states → IsState p (slice_index_or states i s)
  pub no_match : (i : ℕ) (s : State) → 0 < i → i < length states →
      (slice_index_or states i s).at_start ≡ true → (slice_index_or states i s).accepts ≡ false
  pub first : (s : State) → 0 < length states → HasPositions (slice_index_or states 0 s) [] true

-- there are more of them
pub record Grows (p : Unrolled) (old new : List State) : Type 0 where
  pub states : AreStates p new
  pub longer : length old ≤ length new
  pub same : (i : ℕ) (s : State) → i < length old → slice_index_or new i s ≡ slice_index_or old i s

-- the positions that a step by c gives of the state's
abbrev pub next_positions : Unrolled → State → ℕ → List ℕ
next_positions p from c = step (is_elem from.active.items) c p 0 from.at_start

-- the positions of the one state are those that a step by c gives of the other's
abbrev pub Follows : Unrolled → Bool → State → ℕ → State → Type 0
Follows p unanchored from c to = HasPositions to (next_positions p from c) unanchored

-- What a cell of a state and a character holds is the number of the next state, if it is below `MAX_STATES`.
-- It is `MATCH_OR_DEAD` only where a part is found by the step, or, of a whole text, nothing is left behind
-- it.
pub record IsCell (p : Unrolled) (unanchored : Bool) (states : List State) (i c cell : ℕ) : Type 0 where
  pub within : cell < MAX_STATES → cell < length states
  pub follows : (s t : State) → cell < MAX_STATES →
      Follows p unanchored (slice_index_or states i s) c (slice_index_or states cell t)
  pub found : (s : State) → cell ≡ MATCH_OR_DEAD → unanchored ≡ true →
      exits (is_elem (next_positions p (slice_index_or states i s) c)) p 0 true ≡ true
  pub dead : (s : State) → cell ≡ MATCH_OR_DEAD → unanchored ≡ false →
      next_positions p (slice_index_or states i s) c ≡ []

-- a character of ASCII has a column, by its code, and each other one those of the bytes that it may begin
-- with
abbrev pub IsColumnOf : ℕ → ℕ → Type 0
IsColumnOf c column = ((c < CONTINUATION) × (column ≡ c)) ⊎ ((CONTINUATION ≤ c) × (PAST_ASCII ≤ column))

-- the first of them
abbrev pub column_of : ℕ → ℕ
column_of c = if nat_lt c CONTINUATION then c else PAST_ASCII

-- the cell of a state and a column
abbrev pub cell_at : List ℕ → ℕ → ℕ → ℕ
cell_at cells i column = slice_index_or cells (i * STRIDE + column) QUIT

-- what is in the cell is right for each character of the column
abbrev pub IsCellOf : Unrolled → Bool → List State → ℕ → ℕ → ℕ → Type 0
IsCellOf p unanchored states i column cell =
    (c : ℕ) → IsTrue (is_scalar c) → IsColumnOf c column → IsCell p unanchored states i c cell

-- each filled cell is what a step gives, and by continuation bytes a state stays
pub record IsDfaOf (p : Unrolled) (unanchored : Bool) (states : List State) (cells : List ℕ) : Type 0 where
  pub known : AreStates p states
  pub few : length states ≤ MAX_STATES
  pub cell : (i column : ℕ) → i < length states → column < STRIDE →
      IsCellOf p unanchored states i column (cell_at cells i column)
  pub stays : (i column : ℕ) → i * STRIDE + column < length cells → CONTINUATION ≤ column
      → column < PAST_ASCII →
      cell_at cells i column ≡ i

-- the same with all cells of each state
pub record IsDfa (p : Unrolled) (unanchored : Bool) (dfa : Dfa) : Type 0 where
  pub steps : IsDfaOf p unanchored dfa.states.items dfa.cells.items
  pub full : length dfa.cells.items ≡ length dfa.states.items * STRIDE

-- the number behind a state's by a byte; where there are no cells, it stays
abbrev pub state_after : List ℕ → ℕ → ℕ → ℕ
state_after cells s b = slice_index_or cells (s * STRIDE + b) s

-- the number behind a state's by these bytes
abbrev pub state_behind : List ℕ → ℕ → List ℕ → ℕ
state_behind cells s [] = s
state_behind cells s (b ∷ bs) = state_behind cells (state_after cells s b) bs
