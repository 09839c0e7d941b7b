-- What each kind of step tells its caller: of the step, the seat before, the number found in the word, and
-- the seat after.
use Rattle.std.specs.Prelude.{◌≡◌, ℕ, ◌<◌, ◌≤◌, All}
use Rattle.atomic_table.specs.Table.{Me, Step}
use Rattle.jp_board.specs.declared.view.View.{View}
use Rattle.jp_board.specs.Events.{BoardState, Event, claim, report, look, Happens, Knows, IsReached, found_by}
use Rattle.jp_board.specs.Lawful.{IsLeastOf}
use Rattle.jp_board.specs.Views.{with_claim, with_told, with_report, with_look}

-- a seat at a table: its view, and the slots that it holds, of which a board has none
abbrev pub Place : Type 0
Place = Me (Unit {0}) View

-- The step was this event of a seat, in a state that events had reached: it found this number in its word,
-- and what the seat knew became what it knows.
pub record IsStep (event : ℕ → Event) (found : ℕ) (knew knows : View) : Type 0 where
  pub seat : ℕ
  pub before : BoardState
  pub after : BoardState
  pub reached : IsReached knew.pieces knew.made before
  pub happens : Happens (event seat) before after
  pub finds : found ≡ found_by (event seat) before
  pub view_before : Knows before seat knew
  pub view_after : Knows after seat knows

-- A number found below that of the pieces is claimed, and is above each earlier claim; else the seat is
-- told that no piece is left.
abbrev pub Claims : Step (Unit {0}) → Place → ℕ → Place → Type 0
Claims st old found new =
    (found < old.0.pieces → (new.0 ≡ with_claim old.0 found) × All (λ x. x < found) old.0.claims)
    × (old.0.pieces ≤ found → new.0 ≡ with_told old.0)
    × (new.1 ≡ old.1)
    × IsStep claim found old.0 new.0

-- the step's operand is reported
abbrev pub Reports : Step (Unit {0}) → Place → ℕ → Place → Type 0
Reports st old found new =
    (new.0 ≡ with_report old.0 st.first)
    × (new.1 ≡ old.1)
    × IsStep (λ seat. report seat st.first) found old.0 new.0

-- the number found is seen; it is at most the number of pieces, each earlier look and each own report
abbrev pub Looks : Step (Unit {0}) → Place → ℕ → Place → Type 0
Looks st old found new =
    (new.0 ≡ with_look old.0 found)
    × (found ≤ old.0.pieces)
    × All (λ x. found ≤ x) old.0.looks
    × All (λ x. found ≤ x) old.0.reports
    × IsLeastOf new.0 found
    × (new.1 ≡ old.1)
    × IsStep look found old.0 new.0
