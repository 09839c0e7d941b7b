-- The state of a board, and its events: the five kinds of step, each on one word and on the views of seats.
use Rattle.std.specs.Prelude.{◌≡◌, ◌≢◌, ℕ, ◌+◌, ◌<◌, min, nat_lt, if◌then◌else◌, List, [], ◌∷◌, ◌++◌}
use Rattle.std.specs.Prelude.{Some, slice_get, slice_set, Contains}
use Rattle.jp_board.specs.declared.view.View.{View}
use Rattle.jp_board.specs.Views.{first_view, with_claim, with_told, with_report, with_look}
use Rattle.jp_board.specs.Views.{IsFreshView, less_one, one_of, joined, spent}

-- the two words of a board, and what each of its seats knows
pub record BoardState : Type 0 where
  -- the number that the next claim finds
  pub next : ℕ
  -- the mark: the least report so far, or the number of pieces
  pub least : ℕ
  pub views : List View

-- an event, and the places of the seats that take part in it
pub data Event : Type 0 where
  -- the seat adds one to `next`
  claim : ℕ → Event
  -- the seat lowers `least` to this piece
  report : ℕ → ℕ → Event
  -- the seat reads `least`
  look : ℕ → Event
  -- a new seat is cut off this one
  split : ℕ → Event
  -- the first seat takes over what the second did
  join : ℕ → ℕ → Event

-- the seat at this place knows this
abbrev pub Knows : BoardState → ℕ → View → Type 0
Knows s seat v = slice_get s.views seat ≡ Some v

-- what a seat knows once its claim has found this number: one more piece, or that none is left
abbrev pub after_claim : View → ℕ → View
after_claim v found = if nat_lt found v.pieces then with_claim v found else with_told v

-- a state with another view at this place
abbrev pub with_view : BoardState → ℕ → View → BoardState
with_view s seat v = record s { views = slice_set s.views seat v }

-- The seat, with what it knows, may take the step: a claim stands for some seat that was not yet told that
-- no piece is left, a report is of a piece that was claimed, a split is of a seat that has done nothing, a
-- join is with another seat.
abbrev pub May : Event → View → Type 0
May (claim seat) v = v.told < v.stands_for
May (report seat piece) v = (0 < v.stands_for) × Contains v.claims piece
May (look seat) v = 0 < v.stands_for
May (split seat) v = (0 < v.stands_for) × IsFreshView v
May (join seat other) v = (0 < v.stands_for) × (other ≢ seat)

-- the place of the seat that steps
abbrev pub seat_of : Event → ℕ
seat_of (claim seat) = seat
seat_of (report seat piece) = seat
seat_of (look seat) = seat
seat_of (split seat) = seat
seat_of (join seat other) = seat

-- the number that the step finds in its word
abbrev pub found_by : Event → BoardState → ℕ
found_by (claim seat) s = s.next
found_by (report seat piece) s = s.least
found_by (look seat) s = s.least
found_by (split seat) s = s.next
found_by (join seat other) s = s.next

-- the event leads from the one state, in which the seat that steps knows v, to the other
abbrev pub Leads : Event → View → BoardState → BoardState → Type 0
Leads (claim seat) v s t = t ≡ record {
  next = s.next + 1;
  least = s.least;
  views = slice_set s.views seat (after_claim v s.next);
}
Leads (report seat piece) v s t = t ≡ record {
  next = s.next;
  least = min s.least piece;
  views = slice_set s.views seat (with_report v piece);
}
Leads (look seat) v s t = t ≡ with_view s seat (with_look v s.least)
Leads (split seat) v s t = t ≡ record s { views = slice_set s.views seat (less_one v) ++ one_of v ∷ [] }
Leads (join seat other) v s t = (w : View) × Knows s other w
    × (t ≡ with_view (with_view s seat (joined v w)) other spent)

-- the event happens in the one state, and the other is the state after it
abbrev pub Happens : Event → BoardState → BoardState → Type 0
Happens e s t = (v : View) × Knows s (seat_of e) v × May e v × Leads e v s t

-- the events lead from one state to the other; the last of them stands first
abbrev pub LeadTo : List Event → BoardState → BoardState → Type 0
LeadTo [] s t = t ≡ s
LeadTo (e ∷ es) s t = (before : BoardState) × LeadTo es s before × Happens e before t

-- the first state: nothing is claimed, nothing reported, and one seat stands for all
abbrev pub first_state : ℕ → ℕ → BoardState
first_state pieces made = record { next = 0; least = pieces; views = first_view (pieces, made) ∷ [] }

-- some events lead from the first state to this one
abbrev pub IsReached : ℕ → ℕ → BoardState → Type 0
IsReached pieces made s = (es : List Event) × LeadTo es (first_state pieces made) s
