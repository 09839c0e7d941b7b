-- What a seat knows at first, and how each kind of step changes it.
use Rattle.std.specs.Prelude.{◌≡◌, ℕ, ◌+◌, ◌-◌, [], ◌∷◌, ◌++◌}
use Rattle.jp_board.specs.declared.view.View.{View}

-- a view that has done nothing and stands for that many seats
abbrev pub fresh : ℕ → ℕ → ℕ → View
fresh pieces made seats = record {
  pieces = pieces;
  made = made;
  stands_for = seats;
  claims = [];
  reports = [];
  looks = [];
  told = 0;
}

-- the view has done nothing yet, for however many seats it stands
abbrev pub IsFreshView : View → Type 0
IsFreshView v = v ≡ fresh v.pieces v.made v.stands_for

-- the first view stands for all seats; the key is the number of pieces and that of the seats
abbrev pub first_view : ℕ × ℕ → View
first_view key = fresh key.0 key.1 key.1

-- one more piece is claimed
abbrev pub with_claim : View → ℕ → View
with_claim v i = record v { claims = v.claims ++ i ∷ [] }

-- the seat is told that no piece is left
abbrev pub with_told : View → View
with_told v = record v { told = v.told + 1 }

-- the view of one seat that was told so, and is not told again
abbrev pub once_told : View → View
once_told v = record v { told = 1 }

-- one more piece is reported
abbrev pub with_report : View → ℕ → View
with_report v i = record v { reports = v.reports ++ i ∷ [] }

-- one more look at the mark
abbrev pub with_look : View → ℕ → View
with_look v i = record v { looks = v.looks ++ i ∷ [] }

-- a fresh view is cut into one that stands for a seat less, and one that stands for one seat
abbrev pub less_one : View → View
less_one v = fresh v.pieces v.made (v.stands_for - 1)

abbrev pub one_of : View → View
one_of v = fresh v.pieces v.made 1

-- a view takes over what another did
abbrev pub joined : View → View → View
joined v w = record v {
  stands_for = v.stands_for + w.stands_for;
  claims = v.claims ++ w.claims;
  reports = v.reports ++ w.reports;
  looks = v.looks ++ w.looks;
  told = v.told + w.told;
}

-- the other view stands for no seat then, and is empty
abbrev pub spent : View
spent = fresh 0 0 0
