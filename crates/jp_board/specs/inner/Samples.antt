-- A working file, which nobody has to believe: views and states for the examples.
use Rattle.std.specs.Prelude.{ℕ, List, [], ◌∷◌}
use Rattle.jp_board.specs.declared.view.View.{View}
use Rattle.jp_board.specs.Events.{BoardState}

-- what a seat knows, on a board of two pieces and three seats
abbrev pub worked : List ℕ → List ℕ → List ℕ → ℕ → View
worked claims reports looks told = record {
  pieces = 2;
  made = 3;
  stands_for = 1;
  claims = claims;
  reports = reports;
  looks = looks;
  told = told;
}

-- what the one seat of a board of two pieces knows
abbrev pub alone : List ℕ → List ℕ → List ℕ → ℕ → View
alone claims reports looks told = record {
  pieces = 2;
  made = 1;
  stands_for = 1;
  claims = claims;
  reports = reports;
  looks = looks;
  told = told;
}

abbrev pub claimed_twice : BoardState
claimed_twice = record { next = 2; least = 2; views = alone (0 ∷ 0 ∷ []) [] [] 0 ∷ [] }

abbrev pub skipped : BoardState
skipped = record { next = 1; least = 2; views = alone (1 ∷ []) [] [] 0 ∷ [] }

abbrev pub told_early : BoardState
told_early = record { next = 2; least = 2; views = alone (0 ∷ []) [] [] 1 ∷ [] }

abbrev pub told_twice : BoardState
told_twice = record { next = 4; least = 2; views = alone (0 ∷ 1 ∷ []) [] [] 2 ∷ [] }

abbrev pub risen : BoardState
risen = record { next = 2; least = 2; views = alone (0 ∷ 1 ∷ []) (0 ∷ []) (0 ∷ []) 0 ∷ [] }

abbrev pub invented : BoardState
invented = record { next = 2; least = 1; views = alone (0 ∷ 1 ∷ []) [] [] 0 ∷ [] }
