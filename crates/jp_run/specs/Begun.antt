-- What stands as a read of a source begins.
use Rattle.std.specs.Prelude.{◌≡◌, ℕ, List, [], ◌∷◌, ◌++◌, Bool, Option, Some, None}
use Rattle.std.specs.List.{All}

pub record Begun : Type 0 where
  -- whether the source had said that this read does not wait
  pub ready : Bool
  -- the bytes that were still to come, where they are known
  pub remaining : Option (List ℕ)
  -- the bytes that the sink had taken, where they are known, and whether they were passed on
  pub contents : Option (List ℕ)
  pub flushed : Bool

-- One more read has begun. A list that is no longer known stays unknown.
abbrev pub OneMore : Option (List Begun) → Option (List Begun) → Begun → Type 0
OneMore None new begun = new ≡ None
OneMore (Some reads) None begun = Unit {0}
OneMore (Some reads) (Some new) begun = new ≡ reads ++ begun ∷ []

-- this holds of each read between the old list and the new one
abbrev pub AllSince : Option (List Begun) → Option (List Begun) → (Begun → Type 0) → Type 0
AllSince None new Is = Unit {0}
AllSince (Some reads) None Is = Unit {0}
AllSince (Some reads) (Some new) Is = (more : List Begun) × (new ≡ reads ++ more) × All Is more
