-- Inputs that are answered one after another.
use Rattle.std.specs.Prelude.{◌≡◌, ℕ, zero, suc, ◌+◌, List, [], ◌∷◌, ◌++◌, Bool, true, false, length, map}
use Rattle.std.specs.Prelude.{Option, codes}
use Rattle.clap.specs.Walk.{Text}
use Rattle.jp_run.specs.Counts.{counted}

-- the bytes of an input, where they are known
abbrev pub Held : Type 0
Held = Option (List ℕ)

-- an input: its name, as it was typed, and its bytes
abbrev pub Input : Type 0
Input = Text × Held

-- standard input, which is named so
abbrev pub standard : Held → Input
standard bytes = (codes "-", bytes)

-- the input of this name
abbrev pub named : (Text → Held) → Text → Input
named holds name = (name, holds name)

-- one more, where something is so
abbrev pub counted_if : Bool → ℕ → ℕ
counted_if true n = counted n 1
counted_if false n = n

-- one more, so many times
abbrev pub counted_times : ℕ → ℕ → ℕ
counted_times zero n = n
counted_times (suc times) n = counted (counted_times times n) 1

-- what a sink has, where that is known
abbrev pub Sunk : Type 0
Sunk = Option (List ℕ)

-- the same, and how many inputs have failed
abbrev pub Standing : Type 0
Standing = Sunk × ℕ

-- the inputs: standard input where no file is named, else each file in the order of the words
abbrev pub inputs_of : List Text → (Text → Held) → Held → List Input
inputs_of [] holds first = standard first ∷ []
inputs_of (name ∷ names) holds first = map (named holds) (name ∷ names)

-- something was done with each in turn, and nothing else
module _ {A : Type 0} (Did : Input → A → A → Type 0) where
  abbrev pub EachInTurn : List Input → A → A → Type 0
  EachInTurn [] old new = new ≡ old
  EachInTurn (input ∷ []) old new = Did input old new
  EachInTurn (input ∷ next ∷ inputs) old new = (mid : A) × Did input old mid
      × EachInTurn (next ∷ inputs) mid new

-- how many files were opened, how many of them had failed when another was, and what the sink has: before a
-- run and behind it
pub record Course : Type 0 where
  pub opens : ℕ
  pub opens_new : ℕ
  pub broken : ℕ
  pub broken_new : ℕ
  pub contents : Sunk
  pub contents_new : Sunk

module _ (Did : Input → Standing → Standing → Type 0) (Ended : Input → Sunk → Sunk → Type 0) where
  -- one thing was done with each file before some one, another with that one, and none behind it was opened;
  -- those that have failed, as many as are counted so, all stand before it
  pub record EndsAt (inputs : List Input) (c : Course) : Type 0 where
    pub front : List Input
    pub input : Input
    pub behind : List Input
    pub mid : Sunk
    pub failed : ℕ
    pub inputs_are : inputs ≡ front ++ input ∷ behind
    pub before : EachInTurn Did front (c.contents, 0) (mid, failed)
    pub ended : Ended input mid c.contents_new
    pub opened : c.opens_new ≡ counted c.opens (length front + 1)
    pub failures : c.broken_new ≡ counted_times failed c.broken

  -- so it was with these files; where none is named the other thing was done with standard input
  abbrev pub EndsIn : List Text → (Text → Held) → Held → Course → Type 0
  EndsIn [] holds first c = Ended (standard first) c.contents c.contents_new
  EndsIn (name ∷ names) holds first c = EndsAt (map (named holds) (name ∷ names)) c
