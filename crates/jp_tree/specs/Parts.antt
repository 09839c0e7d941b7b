-- How a text is put together from parts, whatever the parts are.
use Rattle.std.specs.Prelude.{ℕ, Bool, IsTrue, List, [], ◌∷◌, ◌++◌}
use Rattle.std.specs.List.{AllByRecursion}
use Rattle.jp_tree.specs.Tree.{Text}
use Rattle.jp_tree.specs.Characters.{is_blank}

-- every character is of this class
abbrev pub Each : (ℕ → Bool) → Text → Type 0
Each p t = AllByRecursion (λ c. IsTrue (p c)) t

-- a character of the first class, and then any number of the other
pub data IsRun (first later : ℕ → Bool) : Text → Type 0 where
  run : (c : ℕ) (t : Text) → IsTrue (first c) → Each later t → IsRun first later (c ∷ t)

-- any number of blanks, none of them among these (RFC 9535, 2.1.1)
abbrev pub IsBlank : Text → Type 0
IsBlank t = Each is_blank t

-- the part, or nothing
pub data IsOptional (IsPart : Text → Type 0) : Text → Type 0 where
  absent : IsOptional IsPart []
  present : (t : Text) → IsPart t → IsOptional IsPart t

-- any number of parts, one directly after the other
pub data Star {A : Type 0} (Part : Text → A → Type 0) : Text → List A → Type 0 where
  none : Star Part [] []
  more : (s t : Text) (x : A) (xs : List A) → Part s x → Star Part t xs → Star Part (s ++ t) (x ∷ xs)

-- blanks, and then the part
pub data Behind {A : Type 0} (Part : Text → A → Type 0) : Text → A → Type 0 where
  behind : (s t : Text) (x : A) → IsBlank s → Part t x → Behind Part (s ++ t) x

-- blanks, the mark, blanks, and then the part
pub data After {A : Type 0} (mark : Text) (Part : Text → A → Type 0) : Text → A → Type 0 where
  after : (r s t : Text) (x : A) → IsBlank r → IsBlank s → Part t x
      → After mark Part (r ++ (mark ++ (s ++ t))) x

-- one part or more, with blanks, the mark and blanks between two of them
pub data Separated {A : Type 0} (mark : Text) (Part : Text → A → Type 0) : Text → List A → Type 0 where
  separated : (s t : Text) (x : A) (xs : List A) → Part s x → Star (After mark Part) t xs
      → Separated mark Part (s ++ t) (x ∷ xs)
