-- What is told of the literal patterns of an accepted query.
use Rattle.std.specs.Prelude.{ℕ, ◌≡◌, ◌⊎◌, List, [], ◌∷◌, ◌++◌, IfSome}
use Rattle.jp_tree.specs.Tree.{Text}
use Rattle.jp_tree.specs.View.{text_of}
use Rattle.jp_pattern.specs.Pattern.{Pattern}
use Rattle.jp_pattern.specs.Profile.{IsPatternOf}
use Rattle.jp_explain.specs.declared.pattern_note.PatternNote.{PatternNote}
use Rattle.jp_explain.specs.declared.pattern_note.Trap.{Trap}
use Rattle.jp_explain.specs.declared.pattern_note.Trap.TheVariants.{NoPattern, Slashed, Anchors}
use Rattle.jp_explain.specs.Slashes.{HasSlashes}

-- the text is an I-Regexp within the limits (RFC 9485, 3 and 8)
abbrev pub IsPattern : Text → Type 0
IsPattern t = (p : Pattern) × IsPatternOf t p

-- the text's first character, or that number where it is empty
abbrev pub first_or : ℕ → Text → ℕ
first_or d [] = d
first_or d (c ∷ t) = c

-- the text's last character, or that number where it is empty
abbrev pub last_or : ℕ → Text → ℕ
last_or d [] = d
last_or d (c ∷ t) = last_or c t

-- The text begins with `^` or ends with `$`: in other languages of patterns these stand for the ends of a
-- text, in an I-Regexp for themselves (RFC 9485, 3: NormalChar).
abbrev pub HasAnchor : Text → Type 0
HasAnchor t = (first_or 0 t ≡ 0x5e) ⊎ (last_or 0 t ≡ 0x24)

-- the text is no I-Regexp within the limits, and so matches nothing (RFC 9535, 2.4.6), or has such anchors,
-- or stands between slashes with such letters behind, which are for themselves too
abbrev pub IsTrap : Text → Type 0
IsTrap t = (¬ (IsPattern t)) ⊎ HasAnchor t ⊎ HasSlashes t

-- what is told of the text is right, and what is told to be written in its place is an I-Regexp
abbrev pub IsRightTrap : Text → Trap → Type 0
IsRightTrap t (NoPattern plain) = (¬ (IsPattern t)) × IfSome plain (λ s. IsPattern (text_of s))
IsRightTrap t (Slashed plain) = IsPattern t × HasSlashes t × IfSome plain (λ s. IsPattern (text_of s))
IsRightTrap t Anchors = IsPattern t × HasAnchor t

-- The notes of texts, in their order: none of a text that is no trap, and of each that is one a note of this
-- text that is right of it.
pub data AreNotes : List Text → List PatternNote → Type 0 where
  none : AreNotes [] []
  silent : (ts : List Text) (ns : List PatternNote) (t : Text) → AreNotes ts ns → (¬ (IsTrap t)) →
      AreNotes (ts ++ t ∷ []) ns
  told : (ts : List Text) (ns : List PatternNote) (n : PatternNote) → AreNotes ts ns →
      IsRightTrap (text_of n.pattern) n.trap → AreNotes (ts ++ text_of n.pattern ∷ []) (ns ++ n ∷ [])
