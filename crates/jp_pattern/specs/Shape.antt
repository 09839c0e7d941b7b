-- Which text spells which pattern, by the cases of the grammar.
use Rattle.std.specs.Prelude.{ℕ, [], ◌++◌, Option, codes}
use Rattle.jp_pattern.specs.Pattern.{Text, CharSet, Pattern}
use Rattle.jp_pattern.specs.CharSetShape.{IsCharSet}
use Rattle.jp_pattern.specs.Quantity.{IsQuantity}

mutual
  -- one branch or more, with `|` between (RFC 9485, 3: i-regexp)
  pub data IsPattern : Text → Pattern → Type 0 where
    last_branch : {t : Text} {p : Pattern} → IsBranch t p → IsPattern t p
    first_branch : {s t : Text} {p q : Pattern} → IsBranch s p → IsPattern t q →
        IsPattern (s ++ (codes "|" ++ t)) (Pattern.either p q)

  -- any number of pieces (RFC 9485, 3: branch)
  pub data IsBranch : Text → Pattern → Type 0 where
    no_piece : IsBranch [] Pattern.empty
    first_piece : {s t : Text} {p q : Pattern} → IsPiece s p → IsBranch t q →
        IsBranch (s ++ t) (Pattern.seq p q)

  -- an atom, with a quantity or without (RFC 9485, 3: piece)
  pub data IsPiece : Text → Pattern → Type 0 where
    once : {t : Text} {p : Pattern} → IsAtom t p → IsPiece t p
    repeated : {s t : Text} {p : Pattern} {least : ℕ} {most : Option ℕ} → IsAtom s p →
        IsQuantity t least most → IsPiece (s ++ t) (Pattern.repeat least most p)
    once_or_more : {s : Text} {p : Pattern} → IsAtom s p → IsPiece (s ++ codes "+") (Pattern.plus p)

  -- a set of characters, or a pattern in parentheses (RFC 9485, 3: atom)
  pub data IsAtom : Text → Pattern → Type 0 where
    character : {t : Text} {set : CharSet} → IsCharSet t set → IsAtom t (Pattern.letter set)
    parentheses : {t : Text} {p : Pattern} → IsPattern t p →
        IsAtom (codes "(" ++ (t ++ codes ")")) (Pattern.group p)

-- the text spells the pattern, whatever its counts, depth and size are (RFC 9485, 3)
abbrev pub Shapes : Text → Pattern → Type 0
Shapes t p = IsPattern t p
