-- Words of the worked examples.
use Rattle.std.specs.Prelude.{◌≡◌, ℕ, zero, suc, List, [], ◌∷◌, ◌++◌, codes}
use Rattle.jp_pattern.specs.Pattern.{Text, CharSet, Pattern}
use Rattle.std.specs.List.{AllByRecursion}
use Rattle.jp_pattern.specs.Language.{Member}
use Rattle.jp_pattern.specs.Profile.{IsPatternOf, size}
use Rattle.jp_pattern.specs.Unrolled.{Unrolled}

-- the pattern of one character, by its code (RFC 9485, 3)
abbrev pub sign : ℕ → Pattern
sign c = Pattern.letter (CharSet.only c)

-- the atom `a` (RFC 9485, 3)
abbrev pub letter_a : Pattern
letter_a = sign 97

-- the atom `b` (RFC 9485, 3)
abbrev pub letter_b : Pattern
letter_b = sign 98

-- the branch of these pieces (RFC 9485, 3)
abbrev pub branch : List Pattern → Pattern
branch [] = Pattern.empty
branch (p ∷ ps) = Pattern.seq p (branch ps)

-- the pattern in so many parentheses, which stand inside each other (RFC 9485, 3)
abbrev pub in_groups : ℕ → Pattern → Pattern
in_groups zero p = p
in_groups (suc n) p = branch (Pattern.group (in_groups n p) ∷ [])

-- the text in so many parentheses, which stand inside each other (RFC 9485, 3)
abbrev pub in_parentheses : ℕ → Text → Text
in_parentheses zero t = t
in_parentheses (suc n) t = codes "(" ++ (in_parentheses n t ++ codes ")")

-- the text is an I-Regexp of this unrolled size (RFC 9485, 8)
abbrev pub HasSize : Text → ℕ → Type 0
HasSize text n = (p : Pattern) × IsPatternOf text p × (size p ≡ n)

-- the text is no I-Regexp (RFC 9485, 3 and 8)
abbrev pub IsNoPattern : Text → Type 0
IsNoPattern text = (p : Pattern) → IsPatternOf text p → ⊥

-- the atom `a` of a pattern that was written out
abbrev pub once_a : Unrolled
once_a = Unrolled.letter (CharSet.only 97)

-- two branches of a pattern that was written out
abbrev pub written_either : Unrolled → Unrolled → Unrolled
written_either = Unrolled.either

-- the pattern `a|ab` (RFC 9485, 3)
abbrev pub a_or_ab : Pattern
a_or_ab = Pattern.either (branch (letter_a ∷ [])) (branch (letter_a ∷ letter_b ∷ []))

-- the pattern `(ab)+` (RFC 9485, 3)
abbrev pub some_ab : Pattern
some_ab = branch (Pattern.plus (Pattern.group (branch (letter_a ∷ letter_b ∷ []))) ∷ [])

-- the pattern has the first texts, and none of the second
abbrev pub HasOnly : Pattern → List Text → List Text → Type 0
HasOnly p has others = AllByRecursion (λ t. Member p t) has × AllByRecursion (λ t. Member p t → ⊥) others
