-- What the tree of the code with its sizes stands for.
use Rattle.std.specs.Prelude.{ℕ, ◌+◌, Bool, true, ◌&&◌, nat_eq, min, List, [], ◌∷◌, map, Option}
use Rattle.jp_automaton.specs.Letters.{letters_of}
use Rattle.jp_automaton.specs.declared.expressions.Expression.{Expression}
use Rattle.jp_automaton.specs.declared.expressions.Expression.TheOpen.{Expression-F}
use Rattle.jp_automaton.specs.declared.expressions.Expression.TheFolds.{fold-Expression}
use Rattle.jp_pattern.specs.Pattern.{Pattern}
use Rattle.jp_pattern.specs.Profile.{size}
use Rattle.jp_pattern.specs.Unrolled.{Unrolled, either, unrolled}

-- the pattern that an expression stands for, and whether each size that is kept in it is right
pub record Meaning : Type 0 where
  pub pattern : Pattern
  pub is_sized : Bool

-- the greatest number of 32 bits, which stands for each size that is as great or greater
abbrev pub greatest_size : ℕ
greatest_size = 4_294_967_295

-- the number is the unrolled size, or the greatest number where that is more (RFC 9485, 8)
abbrev pub is_size : ℕ → Pattern → Bool
is_size n p = nat_eq n (min (size p) greatest_size)

-- a branch of these pieces (RFC 9485, 3: branch)
abbrev pub in_turn_of : List Meaning → Pattern
in_turn_of [] = Pattern.empty
in_turn_of (m ∷ expressions) = Pattern.seq m.pattern (in_turn_of expressions)

-- these branches and then the last one (RFC 9485, 3: i-regexp)
abbrev pub before_last_of : List Meaning → Pattern → Pattern
before_last_of [] q = q
before_last_of (m ∷ expressions) q = Pattern.either m.pattern (before_last_of expressions q)

abbrev pub all_sized : List Meaning → Bool
all_sized [] = true
all_sized (m ∷ expressions) = m.is_sized && all_sized expressions

-- their unrolled sizes together (RFC 9485, 8)
abbrev pub sizes : List Meaning → ℕ
sizes [] = 0
sizes (m ∷ expressions) = size m.pattern + sizes expressions

-- a pattern, with its size and whether the sizes inside are right
abbrev pub sized_as : ℕ → Pattern → Bool → Meaning
sized_as n p inside = record { pattern = p; is_sized = is_size n p && inside }

-- one layer of the tree (RFC 9485, 3)
abbrev pub meaning_of_layer : Expression-F Meaning → Meaning
meaning_of_layer (Expression-F.Set x) = record { pattern = Pattern.letter (letters_of x); is_sized = true }
meaning_of_layer (Expression-F.Group n sub) = sized_as n (Pattern.group sub.value.pattern) sub.value.is_sized
meaning_of_layer (Expression-F.Pieces n pieces) =
    sized_as n (in_turn_of pieces.items) (all_sized pieces.items)
meaning_of_layer (Expression-F.Branches n before last) =
    sized_as n (before_last_of before.items last.value.pattern)
    (all_sized before.items && last.value.is_sized)
meaning_of_layer (Expression-F.Repeat n least most atom) =
    sized_as n (Pattern.repeat least most atom.value.pattern) atom.value.is_sized
meaning_of_layer (Expression-F.Plus n atom) = sized_as n (Pattern.plus atom.value.pattern) atom.value.is_sized

abbrev pub meaning : Expression → Meaning
meaning = fold-Expression Meaning meaning_of_layer

-- the pattern that the expression stands for (RFC 9485, 3)
abbrev pub pattern_in : Expression → Pattern
pattern_in expression = (meaning expression).pattern

abbrev pub patterns_in : List Expression → List Pattern
patterns_in [] = []
patterns_in (expression ∷ expressions) = pattern_in expression ∷ patterns_in expressions

-- the expression with each repetition written out
abbrev pub unrolled_in : Expression → Unrolled
unrolled_in expression = unrolled (pattern_in expression)

abbrev pub unrolled_in_turn : List Expression → Unrolled
unrolled_in_turn expressions = unrolled (in_turn_of (map meaning expressions))

-- these branches, and then what follows them
abbrev pub branches_before : List Expression → Unrolled → Unrolled
branches_before [] q = q
branches_before (expression ∷ expressions) q = either (unrolled_in expression) (branches_before expressions q)

abbrev pub unrolled_repeat : ℕ → Option ℕ → Expression → Unrolled
unrolled_repeat least most atom = unrolled (Pattern.repeat least most (pattern_in atom))
