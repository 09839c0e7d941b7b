-- Steps of a proof, which nobody has to believe: what a part of a compiled query stands for, whatever `$`
-- queries are listed behind those that are listed already, and what is asked of a part that is compiled.
use Rattle.std.specs.Prelude.{◌≡◌, ◌++◌, ◌^◌, nat_lt, Bool, true, List, if◌then◌else◌}
use Rattle.std.specs.List.{list_all}
use Rattle.jp_number.specs.declared.numbers.Numbers.TheVariants.{Decimals}
use Rattle.jp_types.specs.Numbers.{Written, literal_number, position, magnitude, is_in_range}
use Rattle.jp_types.specs.Numbers.{is_whole, is_short_in}
use Rattle.jp_tree.specs.Tree.{Text}
use Rattle.jp_check.specs.Known.{known_texts}
use Rattle.jp_compiled.specs.declared.known.KnownPattern.{KnownPattern}
use Rattle.jp_compiled.specs.Parts.{Wanted, roots_of}
use Rattle.jp_check.specs.declared.listed.Listed.{Listed}

-- the first list begins the second
abbrev pub Begins : List Wanted → List Wanted → Type 0
Begins roots all = (more : List Wanted) × (all ≡ roots ++ more)

-- read where these are listed, or these and more, it is this
abbrev pub Reads : {A : Type 0} → List Wanted → (List Wanted → A) → A → Type 0
Reads roots view x = (all : List Wanted) → Begins roots all → view all ≡ x

-- behind the patterns that were read before, those of these texts were read
abbrev pub Lists : List KnownPattern → List KnownPattern → List Text → Type 0
Lists before after texts = known_texts after ≡ known_texts before ++ texts

-- what was listed before stands in front, with more roots behind
abbrev pub KeepsRoots : Listed → Listed → Type 0
KeepsRoots before after = Begins (roots_of before.roots.items) (roots_of after.roots.items)

-- read where these roots are listed, or these and more, it is this
abbrev pub ReadsWith : {A : Type 0} → Listed → (List Wanted → A) → A → Type 0
ReadsWith listed view x = Reads (roots_of listed.roots.items) view x

-- what one was, read with what was listed before, the other is, read with what is listed now
abbrev pub ReadsOn : {A : Type 0} → Listed → Listed → (List Wanted → A) → (List Wanted → A) → Type 0
ReadsOn {A} before after one other = (x : A) → ReadsWith before one x → ReadsWith after other x

-- behind the patterns that were listed before stand those of these texts
abbrev pub AddsPatterns : Listed → Listed → List Text → Type 0
AddsPatterns before after texts = Lists before.patterns.items after.patterns.items texts

-- a number that can be read: a whole literal below 10^38, any other within the limits, or an index in its
-- range
unfoldable pub is_readable : Written → Bool
is_readable (literal_number t) = if is_whole t then nat_lt (magnitude t) (10 ^ 38) else is_short_in Decimals t
is_readable (position t) = is_in_range (position t)

-- a part of a query that can be compiled: its numbers can be read, and it is well-typed
abbrev pub IsSound : List Written → Bool → Type 0
IsSound numbers typed = (list_all is_readable numbers ≡ true) × (typed ≡ true)
