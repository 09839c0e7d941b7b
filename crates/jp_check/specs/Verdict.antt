-- The verdict of a query text (RFC 9535, 2.1).
use Rattle.std.specs.Prelude.{◌≡◌, ◌<◌, ◌≤◌, ◌&&◌, not, Result, Ok, Err, if◌then◌else◌}
use Rattle.jp_number.specs.declared.numbers.Numbers.{Numbers}
use Rattle.jp_number.specs.declared.numbers.Numbers.TheVariants.{Whole}
use Rattle.jp_tree.specs.Tree.{Text, Query}
use Rattle.jp_tree.specs.Spelling.{Spells}
use Rattle.jp_tokens.specs.Depth.{bracket_depth, max_depth}
use Rattle.jp_tree.specs.declared.fault.QueryFault.{QueryFault}
use Rattle.jp_tree.specs.declared.fault.QueryFault.TheVariants.{TooDeep, Syntax, Fraction, Range, IllTyped}
use Rattle.jp_types.specs.Numbers.{are_whole, has_fraction, in_range_in}
use Rattle.jp_types.specs.Typing.{query_typed}

-- The verdict of a tree, by the numbers that its literals may be: the first fault that applies, or else the
-- tree itself.
abbrev pub verdict_in : Numbers → Query → Result Query QueryFault
verdict_in numbers q =
    if are_whole numbers && has_fraction q then Err Fraction
    else if not (in_range_in numbers q) then Err Range
    else if not (query_typed q) then Err IllTyped
    else Ok q

-- The verdict of a text: too deep, or no tree is spelled by it, or else the verdict of the tree that it
-- spells.
abbrev pub IsVerdictIn : Numbers → Text → Result Query QueryFault → Type 0
IsVerdictIn numbers t (Err TooDeep) = max_depth < bracket_depth t
IsVerdictIn numbers t (Err Syntax) = (bracket_depth t ≤ max_depth) × ((q : Query) → Spells t q → ⊥)
IsVerdictIn numbers t verdict = (bracket_depth t ≤ max_depth)
    × ((q : Query) × Spells t q × (verdict_in numbers q ≡ verdict))

-- the text is well-formed, valid and well-typed, and spells this tree
abbrev pub IsAcceptedIn : Numbers → Text → Query → Type 0
IsAcceptedIn numbers t q = IsVerdictIn numbers t (Ok q)

-- the same where literals are whole numbers
abbrev pub verdict_of : Query → Result Query QueryFault
verdict_of q = verdict_in Whole q

abbrev pub IsVerdict : Text → Result Query QueryFault → Type 0
IsVerdict t verdict = IsVerdictIn Whole t verdict

abbrev pub IsAccepted : Text → Query → Type 0
IsAccepted t q = IsAcceptedIn Whole t q
