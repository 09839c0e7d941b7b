-- The query that a normalized path is (RFC 9535, 2.7).
use Rattle.std.specs.Prelude.{◌<◌, ◌^◌, ⊤, [], ◌∷◌, map, decimal}
use Rattle.std.specs.List.{AllByRecursion}
use Rattle.jp_doc.specs.Location as at
use Rattle.jp_doc.specs.Location.{Location}
use Rattle.jp_tree.specs.Tree.{Query, Segment, Selector, name, index, child, query_from}
use Rattle.jp_tree.specs.declared.tree.Start.TheVariants.{Root}
use Rattle.jp_tree.specs.Characters.{is_scalar}
use Rattle.jp_tree.specs.Parts.{Each}

-- the selector of one step, and the segment that has it alone
abbrev pub step_selector : at.Step → Selector
step_selector (at.name k) = name k
step_selector (at.index i) = index (decimal i)

abbrev pub step_segment : at.Step → Segment
step_segment s = child (step_selector s ∷ [])

-- one segment for each step, from the root
abbrev pub path_query : Location → Query
path_query l = query_from Root (map step_segment l)

-- each index is one of 32 bits, as an index of `src/` is
abbrev pub IsIndex : at.Step → Type 0
IsIndex (at.name k) = ⊤
IsIndex (at.index i) = i < 2 ^ 32

abbrev pub AreIndexes : Location → Type 0
AreIndexes l = AllByRecursion IsIndex l

-- each name is a text of Unicode scalar values, and each index is one of 32 bits, as those of `src/` are
abbrev pub IsStep : at.Step → Type 0
IsStep (at.name k) = Each is_scalar k
IsStep (at.index i) = i < 2 ^ 32

abbrev pub AreSteps : Location → Type 0
AreSteps l = AllByRecursion IsStep l
