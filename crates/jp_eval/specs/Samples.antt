-- Documents and parts of queries that the worked examples speak of.
use Rattle.std.specs.Prelude.{List, [], ◌∷◌, map, Option, codes}
use Rattle.jp_doc.specs.Json.{Text, Json, null, object, no_members}
use Rattle.jp_doc.specs.Location.{Location}
use Rattle.jp_tree.specs.Tree as tree
use Rattle.jp_tree.specs.Tree.{Query, Segment, Selector, name, slice, filter, Logical, comparing}
use Rattle.jp_tree.specs.Tree.{comparison, Comparable, literal, single, child, query_from}
use Rattle.jp_pattern.specs.Tests.{Tests}
use Rattle.jp_tree.specs.declared.tree.Operator.{Operator}
use Rattle.jp_tree.specs.declared.tree.Start.TheVariants.{Root, Current}
use Rattle.jp_node.specs.Samples.{num, arr, obj, obj2}
use Rattle.jp_eval.specs.Nodelist.{document_nodes}

-- `$` and segments; `$[..]` with these selectors
abbrev pub from_root : List Segment → Query
from_root ss = query_from Root ss

abbrev pub bracketed : List Selector → Query
bracketed xs = from_root (child xs ∷ [])

-- `@` and the member of this name
abbrev pub member_of_current : Text → Query
member_of_current k = query_from Current (child (name k ∷ []) ∷ [])

-- `$[?..]`
abbrev pub filtered : Logical → Query
filtered l = bracketed (filter l ∷ [])

-- `@`
abbrev pub current : Comparable
current = single (query_from Current [])

-- `@.k`
abbrev pub current_member : Text → Comparable
current_member k = single (member_of_current k)

abbrev pub compares : Comparable → Operator → Comparable → Logical
compares left operator right = comparing (comparison left operator right)

-- `[0,1,2,3,4]`
abbrev pub five : Json
five = arr (num 0 ∷ num 1 ∷ num 2 ∷ num 3 ∷ num 4 ∷ [])

-- `[{},{"a":null},{"a":1,"b":1}]`
abbrev pub three_objects : Json
three_objects = arr (object no_members ∷ obj (codes "a") null ∷ obj2 (codes "a") (num 1) (codes "b") (num 1)
    ∷ [])

-- a number literal
abbrev pub number : Text → Comparable
number t = literal (tree.number t)

-- the values that a slice selects of `[0,1,2,3,4]`
abbrev pub sliced : Tests → Option Text → Option Text → Option Text → List Json
sliced t first past step = map (λ n. n.value) (document_nodes t (bracketed (slice first past step ∷ [])) five)

-- where the items of `[{},{"a":null},{"a":1,"b":1}]` are for which an expression is true
abbrev pub kept : Tests → Logical → List Location
kept t l = map (λ n. n.location) (document_nodes t (filtered l) three_objects)
