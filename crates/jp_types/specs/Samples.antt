-- Queries and parts of them that the worked examples speak of.
use Rattle.std.specs.Prelude.{List, [], ◌∷◌, codes}
use Rattle.jp_tree.specs.Tree.{Text, number, text, Query, Selector, name, wildcard, index, filter, Logical}
use Rattle.jp_tree.specs.Tree.{any, all, test, test_call, comparing, comparison, Comparable, literal}
use Rattle.jp_tree.specs.Tree.{single, value_call, Call, call, Argument, literal_argument, query_argument}
use Rattle.jp_tree.specs.Tree.{logical_argument, call_argument, arguments, logicals, child, query_from}
use Rattle.jp_tree.specs.declared.tree.Operator.TheVariants.{Eq, Gt}
use Rattle.jp_tree.specs.declared.tree.Start.TheVariants.{Root, Current}

-- `$[..]` with one selector, and `$[?..]`
abbrev pub selecting : Selector → Query
selecting x = query_from Root (child (x ∷ []) ∷ [])

abbrev pub filtered : Logical → Query
filtered l = selecting (filter l)

-- `@`, and `@[..]` with these selectors
abbrev pub current : Query
current = query_from Current []

abbrev pub current_with : List Selector → Query
current_with xs = query_from Current (child xs ∷ [])

-- `@.a`
abbrev pub member_a : Query
member_a = current_with (name (codes "a") ∷ [])

abbrev pub equals : Comparable → Comparable → Logical
equals left right = comparing (comparison left Eq right)

abbrev pub above : Comparable → Comparable → Logical
above left right = comparing (comparison left Gt right)

-- a number literal on one side of a comparison
abbrev pub num : Text → Comparable
num t = literal (number t)

-- `@.a==` and a number
abbrev pub a_equals : Text → Query
a_equals t = filtered (equals (single member_a) (num t))

-- a call with these arguments
abbrev pub calling : Text → List Argument → Call
calling function given = call function (arguments given)

-- a call by itself as a test, and a call on the left of `==` or `>` and a number
abbrev pub tested : Text → List Argument → Query
tested function given = filtered (test_call (calling function given))

abbrev pub equals_number : Text → List Argument → Text → Query
equals_number function given t = filtered (equals (value_call (calling function given)) (num t))

abbrev pub above_number : Text → List Argument → Text → Query
above_number function given t = filtered (above (value_call (calling function given)) (num t))

-- `$.a[..]` and `$[0,..]` with one selector
abbrev pub below_a : Selector → Query
below_a x = query_from Root (child (name (codes "a") ∷ []) ∷ child (x ∷ []) ∷ [])

abbrev pub behind_zero : Selector → Query
behind_zero x = query_from Root (child (index (codes "0") ∷ x ∷ []) ∷ [])

-- `@.*`
abbrev pub each_child : Query
each_child = current_with (wildcard ∷ [])

-- the index 2 ^ 53, which is one too great
abbrev pub too_far : Selector
too_far = index (codes "9007199254740992")

-- `@[9007199254740992]`, and the same as a test
abbrev pub far_node : Query
far_node = current_with (too_far ∷ [])

abbrev pub far : Logical
far = test far_node

-- `nope()`, and the same as a test
abbrev pub unknown_call : Call
unknown_call = calling (codes "nope") []

abbrev pub unknown : Logical
unknown = test_call unknown_call

-- `match(@,'a')` with this text, and the same as a test
abbrev pub match_call : Text → Call
match_call pattern = calling (codes "match") (query_argument current ∷ literal_argument (text pattern) ∷ [])

abbrev pub matching : Text → Logical
matching pattern = test_call (match_call pattern)

-- arguments: `@`, `@.*`, `@.a`, a text, a number, a query, a test of `@.a`, a call
abbrev pub it : Argument
it = query_argument current

abbrev pub each : Argument
each = query_argument each_child

abbrev pub its_a : Argument
its_a = query_argument member_a

abbrev pub a_text : Text → Argument
a_text t = literal_argument (text t)

abbrev pub a_number : Text → Argument
a_number t = literal_argument (number t)

abbrev pub has_a : Argument
has_a = logical_argument (test member_a)

abbrev pub a_call : Text → List Argument → Argument
a_call function given = call_argument (calling function given)

-- `$[?..||..]` and `$[?..&&..]`
abbrev pub either : Logical → Logical → Query
either l m = filtered (any (logicals (l ∷ m ∷ [])))

abbrev pub both : Logical → Logical → Query
both l m = filtered (all (logicals (l ∷ m ∷ [])))

-- `$[?xor(..,@.a)]` and `$[?xor(@.a,..)]` with a logical expression
abbrev pub xor_with : Logical → Query
xor_with l = tested (codes "xor") (logical_argument l ∷ its_a ∷ [])

abbrev pub xor_behind : Logical → Query
xor_behind l = tested (codes "xor") (its_a ∷ logical_argument l ∷ [])
