-- Short names for the worked examples.
use Rattle.std.specs.Prelude.{ℕ, Bool, IsTrue, IsFalse, List, [], ◌∷◌, codes}
use Rattle.std.specs.List.{AllByRecursion}
use Rattle.jp_tree.specs.declared.tree.Start.TheVariants.{Root, Current}
use Rattle.jp_tree.specs.declared.tree.Operator.{Operator}
use Rattle.jp_tree.specs.declared.tree.Operator.TheVariants as op
use Rattle.jp_tree.specs.Tree.{Text}
use Rattle.jp_tree.specs.Tree as tree
use Rattle.jp_tree.specs.Numbers.{IsInt, IsNumber}
use Rattle.jp_tree.specs.Strings.{IsString}
use Rattle.jp_tree.specs.Spelling.{Spells}

-- a child segment with this name alone
abbrev pub member : Text → tree.Segment
member t = tree.child (tree.name t ∷ [])

-- a child segment with this index alone
abbrev pub item : Text → tree.Segment
item t = tree.child (tree.index t ∷ [])

-- a query from the root
abbrev pub from_root : List tree.Segment → tree.Query
from_root ss = tree.query_from Root ss

-- a query from the current node
abbrev pub from_current : List tree.Segment → tree.Query
from_current ss = tree.query_from Current ss

-- the query from the root whose one segment has these selectors
abbrev pub selecting : List tree.Selector → tree.Query
selecting xs = from_root (tree.child xs ∷ [])

-- the query from the root whose one selector is this filter
abbrev pub filtering : tree.Logical → tree.Query
filtering l = selecting (tree.filter l ∷ [])

-- the query for this member of the current node
abbrev pub its : Text → tree.Query
its t = from_current (member t ∷ [])

-- the test whether the current node has this member
abbrev pub has : Text → tree.Logical
has t = tree.test (its t)

-- the number 1
abbrev pub one : tree.Literal
one = tree.number (codes "1")

-- two sides with `==` between
abbrev pub equal : tree.Comparable → tree.Comparable → tree.Logical
equal left right = tree.comparing (tree.comparison left op.Eq right)

-- a call of the function of this name with these arguments
abbrev pub calling : Text → List tree.Argument → tree.Call
calling f xs = tree.call f (tree.arguments xs)

-- the current node, the operator and the right side
abbrev pub comparing_node : Operator → tree.Comparable → tree.Logical
comparing_node o right = tree.comparing (tree.comparison (tree.single (from_current [])) o right)

-- the query whose one filter tests the query of these segments from the current node
abbrev pub testing : List tree.Segment → tree.Query
testing ss = filtering (tree.test (from_current ss))

-- the query whose one filter is a call of the function of this name with these arguments
abbrev pub testing_call : Text → List tree.Argument → tree.Query
testing_call f xs = filtering (tree.test_call (calling f xs))

-- the query whose one filter compares such a call with 1
abbrev pub comparing_call : Text → List tree.Argument → tree.Query
comparing_call f xs = filtering (equal (tree.value_call (calling f xs)) (tree.literal one))

-- the query whose one filter compares the current node with this literal
abbrev pub comparing_literal : Operator → tree.Literal → tree.Query
comparing_literal o x = filtering (comparing_node o (tree.literal x))

-- the parts joined by `&&`, by `||`
abbrev pub both : List tree.Logical → tree.Logical
both ls = tree.all (tree.logicals ls)

abbrev pub either : List tree.Logical → tree.Logical
either ls = tree.any (tree.logicals ls)

-- each of these characters is of the class, none of them is
abbrev pub Holds : (ℕ → Bool) → List ℕ → Type 0
Holds p cs = AllByRecursion (λ c. IsTrue (p c)) cs

abbrev pub HoldsNone : (ℕ → Bool) → List ℕ → Type 0
HoldsNone p cs = AllByRecursion (λ c. IsFalse (p c)) cs

-- none of these texts spells a tree
unfoldable pub NoneSpells : List Text → Type 0
NoneSpells ts = AllByRecursion (λ t. (q : tree.Query) → ¬ Spells t q) ts

-- each of these texts is an integer, a number literal; none of them is
unfoldable pub AreInts : List Text → Type 0
AreInts ts = AllByRecursion IsInt ts

unfoldable pub AreNoInts : List Text → Type 0
AreNoInts ts = AllByRecursion (λ t. ¬ IsInt t) ts

unfoldable pub AreNumbers : List Text → Type 0
AreNumbers ts = AllByRecursion IsNumber ts

unfoldable pub AreNoNumbers : List Text → Type 0
AreNoNumbers ts = AllByRecursion (λ t. ¬ IsNumber t) ts

-- none of these texts is a string literal, whatever the value
unfoldable pub NoneIsString : List Text → Type 0
NoneIsString ts = AllByRecursion (λ t. (value : Text) → ¬ IsString t value) ts
