-- Which text spells which tree, by the cases of the grammar (RFC 9535, 2.1 to 2.5).
use Rattle.std.specs.Prelude.{ℕ, zero, suc, IsTrue, Bool, true, false, not, ◌||◌, ◌==◌, List, [], ◌∷◌, ◌++◌}
use Rattle.std.specs.Prelude.{Option, Some, None, codes}
use Rattle.jp_tree.specs.declared.tree.Start.{Start}
use Rattle.jp_tree.specs.declared.tree.Start.TheVariants.{Root, Current}
use Rattle.jp_tree.specs.declared.tree.Operator.{Operator}
use Rattle.jp_tree.specs.declared.tree.Operator.TheVariants as op
use Rattle.jp_tree.specs.Tree.{Text}
use Rattle.jp_tree.specs.Tree as tree
use Rattle.jp_tree.specs.Characters.{is_first, is_name_character, is_lower, is_function_character}
use Rattle.jp_tree.specs.Parts.{IsRun, IsBlank, Star, Behind, After, Separated}
use Rattle.jp_tree.specs.Strings.{IsString}
use Rattle.jp_tree.specs.Numbers.{IsInt, IsNumber}
use Rattle.jp_tree.specs.Singular.{is_singular}

-- a name in shorthand, behind `.` or `..` (RFC 9535, 2.5.1.1)
abbrev pub IsShorthand : Text → Type 0
IsShorthand = IsRun is_first is_name_character

-- a function's name (RFC 9535, 2.4)
abbrev pub IsFunctionName : Text → Type 0
IsFunctionName = IsRun is_lower is_function_character

-- what a query begins with: `$` for the root, `@` for the current node (RFC 9535, 2.3.5.1)
pub data StartIs : Text → Start → Type 0 where
  root : StartIs (codes "$") Root
  current : StartIs (codes "@") Current

-- a literal of a comparison or a call (RFC 9535, 2.3.5.1)
pub data LiteralIs : Text → tree.Literal → Type 0 where
  number_literal : (t : Text) → IsNumber t → LiteralIs t (tree.number t)
  text_literal : (t value : Text) → IsString t value → LiteralIs t (tree.text value)
  true_literal : LiteralIs (codes "true") (tree.truth true)
  false_literal : LiteralIs (codes "false") (tree.truth false)
  null_literal : LiteralIs (codes "null") tree.null

-- an integer and blanks behind it, or nothing (RFC 9535, 2.3.4.1)
pub data BoundIs : Text → Option Text → Type 0 where
  no_bound : BoundIs [] None
  bound : (s t : Text) → IsInt s → IsBlank t → BoundIs (s ++ t) (Some s)

-- the end of a slice: nothing, `:` alone, or `:`, blanks and an integer (RFC 9535, 2.3.4.1)
pub data StepIs : Text → Option Text → Type 0 where
  no_step : StepIs [] None
  empty_step : StepIs (codes ":") None
  step : (s t : Text) → IsBlank s → IsInt t → StepIs (codes ":" ++ (s ++ t)) (Some t)

-- how an operator is written (RFC 9535, 2.3.5.1)
abbrev pub operator_text : Operator → Text
operator_text op.Eq = codes "=="
operator_text op.Ne = codes "!="
operator_text op.Le = codes "<="
operator_text op.Ge = codes ">="
operator_text op.Lt = codes "<"
operator_text op.Gt = codes ">"

-- the parts of `||` or `&&` joined: one alone is that part itself
abbrev pub joined : (tree.Logicals → tree.Logical) → List tree.Logical → tree.Logical
joined make [] = make tree.no_logicals
joined make (l ∷ []) = l
joined make (l ∷ k ∷ ls) = make (tree.logicals (l ∷ k ∷ ls))

-- whether the text begins with this character
abbrev pub begins_with : ℕ → Text → Bool
begins_with c [] = false
begins_with c (d ∷ t) = d == c

-- whether it is more than one query or one call: several parts, `!` and a part, or a comparison
abbrev pub is_composite : tree.Logical → Bool
is_composite (tree.any ls) = true
is_composite (tree.all ls) = true
is_composite (tree.negation l) = true
is_composite (tree.comparing c) = true
is_composite (tree.test q) = false
is_composite (tree.test_call c) = false

-- `Inner` says which text spells which logical expression one bracket deeper.
module _ (Inner : Text → tree.Logical → Type 0) where
  -- a selector (RFC 9535, 2.3)
  pub data SelectorIs : Text → tree.Selector → Type 0 where
    -- a string literal (RFC 9535, 2.3.1)
    name : (t value : Text) → IsString t value → SelectorIs t (tree.name value)
    -- `*` (RFC 9535, 2.3.2)
    wildcard : SelectorIs (codes "*") tree.wildcard
    -- an integer (RFC 9535, 2.3.3)
    index : (t : Text) → IsInt t → SelectorIs t (tree.index t)
    -- `first:past:step`, each of them optional (RFC 9535, 2.3.4)
    slice : (r s t u : Text) (first past last : Option Text) → BoundIs r first → IsBlank s → BoundIs t past
        → StepIs u last
        → SelectorIs (r ++ (codes ":" ++ (s ++ (t ++ u)))) (tree.slice first past last)
    -- `?`, blanks and a logical expression (RFC 9535, 2.3.5)
    filter : (s t : Text) (l : tree.Logical) → IsBlank s → Inner t l
        → SelectorIs (codes "?" ++ (s ++ t)) (tree.filter l)

  -- one selector or more in brackets, with commas between (RFC 9535, 2.5.1.1)
  pub data BracketedIs : Text → List tree.Selector → Type 0 where
    bracketed : (r s t : Text) (xs : List tree.Selector) → IsBlank r → Separated (codes ",") SelectorIs s xs
        → IsBlank t
        → BracketedIs (codes "[" ++ (r ++ (s ++ (t ++ codes "]")))) xs

  -- a segment (RFC 9535, 2.5)
  pub data SegmentIs : Text → tree.Segment → Type 0 where
    -- child segments (RFC 9535, 2.5.1)
    child_bracketed : (t : Text) (xs : List tree.Selector) → BracketedIs t xs → SegmentIs t (tree.child xs)
    child_wildcard : SegmentIs (codes ".*") (tree.child (tree.wildcard ∷ []))
    child_name : (t : Text) → IsShorthand t → SegmentIs (codes "." ++ t) (tree.child (tree.name t ∷ []))
    -- descendant segments (RFC 9535, 2.5.2)
    descendant_bracketed : (t : Text) (xs : List tree.Selector) → BracketedIs t xs
        → SegmentIs (codes ".." ++ t) (tree.descendant xs)
    descendant_wildcard : SegmentIs (codes "..*") (tree.descendant (tree.wildcard ∷ []))
    descendant_name : (t : Text) → IsShorthand t
        → SegmentIs (codes ".." ++ t) (tree.descendant (tree.name t ∷ []))

  -- a query inside a filter: where it starts, and segments with blanks before each (RFC 9535, 2.3.5.1)
  pub data QueryIs : Text → tree.Query → Type 0 where
    query : (s t : Text) (start : Start) (ss : List tree.Segment) → StartIs s start
        → Star (Behind SegmentIs) t ss
        → QueryIs (s ++ t) (tree.query_from start ss)

  -- an argument of a call, which stands inside the call's parentheses (RFC 9535, 2.4)
  pub data ArgumentIs : Text → tree.Argument → Type 0 where
    -- a literal
    literal_argument : (t : Text) (x : tree.Literal) → LiteralIs t x → ArgumentIs t (tree.literal_argument x)
    -- a query by itself: a test that does not begin with a parenthesis
    query_argument : (t : Text) (q : tree.Query) → Inner t (tree.test q) → IsTrue (not (begins_with 40 t))
        → ArgumentIs t (tree.query_argument q)
    -- a call by itself, likewise
    call_argument : (t : Text) (c : tree.Call) → Inner t (tree.test_call c) → IsTrue (not (begins_with 40 t))
        → ArgumentIs t (tree.call_argument c)
    -- any other logical expression: several parts, a comparison,
    -- or one that begins with `!` or with a parenthesis
    logical_argument : (t : Text) (l : tree.Logical) → Inner t l → IsTrue (begins_with 40 t || is_composite l)
        → ArgumentIs t (tree.logical_argument l)

  -- a call of a function, with no blank before the parenthesis (RFC 9535, 2.4)
  pub data CallIs : Text → tree.Call → Type 0 where
    call_of_none : (f s : Text) → IsFunctionName f → IsBlank s
        → CallIs (f ++ (codes "(" ++ (s ++ codes ")"))) (tree.call f tree.no_arguments)
    call : (f r s t : Text) (xs : List tree.Argument) → IsFunctionName f → IsBlank r
        → Separated (codes ",") ArgumentIs s xs → IsBlank t
        → CallIs (f ++ (codes "(" ++ (r ++ (s ++ (t ++ codes ")"))))) (tree.call f (tree.arguments xs))

  -- a side of a comparison: a literal, a singular query or a call (RFC 9535, 2.3.5.1)
  pub data ComparableIs : Text → tree.Comparable → Type 0 where
    literal_side : (t : Text) (x : tree.Literal) → LiteralIs t x → ComparableIs t (tree.literal x)
    single_side : (t : Text) (q : tree.Query) → QueryIs t q → IsTrue (is_singular q)
        → ComparableIs t (tree.single q)
    call_side : (t : Text) (c : tree.Call) → CallIs t c → ComparableIs t (tree.value_call c)

  -- what `!` may stand before: parentheses, a query or a call (RFC 9535, 2.3.5.1)
  pub data PlainIs : Text → tree.Logical → Type 0 where
    -- parentheses leave no mark
    grouped : (s t u : Text) (l : tree.Logical) → IsBlank s → Inner t l → IsBlank u
        → PlainIs (codes "(" ++ (s ++ (t ++ (u ++ codes ")")))) l
    tested : (t : Text) (q : tree.Query) → QueryIs t q → PlainIs t (tree.test q)
    called : (t : Text) (c : tree.Call) → CallIs t c → PlainIs t (tree.test_call c)

  -- a basic expression (RFC 9535, 2.3.5.1)
  pub data BasicIs : Text → tree.Logical → Type 0 where
    plain : (t : Text) (l : tree.Logical) → PlainIs t l → BasicIs t l
    negated : (s t : Text) (l : tree.Logical) → IsBlank s → PlainIs t l
        → BasicIs (codes "!" ++ (s ++ t)) (tree.negation l)
    compared : (s t : Text) (left right : tree.Comparable) (o : Operator) → ComparableIs s left
        → After (operator_text o) ComparableIs t right
        → BasicIs (s ++ t) (tree.comparing (tree.comparison left o right))

  -- basic expressions with `&&` between (RFC 9535, 2.3.5.1)
  pub data AndIs : Text → tree.Logical → Type 0 where
    and : (t : Text) (ls : List tree.Logical) → Separated (codes "&&") BasicIs t ls
        → AndIs t (joined tree.all ls)

  -- such expressions with `||` between (RFC 9535, 2.3.5.1)
  pub data OrIs : Text → tree.Logical → Type 0 where
    or : (t : Text) (ls : List tree.Logical) → Separated (codes "||") AndIs t ls → OrIs t (joined tree.any ls)

-- a logical expression in which logical expressions stand inside each other at most so many deep,
-- itself counted: inside the filters of queries, parentheses and the arguments of calls (RFC 9535, 2.3.5.1)
abbrev pub LogicalIs : ℕ → Text → tree.Logical → Type 0
LogicalIs zero t l = ⊥
LogicalIs (suc n) t l = OrIs (LogicalIs n) t l

-- the whole text spells the tree: `$`, and segments with blanks before each (RFC 9535, 2.1.1)
pub data Spells : Text → tree.Query → Type 0 where
  spells : (levels : ℕ) (t : Text) (ss : List tree.Segment)
      → Star (Behind (SegmentIs (LogicalIs levels))) t ss
      → Spells (codes "$" ++ t) (tree.query_from Root ss)
