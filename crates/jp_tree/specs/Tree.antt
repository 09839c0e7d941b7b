-- The tree of a query, as plain mathematics (RFC 9535, 2.1 to 2.5).
use Rattle.std.specs.Prelude.{ℕ, Bool, true, false, List, [], ◌∷◌, Option}
use Rattle.jp_tree.specs.declared.tree.Start.{Start}
use Rattle.jp_tree.specs.declared.tree.Operator.{Operator}

-- a text is the list of its Unicode scalar values
abbrev pub Text : Type 0
Text = List ℕ

-- a number is kept as it is written, a text as the characters that it stands for
pub data Literal : Type 0 where
  number : Text → Literal
  text : Text → Literal
  truth : Bool → Literal
  null : Literal

mutual
  pub data Query : Type 0 where
    query : Start → Segments → Query

  -- `true` says that the segment is a descendant segment
  pub data Segment : Type 0 where
    segment : Bool → Selectors → Segment

  -- the numbers of an index and of a slice are kept as they are written
  pub data Selector : Type 0 where
    name : Text → Selector
    wildcard : Selector
    index : Text → Selector
    slice : Option Text → Option Text → Option Text → Selector
    filter : Logical → Selector

  pub data Logical : Type 0 where
    any : Logicals → Logical
    all : Logicals → Logical
    negation : Logical → Logical
    comparing : Comparison → Logical
    test : Query → Logical
    test_call : Call → Logical

  pub data Comparison : Type 0 where
    comparison : Comparable → Operator → Comparable → Comparison

  pub data Comparable : Type 0 where
    literal : Literal → Comparable
    single : Query → Comparable
    value_call : Call → Comparable

  pub data Call : Type 0 where
    call : Text → Arguments → Call

  pub data Argument : Type 0 where
    literal_argument : Literal → Argument
    query_argument : Query → Argument
    logical_argument : Logical → Argument
    call_argument : Call → Argument

  -- lists of these
  pub data Segments : Type 0 where
    no_segments : Segments
    add_segment : Segment → Segments → Segments

  pub data Selectors : Type 0 where
    no_selectors : Selectors
    add_selector : Selector → Selectors → Selectors

  pub data Logicals : Type 0 where
    no_logicals : Logicals
    add_logical : Logical → Logicals → Logicals

  pub data Arguments : Type 0 where
    no_arguments : Arguments
    add_argument : Argument → Arguments → Arguments

-- a list as one of these
abbrev pub segments : List Segment → Segments
segments [] = no_segments
segments (s ∷ ss) = add_segment s (segments ss)

abbrev pub selectors : List Selector → Selectors
selectors [] = no_selectors
selectors (x ∷ xs) = add_selector x (selectors xs)

abbrev pub logicals : List Logical → Logicals
logicals [] = no_logicals
logicals (l ∷ ls) = add_logical l (logicals ls)

abbrev pub arguments : List Argument → Arguments
arguments [] = no_arguments
arguments (a ∷ others) = add_argument a (arguments others)

-- a child segment with these selectors, and a descendant segment
abbrev pub child : List Selector → Segment
child xs = segment false (selectors xs)

abbrev pub descendant : List Selector → Segment
descendant xs = segment true (selectors xs)

-- the query that starts there and has these segments
abbrev pub query_from : Start → List Segment → Query
query_from start ss = query start (segments ss)
