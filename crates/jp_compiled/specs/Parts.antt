-- What the parts of a compiled query stand for.
use Rattle.std.specs.Prelude.{ℕ, List, [], ◌∷◌, ◌++◌, map, get_or, codes, option_map}
use Rattle.jp_tree.specs.Tree as tree
use Rattle.jp_tree.specs.View.{text_of}
use Rattle.jp_tree.specs.declared.tree.Start.TheVariants as start
use Rattle.jp_compiled.specs.declared.query.Want.{Want}
use Rattle.jp_compiled.specs.declared.query.Want.TheVariants.{First, Count, Only, Distinct}
use Rattle.jp_compiled.specs.declared.query.ArgumentForm.{ArgumentForm}
use Rattle.jp_compiled.specs.declared.query.ArgumentForm.TheVariants.{Bare, Expression}
use Rattle.jp_compiled.specs.declared.query.Position.{Position}
use Rattle.jp_compiled.specs.declared.query.CompiledSlice.{CompiledSlice}
use Rattle.jp_compiled.specs.declared.query.Constant.{Constant}
use Rattle.jp_compiled.specs.declared.query.Constant.TheVariants as constant
use Rattle.jp_compiled.specs.declared.query.CompiledSegment.{CompiledSegment, fold-CompiledSegment}
use Rattle.jp_compiled.specs.declared.query.CompiledSelector.{CompiledSelector, fold-CompiledSelector}
use Rattle.jp_compiled.specs.declared.query.CompiledLogical.{CompiledLogical, fold-CompiledLogical}
use Rattle.jp_compiled.specs.declared.query.Giver.{Giver, fold-Giver}
use Rattle.jp_compiled.specs.declared.query.Nodes.{Nodes, fold-Nodes}
use Rattle.jp_compiled.specs.declared.query.CompiledLogical.TheOpen.{CompiledLogical-F, Nodes-F}
use Rattle.jp_compiled.specs.declared.query.CompiledLogical.TheOpen.{CompiledSelector-F, Giver-F}
use Rattle.jp_compiled.specs.declared.query.CompiledLogical.TheOpen.{CompiledSegment-F}
use Rattle.jp_compiled.specs.declared.query.RootPart.{RootPart}
use Rattle.jp_compiled.specs.declared.query.RootPart.TheVariants as part

-- What a filter asks of the document alone: the segments of a `$` query, by what is wanted of it, or an
-- expression that asks nothing of the current node.
pub data Wanted : Type 0 where
  first_of : tree.Segments → Wanted
  count_of : tree.Segments → Wanted
  only_of : tree.Segments → Wanted
  distinct_of : tree.Segments → Wanted
  truth_of : tree.Logical → Wanted

abbrev pub wanted : Want → tree.Segments → Wanted
wanted First ss = first_of ss
wanted Count ss = count_of ss
wanted Only ss = only_of ss
wanted Distinct ss = distinct_of ss

-- the segments, where this is what is wanted of them, and else none
abbrev pub where_wanted : Want → Wanted → tree.Segments
where_wanted First (first_of ss) = ss
where_wanted Count (count_of ss) = ss
where_wanted Only (only_of ss) = ss
where_wanted Distinct (distinct_of ss) = ss
where_wanted _ _ = tree.no_segments

-- the `$` query of a slot, of which this is wanted, and `$` where there is none
abbrev pub root_at : List Wanted → ℕ → Want → tree.Query
root_at roots slot want =
    tree.query start.Root (where_wanted want (get_or roots slot (wanted want tree.no_segments)))

-- the expression that is asked, and one that is true where there is none
abbrev pub tested_in : Wanted → tree.Logical
tested_in (truth_of l) = l
tested_in _ = tree.all tree.no_logicals

-- the expression of a slot, and one that is true where there is none
abbrev pub test_at : List Wanted → ℕ → tree.Logical
test_at roots slot = tested_in (get_or roots slot (truth_of (tree.all tree.no_logicals)))

abbrev pub position_text : Position → tree.Text
position_text p = text_of p.text

abbrev pub slice_of : CompiledSlice → tree.Selector
slice_of s = tree.slice (option_map position_text s.first) (option_map position_text s.past)
    (option_map position_text s.step)

abbrev pub constant_of : Constant → tree.Literal
constant_of (constant.Whole n) = tree.number (text_of n.text)
constant_of (constant.Written n) = tree.number (text_of n.text)
constant_of (constant.Text s) = tree.text (text_of s)
constant_of (constant.Truth b) = tree.truth b
constant_of constant.Null = tree.null

-- a side of a comparison as an argument
abbrev pub as_argument : tree.Comparable → tree.Argument
as_argument (tree.literal x) = tree.literal_argument x
as_argument (tree.single q) = tree.query_argument q
as_argument (tree.value_call c) = tree.call_argument c

-- how an argument that is true or false is written, and what it is as it is written so
abbrev pub form_of : tree.Argument → ArgumentForm
form_of (tree.logical_argument l) = Expression
form_of _ = Bare

abbrev pub truth_argument : ArgumentForm → tree.Logical → tree.Argument
truth_argument Bare (tree.test q) = tree.query_argument q
truth_argument Bare (tree.test_call c) = tree.call_argument c
truth_argument _ l = tree.logical_argument l

-- calls with one argument, and with two
abbrev pub call_of_one : tree.Text → tree.Argument → tree.Call
call_of_one function a = tree.call function (tree.arguments (a ∷ []))

abbrev pub call_of_two : tree.Text → tree.Argument → tree.Argument → tree.Call
call_of_two function a b = tree.call function (tree.arguments (a ∷ b ∷ []))

-- where the nodes inside a filter come from: a query, or `distinct` of such
pub data Source : Type 0 where
  queried : tree.Query → Source
  different : Source → Source

-- a source as an argument, as a test, and as a side of a comparison
abbrev pub source_argument : Source → tree.Argument
source_argument (queried q) = tree.query_argument q
source_argument (different s) = tree.call_argument (call_of_one (codes "distinct") (source_argument s))

abbrev pub source_test : Source → tree.Logical
source_test (queried q) = tree.test q
source_test (different s) = tree.test_call (call_of_one (codes "distinct") (source_argument s))

abbrev pub source_side : Source → tree.Comparable
source_side (queried q) = tree.single q
source_side (different s) = tree.value_call (call_of_one (codes "distinct") (source_argument s))

-- what is wanted of the nodes that `distinct` is given, where this is wanted of it
abbrev pub wanted_inside : Want → Want
wanted_inside First = First
wanted_inside _ = Distinct

-- an argument that is a text
abbrev pub text_argument : tree.Text → tree.Argument
text_argument t = tree.literal_argument (tree.text t)

-- One level of the tree, where each part is already seen as what it stands for. What is asked of the document
-- alone are these.
module _ (roots : List Wanted) where
  abbrev pub nodes_level : Nodes-F tree.Logical tree.Selector tree.Comparable (Want → Source)
      tree.Segment
      → Want → Source
  nodes_level (Nodes-F.Here ss) want = queried (tree.query start.Current (tree.segments ss.items))
  nodes_level (Nodes-F.Root slot) want = queried (root_at roots slot want)
  nodes_level (Nodes-F.Distinct q) want = different (q.value (wanted_inside want))

  abbrev pub logical_level : CompiledLogical-F tree.Logical tree.Selector tree.Comparable (Want → Source)
      tree.Segment
      → tree.Logical
  logical_level (CompiledLogical-F.Any ls) = tree.any (tree.logicals ls.items)
  logical_level (CompiledLogical-F.All ls) = tree.all (tree.logicals ls.items)
  logical_level (CompiledLogical-F.Not l) = tree.negation l.value
  logical_level (CompiledLogical-F.Compare left o right) = tree.comparing (tree.comparison left o right)
  logical_level (CompiledLogical-F.Test q) = source_test (q First)
  logical_level (CompiledLogical-F.Match s p) =
      tree.test_call (call_of_two (codes "match") (as_argument s) (as_argument p))
  logical_level (CompiledLogical-F.MatchRead s p) = tree.test_call
      (call_of_two (codes "match") (as_argument s) (text_argument (text_of p.text)))
  logical_level (CompiledLogical-F.Search s p) = tree.test_call
      (call_of_two (codes "search") (as_argument s) (as_argument p))
  logical_level (CompiledLogical-F.SearchRead s p) = tree.test_call
      (call_of_two (codes "search") (as_argument s) (text_argument (text_of p.text)))
  logical_level (CompiledLogical-F.Xor f l g m) = tree.test_call
      (call_of_two (codes "xor") (truth_argument f l.value) (truth_argument g m.value))
  logical_level (CompiledLogical-F.Once slot) = test_at roots slot

abbrev pub selector_level : CompiledSelector-F tree.Logical tree.Selector tree.Comparable (Want → Source)
    tree.Segment
    → tree.Selector
selector_level (CompiledSelector-F.Name s) = tree.name (text_of s)
selector_level CompiledSelector-F.Wild = tree.wildcard
selector_level (CompiledSelector-F.Index p) = tree.index (position_text p)
selector_level (CompiledSelector-F.Slice s) = slice_of s
selector_level (CompiledSelector-F.Filter l) = tree.filter l

abbrev pub value_level : Giver-F tree.Logical tree.Selector tree.Comparable (Want → Source)
    tree.Segment
    → tree.Comparable
value_level (Giver-F.Constant x) = tree.literal (constant_of x)
value_level (Giver-F.Single q) = source_side (q First)
value_level (Giver-F.Length v) = tree.value_call (call_of_one (codes "length") (as_argument v.value))
value_level (Giver-F.Count q) = tree.value_call
    (call_of_one (codes "count") (source_argument (q Count)))
value_level (Giver-F.Only q) = tree.value_call
    (call_of_one (codes "value") (source_argument (q Only)))

abbrev pub segment_level : CompiledSegment-F tree.Logical tree.Selector tree.Comparable (Want → Source)
    tree.Segment
    → tree.Segment
segment_level s = tree.segment s.deep (tree.selectors s.selectors.items)

-- what the parts of a compiled query stand for, where these are asked of the document alone
module _ (roots : List Wanted) where
  abbrev pub segment_in : CompiledSegment → tree.Segment
  segment_in = fold-CompiledSegment tree.Logical tree.Selector tree.Comparable (Want → Source) tree.Segment
      (logical_level roots) selector_level value_level (nodes_level roots) segment_level

  abbrev pub selector_in : CompiledSelector → tree.Selector
  selector_in = fold-CompiledSelector tree.Logical tree.Selector tree.Comparable (Want → Source) tree.Segment
      (logical_level roots) selector_level value_level (nodes_level roots) segment_level

  abbrev pub logical_in : CompiledLogical → tree.Logical
  logical_in = fold-CompiledLogical tree.Logical tree.Selector tree.Comparable (Want → Source) tree.Segment
      (logical_level roots) selector_level value_level (nodes_level roots) segment_level

  abbrev pub value_in : Giver → tree.Comparable
  value_in = fold-Giver tree.Logical tree.Selector tree.Comparable (Want → Source) tree.Segment
      (logical_level roots) selector_level value_level (nodes_level roots) segment_level

  abbrev pub nodes_in : Nodes → Want → Source
  nodes_in = fold-Nodes tree.Logical tree.Selector tree.Comparable (Want → Source) tree.Segment
      (logical_level roots) selector_level value_level (nodes_level roots) segment_level

  abbrev pub segments_in : List CompiledSegment → tree.Segments
  segments_in ss = tree.segments (map segment_in ss)

-- what is asked by a part of the list, where those before it are these
abbrev pub wanted_in : List Wanted → RootPart → Wanted
wanted_in before (part.Query r) = wanted r.want (segments_in before r.segments.items)
wanted_in before (part.Test l) = truth_of (logical_in before l)

-- what is asked by the list, one after another
abbrev pub roots_behind : List Wanted → List RootPart → List Wanted
roots_behind before [] = before
roots_behind before (r ∷ rs) = roots_behind (before ++ wanted_in before r ∷ []) rs

abbrev pub roots_of : List RootPart → List Wanted
roots_of rs = roots_behind [] rs
