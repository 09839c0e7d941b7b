-- What a tree of `src/` stands for: where it lies in memory is left out.
use Rattle.std.specs.Prelude.{option_map, String, string_bytes}
use Rattle.std.specs.Str.{chars}
use Rattle.std.specs.declared.alloc.Global.{Global}
use Rattle.jp_tree.specs.Tree as tree
use Rattle.jp_tree.specs.declared.tree.Literal.{Literal}
use Rattle.jp_tree.specs.declared.tree.Literal.TheVariants as lit
use Rattle.jp_tree.specs.declared.tree.Slice.{Slice}
use Rattle.jp_tree.specs.declared.tree.Query.{Query, fold-Query}
use Rattle.jp_tree.specs.declared.tree.Argument.TheOpen.{Argument-F, Comparable-F, Logical-F, Selector-F}
use Rattle.jp_tree.specs.declared.tree.Argument.TheOpen.{Call-F, Comparison-F, Query-F, Segment-F}

-- the characters of a string
abbrev pub text_of : String Global → tree.Text
text_of s = chars (string_bytes s)

abbrev pub literal_of : Literal → tree.Literal
literal_of (lit.Number s) = tree.number (text_of s)
literal_of (lit.Text s) = tree.text (text_of s)
literal_of (lit.Truth b) = tree.truth b
literal_of lit.Null = tree.null

abbrev pub slice_of : Slice → tree.Selector
slice_of s = tree.slice (option_map text_of s.first) (option_map text_of s.past) (option_map text_of s.step)

-- one level of the tree, where each part is already seen as what it stands for
abbrev pub argument_level : Argument-F tree.Argument tree.Comparable tree.Logical tree.Selector
    tree.Call tree.Comparison tree.Query tree.Segment → tree.Argument
argument_level (Argument-F.Argument::Literal x) = tree.literal_argument (literal_of x)
argument_level (Argument-F.Query q) = tree.query_argument q
argument_level (Argument-F.Logical l) = tree.logical_argument l
argument_level (Argument-F.Argument::Call c) = tree.call_argument c

abbrev pub comparable_level : Comparable-F tree.Argument tree.Comparable tree.Logical tree.Selector
    tree.Call tree.Comparison tree.Query tree.Segment → tree.Comparable
comparable_level (Comparable-F.Comparable::Literal x) = tree.literal (literal_of x)
comparable_level (Comparable-F.Single q) = tree.single q
comparable_level (Comparable-F.Comparable::Call c) = tree.value_call c

abbrev pub logical_level : Logical-F tree.Argument tree.Comparable tree.Logical tree.Selector
    tree.Call tree.Comparison tree.Query tree.Segment → tree.Logical
logical_level (Logical-F.Any ls) = tree.any (tree.logicals ls.items)
logical_level (Logical-F.All ls) = tree.all (tree.logicals ls.items)
logical_level (Logical-F.Not l) = tree.negation l.value
logical_level (Logical-F.Compare c) = tree.comparing c
logical_level (Logical-F.Test q) = tree.test q
logical_level (Logical-F.Logical::Call c) = tree.test_call c

abbrev pub selector_level : Selector-F tree.Argument tree.Comparable tree.Logical tree.Selector
    tree.Call tree.Comparison tree.Query tree.Segment → tree.Selector
selector_level (Selector-F.Name s) = tree.name (text_of s)
selector_level Selector-F.Wild = tree.wildcard
selector_level (Selector-F.Index s) = tree.index (text_of s)
selector_level (Selector-F.Slice s) = slice_of s
selector_level (Selector-F.Filter l) = tree.filter l

abbrev pub call_level : Call-F tree.Argument tree.Comparable tree.Logical tree.Selector
    tree.Call tree.Comparison tree.Query tree.Segment → tree.Call
call_level c = tree.call (text_of c.name) (tree.arguments c.arguments.items)

abbrev pub comparison_level : Comparison-F tree.Argument tree.Comparable tree.Logical tree.Selector
    tree.Call tree.Comparison tree.Query tree.Segment → tree.Comparison
comparison_level c = tree.comparison c.left c.op c.right

abbrev pub query_level : Query-F tree.Argument tree.Comparable tree.Logical tree.Selector
    tree.Call tree.Comparison tree.Query tree.Segment → tree.Query
query_level q = tree.query q.start (tree.segments q.segments.items)

abbrev pub segment_level : Segment-F tree.Argument tree.Comparable tree.Logical tree.Selector
    tree.Call tree.Comparison tree.Query tree.Segment → tree.Segment
segment_level s = tree.segment s.deep (tree.selectors s.selectors.items)

-- the query that a `Query` stands for
abbrev pub query_of : Query → tree.Query
query_of =
    fold-Query tree.Argument tree.Comparable tree.Logical tree.Selector
    tree.Call tree.Comparison tree.Query tree.Segment
    argument_level comparable_level logical_level selector_level
    call_level comparison_level query_level segment_level
