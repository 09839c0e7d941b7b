-- What the parts of a tree of `src/` stand for.
use Rattle.std.specs.Prelude.{List, map}
use Rattle.jp_tree.specs.Tree as tree
use Rattle.jp_tree.specs.View.{argument_level, comparable_level, logical_level, selector_level}
use Rattle.jp_tree.specs.View.{call_level, comparison_level, query_level, segment_level}
use Rattle.jp_tree.specs.declared.tree.Argument.{Argument, fold-Argument}
use Rattle.jp_tree.specs.declared.tree.Comparable.{Comparable, fold-Comparable}
use Rattle.jp_tree.specs.declared.tree.Logical.{Logical, fold-Logical}
use Rattle.jp_tree.specs.declared.tree.Selector.{Selector, fold-Selector}
use Rattle.jp_tree.specs.declared.tree.Call.{Call, fold-Call}
use Rattle.jp_tree.specs.declared.tree.Comparison.{Comparison, fold-Comparison}
use Rattle.jp_tree.specs.declared.tree.Segment.{Segment, fold-Segment}

abbrev pub argument_of : Argument → tree.Argument
argument_of =
    fold-Argument tree.Argument tree.Comparable tree.Logical tree.Selector
    tree.Call tree.Comparison tree.Query tree.Segment
    argument_level comparable_level logical_level selector_level
    call_level comparison_level query_level segment_level

abbrev pub comparable_of : Comparable → tree.Comparable
comparable_of =
    fold-Comparable tree.Argument tree.Comparable tree.Logical tree.Selector
    tree.Call tree.Comparison tree.Query tree.Segment
    argument_level comparable_level logical_level selector_level
    call_level comparison_level query_level segment_level

abbrev pub logical_of : Logical → tree.Logical
logical_of =
    fold-Logical tree.Argument tree.Comparable tree.Logical tree.Selector
    tree.Call tree.Comparison tree.Query tree.Segment
    argument_level comparable_level logical_level selector_level
    call_level comparison_level query_level segment_level

abbrev pub selector_of : Selector → tree.Selector
selector_of =
    fold-Selector tree.Argument tree.Comparable tree.Logical tree.Selector
    tree.Call tree.Comparison tree.Query tree.Segment
    argument_level comparable_level logical_level selector_level
    call_level comparison_level query_level segment_level

abbrev pub call_of : Call → tree.Call
call_of =
    fold-Call tree.Argument tree.Comparable tree.Logical tree.Selector
    tree.Call tree.Comparison tree.Query tree.Segment
    argument_level comparable_level logical_level selector_level
    call_level comparison_level query_level segment_level

abbrev pub comparison_of : Comparison → tree.Comparison
comparison_of =
    fold-Comparison tree.Argument tree.Comparable tree.Logical tree.Selector
    tree.Call tree.Comparison tree.Query tree.Segment
    argument_level comparable_level logical_level selector_level
    call_level comparison_level query_level segment_level

abbrev pub segment_of : Segment → tree.Segment
segment_of =
    fold-Segment tree.Argument tree.Comparable tree.Logical tree.Selector
    tree.Call tree.Comparison tree.Query tree.Segment
    argument_level comparable_level logical_level selector_level
    call_level comparison_level query_level segment_level

abbrev pub segments_of : List Segment → List tree.Segment
segments_of xs = map segment_of xs

abbrev pub selectors_of : List Selector → List tree.Selector
selectors_of xs = map selector_of xs

abbrev pub logicals_of : List Logical → List tree.Logical
logicals_of xs = map logical_of xs

abbrev pub arguments_of : List Argument → List tree.Argument
arguments_of xs = map argument_of xs
