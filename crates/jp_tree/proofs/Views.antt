-- What a tree of `src/` stands for, part by part.
use Rattle.std.proofs.Common.{◌≡◌, sym, ap, ◌∙◌, Bool}
use Rattle.std.specs.Prelude.{String, Vec, Box}
use Rattle.std.specs.declared.alloc.Global.{Global}
use Rattle.jp_tree.specs.Tree as tree
use Rattle.jp_tree.specs.View.{query_of, text_of, literal_of, slice_of, argument_level, comparable_level}
use Rattle.jp_tree.specs.View.{logical_level, selector_level, call_level, comparison_level, query_level}
use Rattle.jp_tree.specs.View.{segment_level}
use Rattle.jp_tree.specs.PartViews.{argument_of, comparable_of, logical_of, selector_of, call_of}
use Rattle.jp_tree.specs.PartViews.{comparison_of, segment_of, segments_of, selectors_of, logicals_of}
use Rattle.jp_tree.specs.PartViews.{arguments_of}
use Rattle.jp_tree.specs.declared.tree.Start.{Start}
use Rattle.jp_tree.specs.declared.tree.Operator.{Operator}
use Rattle.jp_tree.specs.declared.tree.Literal.{Literal}
use Rattle.jp_tree.specs.declared.tree.Slice.{Slice}
use Rattle.jp_tree.specs.declared.tree.Argument.{Argument, fold-roll-Argument}
use Rattle.jp_tree.specs.declared.tree.Comparable.{Comparable, fold-roll-Comparable}
use Rattle.jp_tree.specs.declared.tree.Logical.{Logical, fold-roll-Logical}
use Rattle.jp_tree.specs.declared.tree.Selector.{Selector, fold-roll-Selector}
use Rattle.jp_tree.specs.declared.tree.Call.{Call, roll-Call, fold-roll-Call}
use Rattle.jp_tree.specs.declared.tree.Comparison.{Comparison, roll-Comparison, fold-roll-Comparison}
use Rattle.jp_tree.specs.declared.tree.Segment.{Segment, roll-Segment, fold-roll-Segment}
use Rattle.jp_tree.specs.declared.tree.Query.{Query, roll-Query, fold-roll-Query}
use Rattle.jp_tree.specs.declared.tree.Selector.TheVariants as sel
use Rattle.jp_tree.specs.declared.tree.Logical.TheVariants as log
use Rattle.jp_tree.specs.declared.tree.Comparable.TheVariants as side
use Rattle.jp_tree.specs.declared.tree.Argument.TheVariants as arg

pub query_made : (start : Start) (v : Vec Segment Global)
    → query_of (roll-Query (record { start = start; segments = v }))
    ≡ tree.query_from start (segments_of v.items)
query_made start v = fold-roll-Query tree.Argument tree.Comparable tree.Logical tree.Selector tree.Call
    tree.Comparison tree.Query tree.Segment argument_level comparable_level logical_level selector_level
    call_level comparison_level query_level segment_level _

pub segment_made : (deep : Bool) (v : Vec Selector Global)
    → segment_of (roll-Segment (record { deep = deep; selectors = v }))
    ≡ tree.segment deep (tree.selectors (selectors_of v.items))
segment_made deep v = fold-roll-Segment tree.Argument tree.Comparable tree.Logical tree.Selector tree.Call
    tree.Comparison tree.Query tree.Segment argument_level comparable_level logical_level selector_level
    call_level comparison_level query_level segment_level _

pub name_made : (s : String Global) → selector_of (sel.Name s) ≡ tree.name (text_of s)
name_made s = ap selector_of (sym (sel.rolls-Name s)) ∙ fold-roll-Selector tree.Argument tree.Comparable
    tree.Logical tree.Selector tree.Call tree.Comparison tree.Query tree.Segment argument_level
    comparable_level logical_level selector_level call_level comparison_level query_level segment_level _

pub wild_made : selector_of sel.Wild ≡ tree.wildcard
wild_made = ap selector_of (sym sel.rolls-Wild) ∙ fold-roll-Selector tree.Argument tree.Comparable
    tree.Logical tree.Selector tree.Call tree.Comparison tree.Query tree.Segment argument_level
    comparable_level logical_level selector_level call_level comparison_level query_level segment_level _

pub index_made : (s : String Global) → selector_of (sel.Index s) ≡ tree.index (text_of s)
index_made s = ap selector_of (sym (sel.rolls-Index s)) ∙ fold-roll-Selector tree.Argument tree.Comparable
    tree.Logical tree.Selector tree.Call tree.Comparison tree.Query tree.Segment argument_level
    comparable_level logical_level selector_level call_level comparison_level query_level segment_level _

pub slice_made : (s : Slice) → selector_of (sel.Slice s) ≡ slice_of s
slice_made s = ap selector_of (sym (sel.rolls-Slice s)) ∙ fold-roll-Selector tree.Argument tree.Comparable
    tree.Logical tree.Selector tree.Call tree.Comparison tree.Query tree.Segment argument_level
    comparable_level logical_level selector_level call_level comparison_level query_level segment_level _

pub filter_made : (l : Logical) → selector_of (sel.Filter l) ≡ tree.filter (logical_of l)
filter_made l = ap selector_of (sym (sel.rolls-Filter l)) ∙ fold-roll-Selector tree.Argument tree.Comparable
    tree.Logical tree.Selector tree.Call tree.Comparison tree.Query tree.Segment argument_level
    comparable_level logical_level selector_level call_level comparison_level query_level segment_level _

pub any_made : (v : Vec Logical Global)
    → logical_of (log.Any v) ≡ tree.any (tree.logicals (logicals_of v.items))
any_made v = ap logical_of (sym (log.rolls-Any v)) ∙ fold-roll-Logical tree.Argument tree.Comparable
    tree.Logical tree.Selector tree.Call tree.Comparison tree.Query tree.Segment argument_level
    comparable_level logical_level selector_level call_level comparison_level query_level segment_level _

pub all_made : (v : Vec Logical Global)
    → logical_of (log.All v) ≡ tree.all (tree.logicals (logicals_of v.items))
all_made v = ap logical_of (sym (log.rolls-All v)) ∙ fold-roll-Logical tree.Argument tree.Comparable
    tree.Logical tree.Selector tree.Call tree.Comparison tree.Query tree.Segment argument_level
    comparable_level logical_level selector_level call_level comparison_level query_level segment_level _

pub not_made : (b : Box Logical Global) → logical_of (log.Not b) ≡ tree.negation (logical_of b.value)
not_made b = ap logical_of (sym (log.rolls-Not b)) ∙ fold-roll-Logical tree.Argument tree.Comparable
    tree.Logical tree.Selector tree.Call tree.Comparison tree.Query tree.Segment argument_level
    comparable_level logical_level selector_level call_level comparison_level query_level segment_level _

pub compare_made : (x : Comparison) → logical_of (log.Compare x) ≡ tree.comparing (comparison_of x)
compare_made x = ap logical_of (sym (log.rolls-Compare x)) ∙ fold-roll-Logical tree.Argument tree.Comparable
    tree.Logical tree.Selector tree.Call tree.Comparison tree.Query tree.Segment argument_level
    comparable_level logical_level selector_level call_level comparison_level query_level segment_level _

pub test_made : (q : Query) → logical_of (log.Test q) ≡ tree.test (query_of q)
test_made q = ap logical_of (sym (log.rolls-Test q)) ∙ fold-roll-Logical tree.Argument tree.Comparable
    tree.Logical tree.Selector tree.Call tree.Comparison tree.Query tree.Segment argument_level
    comparable_level logical_level selector_level call_level comparison_level query_level segment_level _

pub test_call_made : (x : Call) → logical_of (log.Call x) ≡ tree.test_call (call_of x)
test_call_made x = ap logical_of (sym (log.rolls-Call x)) ∙ fold-roll-Logical tree.Argument tree.Comparable
    tree.Logical tree.Selector tree.Call tree.Comparison tree.Query tree.Segment argument_level
    comparable_level logical_level selector_level call_level comparison_level query_level segment_level _

pub literal_made : (x : Literal) → comparable_of (side.Literal x) ≡ tree.literal (literal_of x)
literal_made x = ap comparable_of (sym (side.rolls-Literal x))
    ∙ fold-roll-Comparable tree.Argument tree.Comparable tree.Logical tree.Selector tree.Call tree.Comparison
    tree.Query tree.Segment argument_level comparable_level logical_level selector_level call_level
    comparison_level query_level segment_level _

pub single_made : (q : Query) → comparable_of (side.Single q) ≡ tree.single (query_of q)
single_made q = ap comparable_of (sym (side.rolls-Single q))
    ∙ fold-roll-Comparable tree.Argument tree.Comparable tree.Logical tree.Selector tree.Call tree.Comparison
    tree.Query tree.Segment argument_level comparable_level logical_level selector_level call_level
    comparison_level query_level segment_level _

pub value_call_made : (x : Call) → comparable_of (side.Call x) ≡ tree.value_call (call_of x)
value_call_made x = ap comparable_of (sym (side.rolls-Call x))
    ∙ fold-roll-Comparable tree.Argument tree.Comparable tree.Logical tree.Selector tree.Call tree.Comparison
    tree.Query tree.Segment argument_level comparable_level logical_level selector_level call_level
    comparison_level query_level segment_level _

pub literal_argument_made : (x : Literal) → argument_of (arg.Literal x) ≡ tree.literal_argument (literal_of x)
literal_argument_made x = ap argument_of (sym (arg.rolls-Literal x))
    ∙ fold-roll-Argument tree.Argument tree.Comparable tree.Logical tree.Selector tree.Call tree.Comparison
    tree.Query tree.Segment argument_level comparable_level logical_level selector_level call_level
    comparison_level query_level segment_level _

pub query_argument_made : (q : Query) → argument_of (arg.Query q) ≡ tree.query_argument (query_of q)
query_argument_made q = ap argument_of (sym (arg.rolls-Query q))
    ∙ fold-roll-Argument tree.Argument tree.Comparable tree.Logical tree.Selector tree.Call tree.Comparison
    tree.Query tree.Segment argument_level comparable_level logical_level selector_level call_level
    comparison_level query_level segment_level _

pub logical_argument_made : (l : Logical) → argument_of (arg.Logical l) ≡ tree.logical_argument (logical_of l)
logical_argument_made l = ap argument_of (sym (arg.rolls-Logical l))
    ∙ fold-roll-Argument tree.Argument tree.Comparable tree.Logical tree.Selector tree.Call tree.Comparison
    tree.Query tree.Segment argument_level comparable_level logical_level selector_level call_level
    comparison_level query_level segment_level _

pub call_argument_made : (x : Call) → argument_of (arg.Call x) ≡ tree.call_argument (call_of x)
call_argument_made x = ap argument_of (sym (arg.rolls-Call x))
    ∙ fold-roll-Argument tree.Argument tree.Comparable tree.Logical tree.Selector tree.Call tree.Comparison
    tree.Query tree.Segment argument_level comparable_level logical_level selector_level call_level
    comparison_level query_level segment_level _

pub comparison_made : (left : Comparable) (o : Operator) (right : Comparable)
    → comparison_of (roll-Comparison (record { left = left; op = o; right = right }))
    ≡ tree.comparison (comparable_of left) o (comparable_of right)
comparison_made left o right = fold-roll-Comparison tree.Argument tree.Comparable tree.Logical tree.Selector
    tree.Call tree.Comparison tree.Query tree.Segment argument_level comparable_level logical_level
    selector_level call_level comparison_level query_level segment_level _

pub call_made : (s : String Global) (v : Vec Argument Global)
    → call_of (roll-Call (record { name = s; arguments = v }))
    ≡ tree.call (text_of s) (tree.arguments (arguments_of v.items))
call_made s v = fold-roll-Call tree.Argument tree.Comparable tree.Logical tree.Selector tree.Call
    tree.Comparison tree.Query tree.Segment argument_level comparable_level logical_level selector_level
    call_level comparison_level query_level segment_level _
