-- One level of a tree of `src/`, by what its parts stand for.
use Rattle.std.proofs.Common.{◌≡◌}
use Rattle.jp_tree.specs.Tree as tree
use Rattle.jp_tree.specs.View.{query_of, text_of, argument_level, comparable_level, logical_level}
use Rattle.jp_tree.specs.View.{selector_level}
use Rattle.jp_tree.specs.PartViews.{comparable_of, call_of, comparison_of, segment_of, segments_of}
use Rattle.jp_tree.specs.PartViews.{selectors_of, arguments_of}
use Rattle.jp_tree.specs.declared.tree.Call.{Call}
use Rattle.jp_tree.specs.declared.tree.Comparison.{Comparison}
use Rattle.jp_tree.specs.declared.tree.Segment.{Segment}
use Rattle.jp_tree.specs.declared.tree.Query.{Query, out-Query, fold_out-Query}
use Rattle.jp_tree.proofs.Views.{segment_made, comparison_made, call_made}

pub query_level : (x : Query)
    → query_of x ≡ tree.query (out-Query x).start
    (tree.segments (segments_of (out-Query x).segments.items))
query_level x = fold_out-Query tree.Argument tree.Comparable tree.Logical tree.Selector tree.Call
    tree.Comparison tree.Query tree.Segment argument_level comparable_level logical_level selector_level
    (λ c. tree.call (text_of c.name) (tree.arguments c.arguments.items))
    (λ c. tree.comparison c.left c.op c.right) (λ q. tree.query q.start (tree.segments q.segments.items))
    (λ s. tree.segment s.deep (tree.selectors s.selectors.items)) x

pub segment_level : (x : Segment)
    → segment_of x ≡ tree.segment x.deep (tree.selectors (selectors_of x.selectors.items))
segment_level x = segment_made x.deep x.selectors

pub comparison_level : (x : Comparison) → comparison_of x ≡ tree.comparison (comparable_of x.left) x.op
    (comparable_of x.right)
comparison_level x = comparison_made x.left x.op x.right

pub call_level : (x : Call)
    → call_of x ≡ tree.call (text_of x.name) (tree.arguments (arguments_of x.arguments.items))
call_level x = call_made x.name x.arguments
