use Rattle.std.proofs.Common.{◌∙◌, ◌++◌, map, sym, ap}
use Rattle.jp_tree.specs.Tree as tree
use Rattle.jp_tree.specs.PartViews.{segment_of, segments_of}
use Rattle.jp_tree.specs.declared.tree.Query.{out-Query}
use Rattle.jp_types.proofs.Levels.{query_level}
use Rattle.jp_check.specs.Known.{known_texts}
use Rattle.jp_check.specs.LiteralPatterns.{literal_patterns, segments_patterns}
use Rattle.jp_check.proofs.MakingSteps.{begins_itself}
use Rattle.jp_check.proofs.making.make_query.Goals as goal

pub returns-clause-made : goal.returns-clause-made
returns-clause-made c =
    ap (λ ss. tree.query (out-Query c.args.query.now).start (tree.segments ss))
    (c.in_ok-segments.ensures.made _ (begins_itself _) ∙ ap (map segment_of) c.as_slice.ensures.value)
    ∙ sym (query_level c.args.query.now)

pub returns-clause-patterns : goal.returns-clause-patterns
returns-clause-patterns c =
    c.in_ok-segments.ensures.patterns
    ∙ ap (λ ks. known_texts ks ++ segments_patterns (tree.segments (segments_of c.as_slice.result.now)))
    c.new-listed.ensures.patterns
    ∙ ap (λ ss. segments_patterns (tree.segments (segments_of ss))) c.as_slice.ensures.value
    ∙ sym (ap literal_patterns (query_level c.args.query.now))
