use Rattle.std.proofs.Common.{sym, ap, ◌∙◌}
use Rattle.jp_tree.specs.Tree.{query}
use Rattle.jp_compiled.specs.Compiled.{compiled_query}
use Rattle.jp_compiled.specs.Parts.{logical_in, roots_of, segments_in}
use Rattle.jp_compiled.specs.inner.OnlyFilter.{query_filter, segments_filter}
use Rattle.jp_compiled.proofs.OneFilter.{one_filter}
use Rattle.jp_compiled.proofs.compiled.CompiledQuery.only_filter.Goals as goal

pub returns-in-Root : goal.returns-in-Root
returns-in-Root c =
    let q = c.args.self.now in
    let roots = roots_of q.roots.items in
    one_filter (λ l. logical_in roots l.now) c.of_segments.result (compiled_query q)
    (c.of_segments.ensures roots
    ∙ ap (λ ss. segments_filter (segments_in roots ss)) c.as_slice.ensures.value
    ∙ ap (λ start. query_filter (query start (segments_in roots q.segments.items))) (sym c.in-Root.is))
