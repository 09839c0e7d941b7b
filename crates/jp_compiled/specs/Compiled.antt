-- The query that a compiled query stands for.
use Rattle.jp_tree.specs.Tree as tree
use Rattle.jp_compiled.specs.Parts.{segments_in, roots_of}
use Rattle.jp_compiled.specs.declared.compiled.CompiledQuery.{CompiledQuery}

abbrev pub compiled_query : CompiledQuery → tree.Query
compiled_query q = tree.query q.start (segments_in (roots_of q.roots.items) q.segments.items)
