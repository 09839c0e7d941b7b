-- Queries that are one filter: `$[?FILTER]`, the children of the root for which the expression is true (RFC
-- 9535, 2.3.5).
use Rattle.std.specs.Prelude.{[], ◌∷◌}
use Rattle.jp_tree.specs.Tree.{Logical, Query, filter, child, query_from}
use Rattle.jp_tree.specs.declared.tree.Start.TheVariants.{Root}

-- the query of one child segment that has this filter alone
abbrev pub filter_query : Logical → Query
filter_query l = query_from Root (child (filter l ∷ []) ∷ [])
