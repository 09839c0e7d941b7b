-- A step of a proof, which nobody has to believe: that a query is one filter is known in one way.
use Rattle.jp_tree.specs.Tree.{Query}
use Rattle.jp_compiled.specs.Filter.{filter_query}
use Rattle.jp_check.specs.Filter.{IsOneFilter, filter_inside}
use Rattle.jp_check.specs.inner.QuerySets.{query_set}

pub one_filter_prop : (q : Query) → IsProp (IsOneFilter q)
one_filter_prop q = query_set q (filter_query (filter_inside q))
