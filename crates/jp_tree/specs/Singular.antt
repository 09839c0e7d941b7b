-- Singular queries, which select one node at most (RFC 9535, 2.3.5.1).
use Rattle.std.specs.Prelude.{Bool, true, false, not, ◌&&◌}
use Rattle.jp_tree.specs.Tree as tree

-- whether a selector is a name or an index (RFC 9535, 2.3.5.1)
abbrev pub is_name_or_index : tree.Selector → Bool
is_name_or_index (tree.name t) = true
is_name_or_index (tree.index t) = true
is_name_or_index _ = false

-- whether there is exactly one selector, which is a name or an index
abbrev pub is_one_step : tree.Selectors → Bool
is_one_step tree.no_selectors = false
is_one_step (tree.add_selector x tree.no_selectors) = is_name_or_index x
is_one_step (tree.add_selector x (tree.add_selector y xs)) = false

-- whether it is a child segment with exactly one selector, which is a name or an index (RFC 9535, 2.3.5.1)
abbrev pub is_singular_segment : tree.Segment → Bool
is_singular_segment (tree.segment deep xs) = not deep && is_one_step xs

-- whether each of the segments is such a one
abbrev pub each_is_singular : tree.Segments → Bool
each_is_singular tree.no_segments = true
each_is_singular (tree.add_segment s ss) = is_singular_segment s && each_is_singular ss

-- whether a query is singular, wherever it starts (RFC 9535, 2.3.5.1)
abbrev pub is_singular : tree.Query → Bool
is_singular (tree.query start ss) = each_is_singular ss
