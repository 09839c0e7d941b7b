-- A step of a proof, which nobody has to believe: the expression of what is one filter, part by part.
use Rattle.std.specs.Prelude.{true, false, Option, Some, None}
use Rattle.jp_tree.specs.Tree.{Logical, Selector, name, wildcard, index, slice, filter, Selectors}
use Rattle.jp_tree.specs.Tree.{no_selectors, add_selector, Segment, segment, Segments, no_segments}
use Rattle.jp_tree.specs.Tree.{add_segment, Query, query}
use Rattle.jp_tree.specs.declared.tree.Start.TheVariants.{Root, Current}

abbrev pub selector_filter : Selector → Option Logical
selector_filter (name k) = None
selector_filter wildcard = None
selector_filter (index t) = None
selector_filter (slice first past step) = None
selector_filter (filter l) = Some l

abbrev pub selectors_filter : Selectors → Option Logical
selectors_filter no_selectors = None
selectors_filter (add_selector x no_selectors) = selector_filter x
selectors_filter (add_selector x (add_selector y xs)) = None

abbrev pub segment_filter : Segment → Option Logical
segment_filter (segment true xs) = None
segment_filter (segment false xs) = selectors_filter xs

abbrev pub segments_filter : Segments → Option Logical
segments_filter no_segments = None
segments_filter (add_segment s no_segments) = segment_filter s
segments_filter (add_segment s (add_segment t ss)) = None

abbrev pub query_filter : Query → Option Logical
query_filter (query Root ss) = segments_filter ss
query_filter (query Current ss) = None
