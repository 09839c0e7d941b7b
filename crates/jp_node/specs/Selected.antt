-- Which items of an array an index and a slice select (RFC 9535, 2.3.3 and 2.3.4).
use Rattle.std.specs.Prelude.{ℕ, ℤ, List, [], length, Option}
use Rattle.jp_doc.specs.Json as json
use Rattle.jp_doc.specs.Json.{Json, item_list}
use Rattle.jp_node.specs.Slice.{slice_bounds, slice_indexes}
use Rattle.jp_node.specs.Index.{place_of}

-- the places of an array's items that an index, and a slice, select; none of any other value
abbrev pub index_places : ℤ → Json → List ℕ
index_places z (json.array vs) = place_of z (length (item_list vs))
index_places z _ = []

abbrev pub slice_places : Option ℤ → Option ℤ → Option ℤ → Json → List ℕ
slice_places first past step (json.array vs) = slice_indexes
    (slice_bounds first past step (length (item_list vs))) (length (item_list vs))
slice_places first past step _ = []
