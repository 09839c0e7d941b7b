-- What is told of nodes, each location once.
use Rattle.std.specs.Prelude.{◌≡◌, Bool, ◌&&◌, ◌==◌, List, length}
use Rattle.jp_doc.specs.Location.{Node}
use Rattle.jp_found.specs.Identical.{identical}
use Rattle.jp_value.specs.Functions.{only_value, distinct}
use Rattle.jp_found.specs.Kept.{alone_of, alone_value}
use Rattle.jp_found.specs.declared.different.Different.{Different}

-- how many there are, and the value of the only one
abbrev pub IsDifferent : Different → List Node → Type 0
IsDifferent d ns = (d.count ≡ length (distinct ns))
    × (alone_value (alone_of d.alone) ≡ only_value (distinct ns))

-- the same as a test
abbrev pub is_different : Different → List Node → Bool
is_different d ns = (d.count == length (distinct ns))
    && identical (alone_value (alone_of d.alone)) (only_value (distinct ns))
