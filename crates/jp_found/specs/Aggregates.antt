-- What a filter is told of nodes.
use Rattle.std.specs.Prelude.{Bool, true, false, ◌==◌, List, length, Option, Some, None, option_map}
use Rattle.jp_doc.specs.Json.{Json}
use Rattle.jp_doc.specs.Location.{Node}
use Rattle.jp_compiled.specs.declared.query.Want.{Want}
use Rattle.jp_compiled.specs.declared.query.Want.TheVariants as want
use Rattle.jp_found.specs.Identical.{identical}
use Rattle.jp_value.specs.Functions.{first_value, only_value, number_value}
use Rattle.jp_found.specs.Different.{is_different}
use Rattle.jp_found.specs.Kept.{alone_of, alone_value}
use Rattle.jp_node.specs.Part.{part_value}
use Rattle.jp_found.specs.declared.aggregates.Aggregate.{Aggregate}
use Rattle.jp_found.specs.declared.aggregates.Aggregate.TheVariants.{First, Count, Only, Distinct}

-- an answer tells what is wanted of these nodes
abbrev pub tells : Want → List Node → Aggregate → Bool
tells want.First ns (First o) = identical (option_map part_value o) (first_value ns)
tells want.Count ns (Count n) = n == length ns
tells want.Only ns (Only a) = identical (alone_value (alone_of a)) (only_value ns)
tells want.Distinct ns (Distinct d) = is_different d ns
tells _ ns _ = false

-- an answer to what is wanted, be it right or wrong
abbrev pub is_of : Want → Aggregate → Bool
is_of want.First (First o) = true
is_of want.Count (Count n) = true
is_of want.Only (Only a) = true
is_of want.Distinct (Distinct d) = true
is_of _ _ = false

-- the value of the first, the number, or the value of the only one: whichever the answer has
abbrev pub told : Aggregate → Option Json
told (First o) = option_map part_value o
told (Count n) = Some (number_value n)
told (Only a) = alone_value (alone_of a)
told (Distinct d) = None
