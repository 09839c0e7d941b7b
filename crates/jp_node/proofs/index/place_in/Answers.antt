use Rattle.std.proofs.Common.{pos, w64, arith, rules}
use Rattle.std.specs.Prelude.{◌≤ℤ◌, ◌<ℤ◌}
use mir.Val.{SFits}
use Rattle.std.proofs.lemmas.Int.{to_z-of_z, ints}
use Rattle.jp_node.specs.Part.{part_value}
use Rattle.jp_node.proofs.Short.{part_is_short}
use Rattle.jp_node.specs.Places.{max_place}
use Rattle.jp_node.proofs.Places.{place_or_none, none_above}
use Rattle.jp_node.proofs.index.place_in.Goals as goal

pub returns-then-index-from : goal.returns-then-index-from
returns-then-index-from c = λ at.
    let low : pos 0 ≤ℤ c.args.index = omega (arith, ints, c.if-index-lt0.false) in
    let high : pos max_place <ℤ c.args.index =
    omega (arith, ints, c.if-index-from.true, c.from.ensures) in
    none_above at (part_value c.args.value) c.args.index (part_is_short c.args.value) low high

pub returns : goal.returns
returns c = λ at.
    let f : SFits w64 c.args.index = search rules in
    let low : pos 0 ≤ℤ c.args.index = omega (arith, ints, c.if-index-lt0.false) in
    rw to_z-of_z (place_or_none at (part_value c.args.value) c.args.index low)
