use Rattle.std.proofs.Common.{rules, arith, w64, ◌+ℤ◌}
use mir.Val.{SFits}
use Rattle.std.proofs.lemmas.Int.{ints, to_z-of_z}
use Rattle.jp_node.specs.BoundsView.{bounds_value}
use Rattle.jp_node.proofs.SlicePlaces.{rising_goes, rising_goes_to, rising_ends}
use Rattle.jp_node.proofs.bounds.after_rising.Goals as goal

pub returns-then-next-bounds-clause-indexes : goal.returns-then-next-bounds-clause-indexes
returns-then-next-bounds-clause-indexes c =
    let s : SFits w64 c.args.bounds.step = search rules in
    let u : SFits w64 c.args.bounds.upper = search rules in
    let p : SFits w64 c.from.result = search rules in
    let e = to_z-of_z w64 c.args.bounds.step s in
    let n : SFits w64 (c.from.result +ℤ c.args.bounds.step) =
    omega (arith, ints, c.requires.within.step) in
    let t = simp to_z-of_z at c.if-next-bounds.true in
    let q = rw c.from.ensures at t in
    λ len v. simp to_z-of_z
    (rw c.from.ensures (rising_goes (bounds_value c.args.bounds) _ c.requires.within c.requires.rising
    c.args.place c.requires.place len v q))

pub returns-then-next-bounds-clause-place : goal.returns-then-next-bounds-clause-place
returns-then-next-bounds-clause-place c =
    let s : SFits w64 c.args.bounds.step = search rules in
    let u : SFits w64 c.args.bounds.upper = search rules in
    let p : SFits w64 c.from.result = search rules in
    let n : SFits w64 (c.from.result +ℤ c.args.bounds.step) =
    omega (arith, ints, c.requires.within.step) in
    let t = simp to_z-of_z at c.if-next-bounds.true in
    let q = rw c.from.ensures at t in
    simp to_z-of_z (rw c.from.ensures (rising_goes_to (bounds_value c.args.bounds) _ c.requires.within
    c.requires.rising c.args.place c.requires.place q))

pub returns-else-next-bounds-clause-indexes : goal.returns-else-next-bounds-clause-indexes
returns-else-next-bounds-clause-indexes c =
    let s : SFits w64 c.args.bounds.step = search rules in
    let u : SFits w64 c.args.bounds.upper = search rules in
    let p : SFits w64 c.from.result = search rules in
    let n : SFits w64 (c.from.result +ℤ c.args.bounds.step) =
    omega (arith, ints, c.requires.within.step) in
    let t = simp to_z-of_z at c.if-next-bounds.false in
    let q = rw c.from.ensures at t in
    λ len v. rising_ends (bounds_value c.args.bounds) _ c.requires.within c.requires.rising c.args.place
    c.requires.place len q
