use Rattle.std.proofs.Common.{rules, arith, w64, ◌+ℤ◌}
use mir.Val.{SFits}
use Rattle.std.proofs.lemmas.Int.{ints, to_z-of_z}
use Rattle.jp_node.specs.BoundsView.{bounds_value}
use Rattle.jp_node.proofs.SlicePlaces.{falling_goes, falling_goes_to, falling_ends}
use Rattle.jp_node.proofs.bounds.after_falling.Goals as goal

pub returns-then-bounds-next-clause-indexes : goal.returns-then-bounds-next-clause-indexes
returns-then-bounds-next-clause-indexes c =
    let s : SFits w64 c.args.bounds.step = search rules in
    let l : SFits w64 c.args.bounds.lower = search rules in
    let p : SFits w64 c.from.result = search rules in
    let n : SFits w64 (c.from.result +ℤ c.args.bounds.step) =
    omega (arith, ints, c.requires.within.step) in
    let t = simp to_z-of_z at c.if-bounds-next.true in
    let q = rw c.from.ensures at t in
    λ len v. simp to_z-of_z
    (rw c.from.ensures (falling_goes (bounds_value c.args.bounds) _ c.requires.within c.requires.falling
    c.args.place c.requires.place len q))

pub returns-then-bounds-next-clause-place : goal.returns-then-bounds-next-clause-place
returns-then-bounds-next-clause-place c =
    let s : SFits w64 c.args.bounds.step = search rules in
    let l : SFits w64 c.args.bounds.lower = search rules in
    let p : SFits w64 c.from.result = search rules in
    let n : SFits w64 (c.from.result +ℤ c.args.bounds.step) =
    omega (arith, ints, c.requires.within.step) in
    let t = simp to_z-of_z at c.if-bounds-next.true in
    let q = rw c.from.ensures at t in
    simp to_z-of_z (rw c.from.ensures (falling_goes_to (bounds_value c.args.bounds) _ c.requires.within
    c.requires.falling c.args.place c.requires.place q))

pub returns-else-bounds-next-clause-indexes : goal.returns-else-bounds-next-clause-indexes
returns-else-bounds-next-clause-indexes c =
    let s : SFits w64 c.args.bounds.step = search rules in
    let l : SFits w64 c.args.bounds.lower = search rules in
    let p : SFits w64 c.from.result = search rules in
    let n : SFits w64 (c.from.result +ℤ c.args.bounds.step) =
    omega (arith, ints, c.requires.within.step) in
    let t = simp to_z-of_z at c.if-bounds-next.false in
    let q = rw c.from.ensures at t in
    λ len v. falling_ends (bounds_value c.args.bounds) _ c.requires.within c.requires.falling c.args.place
    c.requires.place len q
