use Rattle.std.proofs.Common.{rules, w64}
use mir.Val.{SFits}
use Rattle.std.proofs.lemmas.Int.{to_z-of_z}
use Rattle.jp_node.specs.BoundsView.{bounds_value}
use Rattle.jp_node.proofs.SlicePlaces.{rising_starts, rising_starts_at, rising_is_empty}
use Rattle.jp_node.proofs.bounds.first_rising.Goals as goal

pub returns-then-bounds-clause-indexes : goal.returns-then-bounds-clause-indexes
returns-then-bounds-clause-indexes c =
    let l : SFits w64 c.args.bounds.lower = search rules in
    let u : SFits w64 c.args.bounds.upper = search rules in
    let t = simp to_z-of_z at c.if-bounds.true in
    λ len v. rw (to_z-of_z w64 c.args.bounds.lower l) (rising_starts (bounds_value c.args.bounds) _
    c.requires.within c.requires.rising len v t)

pub returns-then-bounds-clause-place : goal.returns-then-bounds-clause-place
returns-then-bounds-clause-place c =
    let l : SFits w64 c.args.bounds.lower = search rules in
    let u : SFits w64 c.args.bounds.upper = search rules in
    let t = simp to_z-of_z at c.if-bounds.true in
    rw (to_z-of_z w64 c.args.bounds.lower l) (rising_starts_at (bounds_value c.args.bounds) _
    c.requires.within c.requires.rising t)

pub returns-else-bounds-clause-indexes : goal.returns-else-bounds-clause-indexes
returns-else-bounds-clause-indexes c =
    let l : SFits w64 c.args.bounds.lower = search rules in
    let u : SFits w64 c.args.bounds.upper = search rules in
    let t = simp to_z-of_z at c.if-bounds.false in
    λ len v. rising_is_empty (bounds_value c.args.bounds) _ c.requires.within c.requires.rising len t
