use Rattle.std.proofs.Common.{◌≡◌, ◌<◌, suc, ◌-◌, length, arith, sym, subst, take, drop}
use Rattle.std.specs.Str.{chars}
use Rattle.jp_doc.specs.Json.{add_member}
use Rattle.jp_doc.specs.Tree.{put_member}
use Rattle.jp_flat.specs.Gathered.{onto, gathered, AreAbove}
use Rattle.jp_flat.proofs.Placed.{in_front, placed_behind, placed_at, above_from, none_above}
use Rattle.jp_flat.proofs.Rising.{turned}
use Rattle.jp_flat.proofs.insertion.place_of.Goals as goal

pub loop-place-init : goal.loop-place-init
loop-place-init c = (omega arith, none_above c.args.list.now (chars c.args.name.now))

pub loop-place-preserved : goal.loop-place-preserved
loop-place-preserved c =
    let k = chars c.args.name.now in
    let xs = c.args.list.now in
    let one : suc (c.loop-place.place - 1) ≡ c.loop-place.place = omega (arith, c.loop-place-test.true) in
    let within : c.loop-place.place - 1 < length xs =
    omega (arith, c.loop-place.invariant.0, c.loop-place-test.true) in (
      omega (arith, c.loop-place.invariant.0),
      above_from xs (c.loop-place.place - 1) c.index-list-place.result k within (sym c.in-Less.ensures)
          (subst (λ p. AreAbove k (gathered (drop p xs))) (sym one) c.loop-place.invariant.1),
    )

pub returns-in-Equal : goal.returns-in-Equal
returns-in-Equal c =
    let within : c.loop-place.place - 1 < length c.args.list.now =
    omega (arith, c.loop-place.invariant.0, c.loop-place-test.true) in (
      within,
      λ v. placed_at c.args.list.now (c.loop-place.place - 1) c.index-list-place.result
          (chars c.args.name.now) v within c.requires (sym c.in-Equal.ensures),
    )

pub returns-in-Greater : goal.returns-in-Greater
returns-in-Greater c =
    let k = chars c.args.name.now in
    let xs = c.args.list.now in
    let one : suc (c.loop-place.place - 1) ≡ c.loop-place.place = omega (arith, c.loop-place-test.true) in
    let within : c.loop-place.place - 1 < length xs =
    omega (arith, c.loop-place.invariant.0, c.loop-place-test.true) in (
      c.loop-place.invariant.0,
      λ v. subst
          (λ p. put_member k v (gathered xs) ≡ onto (take p xs) (add_member k v (gathered (drop p xs)))) one
          (placed_behind xs (c.loop-place.place - 1) c.index-list-place.result k v within c.requires
          (turned k _ (sym c.in-Greater.ensures))
          (subst (λ p. AreAbove k (gathered (drop p xs))) (sym one) c.loop-place.invariant.1)),
    )

pub returns : goal.returns
returns c =
    let k = chars c.args.name.now in
    let xs = c.args.list.now in
    let none : c.loop-place.place ≡ 0 = omega (arith, c.loop-place-test.false) in (
      omega arith,
      λ v. in_front k v (gathered xs)
          (subst (λ p. AreAbove k (gathered (drop p xs))) none c.loop-place.invariant.1),
    )
