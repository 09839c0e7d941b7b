use Rattle.std.proofs.Common.{◌≡◌, ◌≤◌, ◌+◌, ◌-◌, ◌<◌, ◌++◌, length, map, take, option_map, IfSome}
use Rattle.std.proofs.Common.{sym, ap, ◌∙◌, subst, arith, rules, w64}
use mir.Val.{SFits}
use Rattle.std.specs.List.{slice_get}
use Rattle.std.proofs.lemmas.Int.{ints}
use Rattle.std.proofs.lemmas.Option.{slice_get-map}
use Rattle.jp_doc.specs.Json.{array, items}
use Rattle.jp_doc.specs.Location.{node, item_of}
use Rattle.jp_node.proofs.Short.{items_are_few}
use Rattle.jp_node.specs.Inside.{item_values}
use Rattle.jp_node.specs.Part.{part_value}
use Rattle.jp_node.specs.BoundsView.{bounds_value}
use Rattle.jp_node.specs.Places.{IfPlace, IsPlace, from_place}
use Rattle.jp_node.specs.Slice.{slice_indexes}
use Rattle.jp_node.specs.ChildNodes.{listed_nodes}
use Rattle.jp_node.specs.Nodes.{items_at}
use Rattle.jp_node.proofs.BoundsWithin.{within_more}
use Rattle.jp_node.proofs.Slicing.{above_lower, up_to_upper, step_down, further_down, added}
use Rattle.jp_node.proofs.Slicing.{fewer_left, got_between}
use Rattle.jp_node.proofs.slices.falling.Goals as goal

pub first_place-requires : goal.first_place-requires
first_place-requires c =
    within_more _ _ _ (let few = items_are_few c.args.items in omega (arith, few)) c.requires.within

pub place_after-next-requires-clause-bounds : goal.place_after-next-requires-clause-bounds
place_after-next-requires-clause-bounds c =
    within_more _ _ _ (let few = items_are_few c.args.items in omega (arith, few)) c.requires.within

pub above-lowest-requires-clause-below : goal.above-lowest-requires-clause-below
above-lowest-requires-clause-below c =
    let l : SFits w64 c.args.bounds.lower = search rules in
    let low = above_lower (bounds_value c.args.bounds) c.in-Some.highest c.requires.falls
    c.in-Some.ensures.place in
    omega (arith, ints, low)

pub overflow_add-highest : goal.overflow_add-highest
overflow_add-highest c =
    let few = items_are_few c.args.items in
    let top = c.requires.within.upper_of_falling (step_down _ c.requires.falls) in
    let high = up_to_upper (bounds_value c.args.bounds) c.in-Some.highest c.requires.falls
    c.in-Some.ensures.place in
    omega (arith, ints, few, top, high)

pub overflow_sub-highest : goal.overflow_sub-highest
overflow_sub-highest c =
    let low = above_lower (bounds_value c.args.bounds) c.in-Some.highest c.requires.falls
    c.in-Some.ensures.place in
    omega (arith, ints, low, c.above-lowest.ensures)

pub add_item-requires : goal.add_item-requires
add_item-requires c =
    let bounds = bounds_value c.args.bounds in
    let low = above_lower bounds c.in-Some-next.place c.requires.falls
    (subst (IfPlace bounds) c.in-Some-next.is c.loop-next.invariant.0) in
    record { within = omega (arith, ints, low, c.above-lowest.ensures) }

pub loop-next-smaller : goal.loop-next-smaller
loop-next-smaller c =
    let all = item_values c.args.items in
    fewer_left (bounds_value c.args.bounds) (length all) c.in-Some-next.place c.loop-next.next
    c.place_after-next.result c.in-Some-next.is
    (c.place_after-next.ensures.indexes (length all) c.requires.within)

pub loop-next-preserved : goal.loop-next-preserved
loop-next-preserved c =
    let bounds = bounds_value c.args.bounds in
    let all = item_values c.args.items in
    let place = c.in-Some-next.place in
    let lowest = c.above-lowest.result in
    let count = c.in-Some.highest - lowest + 1 in
    let indexes = c.place_after-next.ensures.indexes (length all) c.requires.within in
    let here : IsPlace bounds place = subst (IfPlace bounds) c.in-Some-next.is c.loop-next.invariant.0 in
    let top : place ≤ c.in-Some.highest =
    subst (λ o. IfSome o (λ i. i ≤ c.in-Some.highest)) c.in-Some-next.is c.loop-next.invariant.1 in
    let low = above_lower bounds place c.requires.falls here in
    let from : lowest ≤ place = omega (arith, ints, low, c.above-lowest.ensures) in
    let within : place - lowest < count = omega (arith, from, top) in
    let found : option_map part_value (slice_get c.as_slice.result.now (place - lowest))
    ≡ item_of place (array (items all)) =
    sym (slice_get-map part_value c.as_slice.result.now (place - lowest))
    ∙ ap (λ l. slice_get l (place - lowest)) (ap (map part_value) c.as_slice.ensures.value
    ∙ c.in_ok-between.ensures ∙ ap (take count) c.skip.ensures)
    ∙ got_between lowest count place all from within in
    let high = c.in_ok-add_item.ensures.height (array (items all)) found in (
      c.place_after-next.ensures.place,
      further_down bounds (length all) place c.in-Some.highest c.place_after-next.result c.requires.falls
          top indexes,
      λ at. let n = node at (array (items all)) in
          added bounds (length all) place c.place_after-next.result n _ _ _
          (c.in_ok-add_item.ensures.nodes (array (items all)) found at) indexes
          (subst (λ o. (listed_nodes at c.loop-next.children.items ++ items_at n
          (from_place bounds (length all) o))
          ≡ items_at n (slice_indexes bounds (length all))) c.in-Some-next.is (c.loop-next.invariant.2 at)),
      omega (arith, high, c.loop-next.invariant.3),
    )
