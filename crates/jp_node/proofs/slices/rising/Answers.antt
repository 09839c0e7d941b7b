use Rattle.std.proofs.Common.{◌≡◌, ◌++◌, length, subst, arith}
use Rattle.jp_doc.specs.Json.{array, items}
use Rattle.jp_doc.specs.Location.{node}
use Rattle.jp_node.proofs.Short.{items_are_few}
use Rattle.jp_node.specs.Inside.{item_values}
use Rattle.jp_node.specs.BoundsView.{bounds_value}
use Rattle.jp_node.specs.Places.{IfPlace, from_place}
use Rattle.jp_node.specs.Slice.{slice_indexes}
use Rattle.jp_node.specs.ChildNodes.{listed_nodes}
use Rattle.jp_node.specs.Nodes.{items_at}
use Rattle.jp_node.proofs.BoundsWithin.{within_more}
use Rattle.jp_node.proofs.Slicing.{in_reach, further_on, added}
use Rattle.jp_node.proofs.slices.rising.Goals as goal

pub first_place-next-requires : goal.first_place-next-requires
first_place-next-requires c =
    within_more _ _ _ (let few = items_are_few c.args.items in omega (arith, few)) c.requires.within

pub place_after-next-requires-clause-bounds : goal.place_after-next-requires-clause-bounds
place_after-next-requires-clause-bounds c =
    within_more _ _ _ (let few = items_are_few c.args.items in omega (arith, few)) c.requires.within

pub overflow_add-passed : goal.overflow_add-passed
overflow_add-passed c =
    let bounds = bounds_value c.args.bounds in
    let few = items_are_few c.args.items in
    let below = in_reach bounds (length (item_values c.args.items)) c.in-Some.place c.requires.rises
    c.requires.within (subst (IfPlace bounds) c.in-Some.is c.loop-next.invariant.0) in
    omega (arith, few, below)

pub loop-next-preserved : goal.loop-next-preserved
loop-next-preserved c =
    let bounds = bounds_value c.args.bounds in
    let all = item_values c.args.items in
    let indexes = c.place_after-next.ensures.indexes (length all) c.requires.within in
    let high = c.in_ok-left.ensures.height all c.loop-next.invariant.1 in (
      c.place_after-next.ensures.place,
      c.in_ok-left.ensures.behind all c.loop-next.invariant.1,
      further_on bounds (length all) c.in-Some.place c.place_after-next.result c.requires.rises indexes,
      λ at. let n = node at (array (items all)) in
          added bounds (length all) c.in-Some.place c.place_after-next.result n _ _ _
          (c.in_ok-left.ensures.nodes all c.loop-next.invariant.1 at) indexes
          (subst (λ o. (listed_nodes at c.loop-next.children.items ++ items_at n
          (from_place bounds (length all) o))
          ≡ items_at n (slice_indexes bounds (length all))) c.in-Some.is (c.loop-next.invariant.3 at)),
      omega (arith, high, c.loop-next.invariant.4),
    )
