use Rattle.std.proofs.Common.{◌≡◌, ◌≤◌, ◌*◌, ◌+◌, drop}
use Rattle.jp_doc.specs.Height.{height}
use Rattle.jp_doc.specs.Json.{Items, array, object}
use Rattle.jp_doc.specs.Reading.{max_items, has_long_array, items_have_long_array}
use Rattle.jp_flat.specs.Gathered.{gathered}
use Rattle.jp_flat.specs.Value.{flat_value, items_value, items_left, members_value}
use Rattle.jp_flat.proofs.long_arrays.+long_arrays.Given as goal

abbrev pub decreases-has_long_array : goal.decreases-has_long_array
decreases-has_long_array l = 3 * height (flat_value l.value) + 2

abbrev pub decreases-is_long_in_items : goal.decreases-is_long_in_items
decreases-is_long_in_items l = 3 * height (items_value l.items)

abbrev pub decreases-is_long_in_list : goal.decreases-is_long_in_list
decreases-is_long_in_list l = 3 * height (object (gathered l.list.now))

abbrev pub decreases-is_long_in_members : goal.decreases-is_long_in_members
decreases-is_long_in_members l = 3 * height (members_value l.members) + 1

abbrev pub invariant-is_long_in_items-loop-item : goal.invariant-is_long_in_items-loop-item
invariant-is_long_in_items-loop-item l = record {
  same : (vs : Items) → items_value l.items ≡ array vs → (ws : Items) × (items_value l.left ≡ array ws)
      × (items_have_long_array max_items vs ≡ items_have_long_array max_items ws);
  height : height (items_value l.left) ≤ height (items_value l.items);
}

abbrev pub decreases-is_long_in_items-loop-item : goal.decreases-is_long_in_items-loop-item
decreases-is_long_in_items-loop-item l = items_left l.left

abbrev pub invariant-is_long_in_list-loop-member : goal.invariant-is_long_in_list-loop-member
invariant-is_long_in_list-loop-member l =
    let left = drop l.member-index l.list in record {
      same : has_long_array max_items (object (gathered l.list))
          ≡ has_long_array max_items (object (gathered left));
      height : height (object (gathered left)) ≤ height (object (gathered l.list));
    }
