use Rattle.std.proofs.Common.{◌≡◌, ◌≤◌, ◌*◌, ◌+◌, ◌++◌, drop, false}
use Rattle.jp_doc.specs.Height.{height}
use Rattle.jp_doc.specs.Json.{object}
use Rattle.jp_flat.specs.Gathered.{gathered}
use Rattle.jp_flat.specs.Value.{flat_value, items_value, items_left, members_value}
use Rattle.jp_node.specs.Appended.{Extends}
use Rattle.jp_output.proofs.FlatTexts.{items_rest, members_rest}
use Rattle.jp_output.proofs.value_text.+append_value.Given as goal

abbrev pub decreases-append_value : goal.decreases-append_value
decreases-append_value l = 3 * height (flat_value l.value) + 2

abbrev pub decreases-append_items : goal.decreases-append_items
decreases-append_items l = 3 * height (items_value l.items)

abbrev pub decreases-append_list : goal.decreases-append_list
decreases-append_list l = 3 * height (object (gathered l.list.now))

abbrev pub decreases-append_members : goal.decreases-append_members
decreases-append_members l = 3 * height (members_value l.members) + 1

abbrev pub invariant-append_items-loop-item : goal.invariant-append_items-loop-item
invariant-append_items-loop-item l = record {
  rest : l.out.items ++ items_rest l.later (items_value l.left)
      ≡ l.initial.out.items ++ items_rest false (items_value l.items);
  kept : Extends l.initial.out.items l.out.items;
  height : height (items_value l.left) ≤ height (items_value l.items);
}

abbrev pub decreases-append_items-loop-item : goal.decreases-append_items-loop-item
decreases-append_items-loop-item l = items_left l.left

abbrev pub invariant-append_list-loop-member : goal.invariant-append_list-loop-member
invariant-append_list-loop-member l =
    let left = drop l.member-index l.list in record {
      rest : l.out.items ++ members_rest l.later left ≡ l.initial.out.items ++ members_rest false l.list;
      kept : Extends l.initial.out.items l.out.items;
      height : height (object (gathered left)) ≤ height (object (gathered l.list));
    }
