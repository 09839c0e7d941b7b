use Rattle.std.proofs.Common.{◌≡◌, drop, false}
use Rattle.std.specs.Slice.Iter.{iter_rest}
use Rattle.serde_json.specs.View.{items_view, members_view}
use Rattle.serde_json.specs.Written.{items_have_float, members_have_float}
use Rattle.jp_doc.specs.Json.{items_of, members_of}
use Rattle.jp_value.specs.Comparison.{same_items, same_members}
use Rattle.jp_value.proofs.comparison.+same.Given as goal

abbrev pub invariant-same_items-loop-item : goal.invariant-same_items-loop-item
invariant-same_items-loop-item l =
    (items_have_float (items_view (drop l.item-index l.item-items)) ≡ false)
    × (items_have_float (items_view (iter_rest l.others)) ≡ false)
    × (same_items (items_of (items_view (drop l.item-index l.item-items)))
    (items_of (items_view (iter_rest l.others))) ≡ same_items (items_of (items_view l.left.items))
    (items_of (items_view l.right.items)))

abbrev pub invariant-same_members-loop-name : goal.invariant-same_members-loop-name
invariant-same_members-loop-name l =
    (members_have_float (members_view l.name-iterator) ≡ false)
    × (members_have_float (members_view l.others) ≡ false)
    × (same_members (members_of (members_view l.name-iterator)) (members_of (members_view l.others))
    ≡ same_members (members_of (members_view l.left.entries))
    (members_of (members_view l.right.entries)))
