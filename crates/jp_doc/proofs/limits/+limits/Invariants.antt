use Rattle.std.proofs.Common.{◌≡◌, ◌||◌, drop}
use Rattle.serde_json.specs.View.{items_view, members_view}
use Rattle.serde_json.specs.Written.{items_have_float, members_have_float}
use Rattle.jp_doc.specs.inner.Limits.{tested}
use Rattle.jp_doc.specs.Json.{items_of, members_of}
use Rattle.jp_doc.specs.Reading.{items_have_long_array, members_have_long_array}
use Rattle.jp_doc.proofs.limits.+limits.Given as goal

abbrev pub invariant-long_within_items-loop-item : goal.invariant-long_within_items-loop-item
invariant-long_within_items-loop-item l =
    let rest = items_view (drop l.item-index l.item-items) in
    let all = items_view l.item-items in
    tested (items_have_float rest) (l.long || items_have_long_array l.limit (items_of rest))
    ≡ tested (items_have_float all) (items_have_long_array l.limit (items_of all))

abbrev pub invariant-long_within_members-loop-member : goal.invariant-long_within_members-loop-member
invariant-long_within_members-loop-member l =
    let rest = members_view l.member-iterator in
    let all = members_view l.members.entries in
    tested (members_have_float rest) (l.long || members_have_long_array l.limit (members_of rest))
    ≡ tested (members_have_float all) (members_have_long_array l.limit (members_of all))
