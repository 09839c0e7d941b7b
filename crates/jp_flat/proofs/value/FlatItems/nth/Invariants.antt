use Rattle.std.proofs.Common.{◌≡◌, ◌-◌}
use Rattle.jp_doc.specs.Location.{item_of}
use Rattle.jp_flat.specs.Value.{items_value}
use Rattle.jp_flat.proofs.value.FlatItems.nth.Given as goal

abbrev pub invariant-loop-i : goal.invariant-loop-i
invariant-loop-i l = item_of (l.place - l.i) (items_value l.left) ≡ item_of l.place (items_value l.fn.self)
