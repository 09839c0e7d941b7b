-- No array of a document has more items than a line has bytes.
use Rattle.std.proofs.Common.{◌≡◌, ◌≤◌, length, refl, subst}
use Rattle.jp_doc.specs.Json.{Json, null, truth, number, text, array, object, item_list}
use Rattle.jp_flat.specs.Value.{tokens_of, flat_value, items_value, item_count}
use Rattle.jp_doc.specs.Reading.{max_line}
use Rattle.jp_flat.proofs.Inside.{few_items}
use Rattle.jp_flat.proofs.Kept as kept
use Rattle.jp_flat.proofs.Kept.{flat_is_short}
use Rattle.jp_node.specs.Inside.{item_values, items_inside}
use Rattle.jp_node.specs.declared.items.Items.{Items}
use Rattle.jp_node.specs.Part.{part_value}
use Rattle.jp_node.specs.declared.part.Part.{Part}

counted : (v : Json) → item_count v ≡ length (item_list (items_inside v))
counted null = refl
counted (truth b) = refl
counted (number x) = refl
counted (text s) = refl
counted (array vs) = refl
counted (object ms) = refl

pub items_are_few : (i : Items) → length (item_values i) ≤ max_line
items_are_few i =
    subst (λ n. n ≤ max_line) (counted (items_value i.items)) (few_items _ i.items.flat)

pub part_is_short : (p : Part) → item_count (part_value p) ≤ max_line
part_is_short p =
    kept.few_items (flat_value p.value) max_line (flat_is_short (tokens_of p.value) p.value.flat)
