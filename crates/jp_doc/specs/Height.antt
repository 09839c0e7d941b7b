-- How deep arrays and objects nest in a value (RFC 8259, 9).
use Rattle.std.specs.Prelude.{ℕ, suc, max}
use Rattle.jp_doc.specs.Json.{Json, null, truth, number, text, array, object, Items, no_items, add_item}
use Rattle.jp_doc.specs.Json.{Members, no_members, add_member}

abbrev mutual
  pub height : Json → ℕ
  height null = 0
  height (truth b) = 0
  height (number x) = 0
  height (text s) = 0
  height (array vs) = suc (items_height vs)
  height (object ms) = suc (members_height ms)

  pub items_height : Items → ℕ
  items_height no_items = 0
  items_height (add_item v vs) = max (height v) (items_height vs)

  pub members_height : Members → ℕ
  members_height no_members = 0
  members_height (add_member k v ms) = max (height v) (members_height ms)
