-- A test whether two values, or nothings, are one and the same. Numbers are so where one text writes them,
-- though `==` asks for their values alone.
use Rattle.std.specs.Prelude.{Bool, true, false, ◌&&◌, Option, Some, None}
use Rattle.std.specs.Ordering.{int_eq}
use Rattle.jp_doc.specs.Json.{text_eq, Json, null, truth, number, text, array, object, Items, no_items}
use Rattle.jp_doc.specs.Json.{add_item, Members, no_members, add_member}
use Rattle.jp_number.specs.Number.{Number, whole, written}
use Rattle.jp_value.specs.Comparison.{truth_eq}

abbrev pub is_one_number : Number → Number → Bool
is_one_number (whole y) (whole z) = int_eq y z
is_one_number (whole y) (written t) = false
is_one_number (written s) (written t) = text_eq s t
is_one_number (written s) (whole z) = false

abbrev mutual
  pub is_one : Json → Json → Bool
  is_one null null = true
  is_one null _ = false
  is_one (truth a) (truth b) = truth_eq a b
  is_one (truth a) _ = false
  is_one (number x) (number y) = is_one_number x y
  is_one (number x) _ = false
  is_one (text s) (text t) = text_eq s t
  is_one (text s) _ = false
  is_one (array vs) (array ws) = are_one_items vs ws
  is_one (array vs) _ = false
  is_one (object ms) (object ns) = are_one_members ms ns
  is_one (object ms) _ = false

  pub are_one_items : Items → Items → Bool
  are_one_items no_items no_items = true
  are_one_items no_items (add_item w ws) = false
  are_one_items (add_item v vs) no_items = false
  are_one_items (add_item v vs) (add_item w ws) = is_one v w && are_one_items vs ws

  pub are_one_members : Members → Members → Bool
  are_one_members no_members no_members = true
  are_one_members no_members (add_member l w ns) = false
  are_one_members (add_member k v ms) no_members = false
  are_one_members (add_member k v ms) (add_member l w ns) =
      text_eq k l && is_one v w && are_one_members ms ns

abbrev pub identical : Option Json → Option Json → Bool
identical None None = true
identical None (Some w) = false
identical (Some v) None = false
identical (Some v) (Some w) = is_one v w
