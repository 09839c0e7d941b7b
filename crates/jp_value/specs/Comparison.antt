-- Comparison (RFC 9535, 2.3.5.2.2). Nothing is `None`.
use Rattle.std.specs.Prelude.{Bool, true, false, not, ◌&&◌, ◌||◌, Option, Some, None}
use Rattle.std.specs.Ordering.{is_lt}
use Rattle.jp_doc.specs.Json.{text_eq, text_cmp, Json, null, truth, number, text, array, object, Items}
use Rattle.jp_doc.specs.Json.{no_items, add_item, Members, no_members, add_member}
use Rattle.jp_number.specs.Number.{is_equal, is_below}
use Rattle.jp_tree.specs.declared.tree.Operator.{Operator}
use Rattle.jp_tree.specs.declared.tree.Operator.TheVariants.{Eq, Ne, Le, Ge, Lt, Gt}

abbrev pub truth_eq : Bool → Bool → Bool
truth_eq true b = b
truth_eq false b = not b

-- Deep equality: arrays item by item, objects by the same names with equal values.
abbrev mutual
  pub same : Json → Json → Bool
  same null null = true
  same null _ = false
  same (truth a) (truth b) = truth_eq a b
  same (truth a) _ = false
  same (number x) (number y) = is_equal x y
  same (number x) _ = false
  same (text s) (text t) = text_eq s t
  same (text s) _ = false
  same (array vs) (array ws) = same_items vs ws
  same (array vs) _ = false
  same (object ms) (object ns) = same_members ms ns
  same (object ms) _ = false

  pub same_items : Items → Items → Bool
  same_items no_items no_items = true
  same_items no_items (add_item w ws) = false
  same_items (add_item v vs) no_items = false
  same_items (add_item v vs) (add_item w ws) = same v w && same_items vs ws

  pub same_members : Members → Members → Bool
  same_members no_members no_members = true
  same_members no_members (add_member l w ns) = false
  same_members (add_member k v ms) no_members = false
  same_members (add_member k v ms) (add_member l w ns) = text_eq k l && same v w && same_members ms ns

-- `==`: of two nothings, or of two values that are deeply equal
abbrev pub eq : Option Json → Option Json → Bool
eq None None = true
eq None (Some w) = false
eq (Some v) None = false
eq (Some v) (Some w) = same v w

-- of two numbers by value, of two texts by their scalar values
abbrev pub below : Json → Json → Bool
below (number x) (number y) = is_below x y
below (text s) (text t) = is_lt (text_cmp s t)
below _ _ = false

-- `<`: only of two numbers or of two texts
abbrev pub lt : Option Json → Option Json → Bool
lt (Some v) (Some w) = below v w
lt _ _ = false

-- `a <= b` is `a < b` or `a == b`
abbrev pub le : Option Json → Option Json → Bool
le a b = lt a b || eq a b

abbrev pub compared : Operator → Option Json → Option Json → Bool
compared Eq a b = eq a b
compared Ne a b = not (eq a b)
compared Lt a b = lt a b
compared Le a b = le a b
compared Gt a b = lt b a
compared Ge a b = le b a
