-- What is inside of a part, and what kind of a value it is.
use Rattle.std.specs.Prelude.{◌≡◌, List}
use Rattle.std.specs.Str.{chars}
use Rattle.jp_doc.specs.Json as json
use Rattle.jp_doc.specs.Json.{Json, null, truth, number, text, array, object, items, item_list}
use Rattle.jp_doc.specs.Json.{no_items, no_members}
use Rattle.jp_flat.specs.Value.{items_value, members_value}
use Rattle.jp_node.specs.declared.items.Items.{Items}
use Rattle.jp_node.specs.declared.members.Members.{Members}
use Rattle.jp_node.specs.declared.part.Inside.{Inside}
use Rattle.jp_node.specs.declared.part.Inside.TheVariants as inside
use Rattle.jp_node.specs.declared.part.Kind.{Kind}
use Rattle.jp_node.specs.declared.part.Kind.TheVariants.{Null, Truth, Whole, Written, Text, Array, Object}
use Rattle.jp_number.specs.Number.{whole, written}

-- the items of a value, and its members: none of one of another kind
abbrev pub items_inside : Json → json.Items
items_inside (array vs) = vs
items_inside null = no_items
items_inside (truth b) = no_items
items_inside (number x) = no_items
items_inside (text s) = no_items
items_inside (object ms) = no_items

abbrev pub members_inside : Json → json.Members
members_inside (object ms) = ms
members_inside null = no_members
members_inside (truth b) = no_members
members_inside (number x) = no_members
members_inside (text s) = no_members
members_inside (array vs) = no_members

-- the items that are left
abbrev pub item_values : Items → List Json
item_values i = item_list (items_inside (items_value i.items))

-- the members
abbrev pub members_in : Members → json.Members
members_in m = members_inside (members_value m.members)

-- a value that has nothing inside by its kind
abbrev pub IsScalar : Json → Type 0
IsScalar (array vs) = ⊥
IsScalar (object ms) = ⊥
IsScalar null = Unit {0}
IsScalar (truth b) = Unit {0}
IsScalar (number x) = Unit {0}
IsScalar (text s) = Unit {0}

-- what is inside of the value
abbrev pub IsInside : Inside → Json → Type 0
IsInside (inside.Items i) v = v ≡ array (items (item_values i))
IsInside (inside.Members m) v = v ≡ object (members_in m)
IsInside inside.Nothing v = IsScalar v

-- the value of which it is the kind
abbrev pub kind_value : Kind → Json
kind_value Null = null
kind_value (Truth b) = truth b
kind_value (Whole z) = number (whole z)
kind_value (Written s) = number (written s.text.now)
kind_value (Text s) = text (chars s.now)
kind_value (Array i) = array (items (item_values i))
kind_value (Object m) = object (members_in m)
