-- JSON values as plain mathematics (RFC 9535, 1.1).
use Rattle.std.specs.Prelude.{ℕ, Bool, ℤ, pos, negsuc, List, [], ◌∷◌, encode_utf8_all}
use Rattle.std.specs.Str.{chars, bytes_eq}
use Rattle.std.specs.Ordering.{nat_cmp}
use Rattle.std.specs.Cmp.Lexicographic.{slice_cmp}
use Rattle.std.specs.declared.cmp.Ordering.{Ordering}
use Rattle.serde_json.specs.Data as crate_data
use Rattle.serde_json.specs.View.{view}
use Rattle.serde_json.specs.declared.value.Value.{Value}
use Rattle.jp_number.specs.Number.{Number, whole, written}

-- a text is the list of its Unicode scalar values
abbrev pub Text : Type 0
Text = List ℕ

-- two texts are the same
abbrev pub text_eq : Text → Text → Bool
text_eq = bytes_eq

-- the order of texts by their scalar values, which is that of their UTF-8 bytes
abbrev pub text_cmp : Text → Text → Ordering
text_cmp s t = slice_cmp nat_cmp (encode_utf8_all s) (encode_utf8_all t)

-- A value. An object is a finite map from names to values: the list of its members, each name once, in rising
-- order.
mutual
  pub data Json : Type 0 where
    null : Json
    truth : Bool → Json
    number : Number → Json
    text : Text → Json
    array : Items → Json
    object : Members → Json

  pub data Items : Type 0 where
    no_items : Items
    add_item : Json → Items → Items

  pub data Members : Type 0 where
    no_members : Members
    add_member : Text → Json → Members → Members

-- the items of an array, in order
abbrev pub item_list : Items → List Json
item_list no_items = []
item_list (add_item v vs) = v ∷ item_list vs

-- a list of values as the items of an array
abbrev pub items : List Json → Items
items [] = no_items
items (v ∷ vs) = add_item v (items vs)

-- the number, where it is whole
abbrev pub whole_of : crate_data.Num → ℤ
whole_of (crate_data.unsigned n) = pos n
whole_of (crate_data.negative z) = z
whole_of (crate_data.float x) = pos 0

-- What the JSON crate reads, as a value. Of a number that isn't whole it says nothing: no document has one.
abbrev mutual
  pub json_of : crate_data.Data → Json
  json_of crate_data.null = null
  json_of (crate_data.boolean b) = truth b
  json_of (crate_data.number n) = number (whole (whole_of n))
  json_of (crate_data.string s) = text (chars s)
  json_of (crate_data.array ds) = array (items_of ds)
  json_of (crate_data.object ms) = object (members_of ms)

  pub items_of : crate_data.Items → Items
  items_of crate_data.no_items = no_items
  items_of (crate_data.item d ds) = add_item (json_of d) (items_of ds)

  pub members_of : crate_data.Members → Members
  members_of crate_data.no_members = no_members
  members_of (crate_data.member k d ms) = add_member (chars k) (json_of d) (members_of ms)

-- what a `Value` of the crate stands for
abbrev pub value_of : Value → Json
value_of v = json_of (view v)

-- The way back, for a value whose numbers are whole: what the JSON crate would have read as this value. Of
-- another number it says nothing.
abbrev pub number_of : ℤ → crate_data.Num
number_of (pos n) = crate_data.unsigned n
number_of (negsuc n) = crate_data.negative (negsuc n)

abbrev pub number_data : Number → crate_data.Num
number_data (whole z) = number_of z
number_data (written s) = crate_data.unsigned 0

abbrev mutual
  pub data_of : Json → crate_data.Data
  data_of null = crate_data.null
  data_of (truth b) = crate_data.boolean b
  data_of (number x) = crate_data.number (number_data x)
  data_of (text s) = crate_data.string (encode_utf8_all s)
  data_of (array vs) = crate_data.array (items_data vs)
  data_of (object ms) = crate_data.object (members_data ms)

  pub items_data : Items → crate_data.Items
  items_data no_items = crate_data.no_items
  items_data (add_item v vs) = crate_data.item (data_of v) (items_data vs)

  pub members_data : Members → crate_data.Members
  members_data no_members = crate_data.no_members
  members_data (add_member k v ms) = crate_data.member (encode_utf8_all k) (data_of v) (members_data ms)
