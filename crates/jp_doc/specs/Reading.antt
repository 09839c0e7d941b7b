-- What a line is read as (RFC 8259).
use Rattle.std.specs.Prelude.{ℕ, Bool, false, ◌||◌, nat_lt, List, length, Option, Some, None, Result, Ok, Err}
use Rattle.std.specs.Prelude.{if◌then◌else◌}
use Rattle.std.specs.Str.{is_utf8}
use Rattle.serde_json.specs.Data.{Data}
use Rattle.serde_json.specs.Read.{read}
use Rattle.serde_json.specs.Written.{has_float}
use Rattle.jp_doc.specs.Json.{Json, null, truth, number, text, array, object, Items, no_items, add_item}
use Rattle.jp_doc.specs.Json.{Members, no_members, add_member, item_list, json_of}
use Rattle.jp_doc.specs.declared.fault.DocFault.{DocFault}
use Rattle.jp_doc.specs.declared.fault.DocFault.TheVariants.{LongLine, Unreadable, NotWhole, LongArray}

-- the greatest number of bytes in a line, and of items in an array
abbrev pub max_line : ℕ
max_line = 268435456

abbrev pub max_items : ℕ
max_items = 16777216

-- some array, however deep, has more items than this
abbrev mutual
  pub has_long_array : ℕ → Json → Bool
  has_long_array n null = false
  has_long_array n (truth b) = false
  has_long_array n (number x) = false
  has_long_array n (text s) = false
  has_long_array n (array vs) = nat_lt n (length (item_list vs)) || items_have_long_array n vs
  has_long_array n (object ms) = members_have_long_array n ms

  pub items_have_long_array : ℕ → Items → Bool
  items_have_long_array n no_items = false
  items_have_long_array n (add_item v vs) = has_long_array n v || items_have_long_array n vs

  pub members_have_long_array : ℕ → Members → Bool
  members_have_long_array n no_members = false
  members_have_long_array n (add_member k v ms) = has_long_array n v || members_have_long_array n ms

-- what the JSON crate reads from the whole line, where it reads a value
abbrev pub crate_reading : List ℕ → Option Data
crate_reading line = if is_utf8 line then read line else None

-- the first fault of what the crate has read, if it has one, where an array may have this many items
abbrev pub fault_of : ℕ → Data → Option DocFault
fault_of n d =
    if has_float d then Some NotWhole
    else if has_long_array n (json_of d) then Some LongArray
    else None

-- the value, unless an array of it is too long
abbrev pub unless_long : Json → Result Json DocFault
unless_long v = if has_long_array max_items v then Err LongArray else Ok v

-- what is left to test of a value that the crate has read: that its numbers are whole, and then its arrays
abbrev pub document_from : Option Data → Result Json DocFault
document_from None = Err Unreadable
document_from (Some d) = if has_float d then Err NotWhole else unless_long (json_of d)

-- The document that a line holds, or the first of the faults that applies.
abbrev pub reading : List ℕ → Result Json DocFault
reading line = if nat_lt max_line (length line) then Err LongLine else document_from (crate_reading line)
