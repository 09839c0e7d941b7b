-- Names in rising order, at every level.
use Rattle.std.specs.Prelude.{◌≡◌}
use Rattle.std.specs.declared.cmp.Ordering.TheVariants.{Less}
use Rattle.std.specs.Str.{IsUtf8}
use Rattle.serde_json.specs.Data as crate_data
use Rattle.jp_doc.specs.Json.{Text, text_cmp, Json, null, truth, number, text, array, object, Items, no_items}
use Rattle.jp_doc.specs.Json.{add_item, Members, no_members, add_member}

-- the first text is below the second
abbrev pub IsTextBelow : Text → Text → Type 0
IsTextBelow k l = text_cmp k l ≡ Less

-- the name of the first of the members, if there is one, is above this one
abbrev pub IsBelow : Text → Members → Type 0
IsBelow k no_members = Unit {0}
IsBelow k (add_member l v ms) = IsTextBelow k l

-- the names of each object in a value rise, so that each stands once
abbrev mutual
  pub IsRising : Json → Type 0
  IsRising null = Unit {0}
  IsRising (truth b) = Unit {0}
  IsRising (number x) = Unit {0}
  IsRising (text s) = Unit {0}
  IsRising (array vs) = ItemsRise vs
  IsRising (object ms) = MembersRise ms

  pub ItemsRise : Items → Type 0
  ItemsRise no_items = Unit {0}
  ItemsRise (add_item v vs) = IsRising v × ItemsRise vs

  pub MembersRise : Members → Type 0
  MembersRise no_members = Unit {0}
  MembersRise (add_member k v ms) = IsRising v × IsBelow k ms × MembersRise ms

-- the names of the members that the JSON crate reads are UTF-8
abbrev pub NamesAreUtf8 : crate_data.Members → Type 0
NamesAreUtf8 crate_data.no_members = Unit {0}
NamesAreUtf8 (crate_data.member k d ms) = IsUtf8 k × NamesAreUtf8 ms
