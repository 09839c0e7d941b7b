-- Members in a list, and names in rising order.
use Rattle.std.specs.Prelude.{List, [], ◌∷◌}
use Rattle.std.specs.Str.{chars}
use Rattle.jp_doc.specs.Json.{Text, Json, Members, no_members, add_member}
use Rattle.jp_doc.specs.Rising.{IsTextBelow}
use Rattle.jp_flat.specs.Value.{flat_value}
use Rattle.jp_flat.specs.declared.value.FlatMember.{FlatMember}

-- a member of the list, by its name and its value
abbrev pub entry : FlatMember → Text × Json
entry m = (chars m.name.now, flat_value m.value)

-- the members of the list, before others
abbrev pub onto : List FlatMember → Members → Members
onto [] ms = ms
onto (m ∷ list) ms = add_member (chars m.name.now) (flat_value m.value) (onto list ms)

-- the members of an object in a list, one for one
abbrev pub gathered : List FlatMember → Members
gathered list = onto list no_members

-- the names of all members are above this one
abbrev pub AreAbove : Text → Members → Type 0
AreAbove k no_members = Unit {0}
AreAbove k (add_member l v ms) = IsTextBelow k l × AreAbove k ms

-- the names of the members rise, so that each stands once
abbrev pub NamesRise : Members → Type 0
NamesRise no_members = Unit {0}
NamesRise (add_member k v ms) = AreAbove k ms × NamesRise ms
