-- Members of an object in a list, as names and values.
use Rattle.std.specs.Prelude.{List, [], ◌∷◌, map}
use Rattle.jp_doc.specs.Json.{Text, Json, Members, no_members, add_member}
use Rattle.jp_flat.specs.Gathered.{entry}
use Rattle.jp_node.specs.declared.members.MemberList.{MemberList}
use Rattle.jp_node.specs.declared.members.MemberRange.{MemberRange}

-- names and values, as the members of an object
abbrev pub members : List (Text × Json) → Members
members [] = no_members
members (e ∷ es) = add_member e.0 e.1 (members es)

-- the members of a list, and of a range of them
abbrev pub list_entries : MemberList → List (Text × Json)
list_entries l = map entry l.list.items

abbrev pub range_entries : MemberRange → List (Text × Json)
range_entries r = map entry r.members.now
