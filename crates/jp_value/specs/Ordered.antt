-- A value whose objects have their members in order, and what it stands for.
use Rattle.std.specs.Prelude.{List, [], ◌∷◌, map}
use Rattle.jp_doc.specs.Json.{Text, Json, array, object, items, Members, no_members, add_member}
use Rattle.jp_node.specs.Inside.{kind_value}
use Rattle.jp_node.specs.Members.{list_entries}
use Rattle.jp_value.specs.declared.ordered.Ordered.{Ordered}
use Rattle.jp_value.specs.declared.ordered.Ordered.TheOpen.{Ordered-F}
use Rattle.jp_value.specs.declared.ordered.Ordered.TheFolds.{fold-Ordered}

-- the members of these names and these values, as far as there are both
abbrev pub named : List (Text × Json) → List Json → Members
named es [] = no_members
named [] (v ∷ vs) = no_members
named (e ∷ es) (v ∷ vs) = add_member e.0 v (named es vs)

-- what it stands for, where each value inside of it is what it stands for
abbrev pub value_of_layer : Ordered-F Json → Json
value_of_layer (Ordered-F.Object ms l vs) = object (named (list_entries l) vs.items)
value_of_layer (Ordered-F.Array vs) = array (items vs.items)
value_of_layer (Ordered-F.Plain k) = kind_value k

abbrev pub ordered_value : Ordered → Json
ordered_value = fold-Ordered Json value_of_layer

abbrev pub ordered_values : List Ordered → List Json
ordered_values os = map ordered_value os
