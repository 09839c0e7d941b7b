-- Locations, nodes, and where a location leads (RFC 9535, 1.1).
use Rattle.std.specs.Prelude.{ℕ, zero, suc, List, [], ◌∷◌, map, Option, Some, None, option_and_then}
use Rattle.std.specs.Prelude.{if◌then◌else◌, string_bytes}
use Rattle.std.specs.Str.{chars}
use Rattle.jp_doc.specs.Json.{Text, text_eq, Json, array, object, Items, no_items, add_item, Members}
use Rattle.jp_doc.specs.Json.{no_members, add_member}
use Rattle.jp_doc.specs.declared.location.Step as code
use Rattle.jp_doc.specs.declared.location.Step.TheVariants as code_step
use Rattle.jp_doc.specs.declared.location.Location as code_location

-- a step to a child
pub data Step : Type 0 where
  name : Text → Step
  index : ℕ → Step

-- a location: the steps from the root
abbrev pub Location : Type 0
Location = List Step

-- a node: a location, and the value there
pub record Node : Type 0 where
  pub location : Location
  pub value : Json

abbrev pub node : Location → Json → Node
node at v = record { location = at; value = v }

-- what a `Step` and a `Location` of `src/` stand for
abbrev pub step_of : code.Step → Step
step_of (code_step.Name s) = name (chars (string_bytes s))
step_of (code_step.Index i) = index i

abbrev pub location_of : code_location.Location → Location
location_of l = map step_of l.steps.items

-- the member of this name
abbrev pub member_at : Text → Members → Option Json
member_at k no_members = None
member_at k (add_member l v ms) = if text_eq k l then Some v else member_at k ms

-- the item at this index
abbrev pub item_at : ℕ → Items → Option Json
item_at i no_items = None
item_at zero (add_item v vs) = Some v
item_at (suc i) (add_item v vs) = item_at i vs

abbrev pub member_of : Text → Json → Option Json
member_of k (object ms) = member_at k ms
member_of k _ = None

abbrev pub item_of : ℕ → Json → Option Json
item_of i (array vs) = item_at i vs
item_of i _ = None

-- the child that a step leads to, where there is one
abbrev pub child_at : Step → Json → Option Json
child_at (name k) v = member_of k v
child_at (index i) v = item_of i v

-- the value at a location, where it leads anywhere
abbrev pub value_at : Location → Json → Option Json
value_at [] v = Some v
value_at (s ∷ ss) v = option_and_then (value_at ss) (child_at s v)
