-- A node's descendants are the node and those of each child.
use Rattle.std.proofs.Common.{◌≡◌, ℕ, ◌+◌, [], ◌∷◌, ◌++◌, refl, ap}
use Rattle.std.specs.List.{flat_map}
use Rattle.jp_doc.specs.Json.{Json, null, truth, number, text, array, object, Items, no_items, add_item}
use Rattle.jp_doc.specs.Json.{Members, no_members, add_member}
use Rattle.jp_doc.specs.Location.{Location, Node, node, name, index}
use Rattle.jp_node.specs.Nodes.{item_nodes, member_nodes, children_at, children, descendants_at}
use Rattle.jp_node.specs.Nodes.{items_descendants, members_descendants, descendants}

items_descend : (at : Location) (i : ℕ) (vs : Items) → items_descendants at i vs
    ≡ flat_map descendants (item_nodes at i vs)
items_descend at i no_items = refl
items_descend at i (add_item v vs) = ap (λ ns. descendants_at (at ++ index i ∷ []) v ++ ns)
    (items_descend at (i + 1) vs)

members_descend : (at : Location) (ms : Members) → members_descendants at ms
    ≡ flat_map descendants (member_nodes at ms)
members_descend at no_members = refl
members_descend at (add_member k v ms) = ap (λ ns. descendants_at (at ++ name k ∷ []) v ++ ns)
    (members_descend at ms)

descend_at : (at : Location) (v : Json) → descendants_at at v ≡ node at v ∷ flat_map descendants
    (children_at at v)
descend_at at null = refl
descend_at at (truth b) = refl
descend_at at (number x) = refl
descend_at at (text s) = refl
descend_at at (array vs) = ap (λ ns. node at (array vs) ∷ ns) (items_descend at 0 vs)
descend_at at (object ms) = ap (λ ns. node at (object ms) ∷ ns) (members_descend at ms)

pub descend : (n : Node) → descendants n ≡ n ∷ flat_map descendants (children n)
descend n = descend_at n.location n.value
