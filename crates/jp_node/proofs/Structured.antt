-- Members that are arrays or objects, and the values that are neither.
use Rattle.std.proofs.Common.{◌≡◌, ◌≤◌, ℕ, max, Bool, true, false, List, ◌∷◌, [], ◌++◌, cond, not, ◌∙◌}
use Rattle.std.proofs.Common.{refl, ap, arith, if◌then◌else◌}
use Rattle.std.specs.Prelude.{IsTrue}
use Rattle.jp_doc.specs.Height.{height, members_height}
use Rattle.jp_doc.specs.Json.{Text, Json, null, truth, number, text, array, object}
use Rattle.jp_doc.specs.Json.{Members, no_members, add_member}
use Rattle.jp_doc.specs.Location.{Location, Node, node, name}
use Rattle.jp_flat.specs.Structured.{is_structured, structured}
use Rattle.jp_node.specs.ChildNodes.{structured_nodes}
use Rattle.jp_node.specs.Inside.{IsScalar}
use Rattle.jp_node.specs.Nodes.{member_nodes}

pub scalar_is : (v : Json) → IsTrue (not (is_structured v)) → IsScalar v
scalar_is null h = tt
scalar_is (truth b) h = tt
scalar_is (number x) h = tt
scalar_is (text s) h = tt
scalar_is (array vs) h = absurd cc
scalar_is (object ms) h = absurd cc

-- their nodes
nodes_at : (b : Bool) (at : Location) (k : Text) (v : Json) (ms : Members) (ns : List Node)
    → is_structured v ≡ b → structured_nodes (member_nodes at ms) ≡ ns
    → structured_nodes (member_nodes at (if b then add_member k v ms else ms))
    ≡ cond b (node (at ++ name k ∷ []) v ∷ ns) ns
nodes_at true at k v ms ns is h =
    let others = structured_nodes (member_nodes at ms) in
    let here = node (at ++ name k ∷ []) v in
    ap (λ b. cond b (here ∷ others) others) is ∙ ap (λ l. here ∷ l) h
nodes_at false at k v ms ns is h = h

pub nodes_structured : (at : Location) (ms : Members)
    → structured_nodes (member_nodes at (structured ms)) ≡ structured_nodes (member_nodes at ms)
nodes_structured at no_members = refl
nodes_structured at (add_member k v ms) =
    nodes_at (is_structured v) at k v (structured ms) _ refl (nodes_structured at ms)

-- how high they are
height_at : (b : Bool) (k : Text) (v : Json) (ms : Members) (n : ℕ) → members_height ms ≤ n
    → members_height (if b then add_member k v ms else ms) ≤ max (height v) n
height_at true k v ms n h = omega (arith, h)
height_at false k v ms n h = omega (arith, h)

pub height_structured : (ms : Members) → members_height (structured ms) ≤ members_height ms
height_structured no_members = omega arith
height_structured (add_member k v ms) =
    height_at (is_structured v) k v (structured ms) (members_height ms) (height_structured ms)
