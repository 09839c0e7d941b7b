-- Children that are gathered, and the height of halves.
use Rattle.std.proofs.Common.{◌≡◌, ℕ, zero, suc, ◌≤◌, List, [], ◌∷◌, ◌++◌, take}
use Rattle.std.proofs.Common.{drop, sym, ap, ◌∙◌, subst, arith}
use Rattle.std.proofs.lemmas.List.{map-append}
use Rattle.jp_doc.specs.Location.{Location, Node}
use Rattle.jp_node.specs.Part.{part_value}
use Rattle.jp_node.specs.ChildNodes.{child_node, listed_nodes, children_height}
use Rattle.jp_node.specs.declared.children.Child.{Child}
use Rattle.jp_doc.specs.Height.{height}

height-push : (cs : List Child) (c : Child) (m : ℕ) → children_height cs ≤ m
    → suc (height (part_value c.part)) ≤ m → children_height (cs ++ c ∷ []) ≤ m
height-push [] c m h d = omega arith
height-push (x ∷ cs) c m h d = let p = height-push cs c m (omega arith) d in omega arith

-- one more child is no higher
pub gathered_height : (cs more : List Child) (c : Child) (m : ℕ) → more ≡ cs ++ c ∷ []
    → children_height cs ≤ m → suc (height (part_value c.part)) ≤ m → children_height more ≤ m
gathered_height cs more c m e h d = subst (λ l. children_height l ≤ m) (sym e) (height-push cs c m h d)

-- one more child
pub one_more : (at : Location) (cs more : List Child) (c : Child) (n : Node) → more ≡ cs ++ c ∷ []
    → child_node at c ≡ n → listed_nodes at more ≡ listed_nodes at cs ++ n ∷ []
one_more at cs more c n e is = ap (listed_nodes at) e ∙ map-append (child_node at) cs (c ∷ [])
    ∙ ap (λ k. listed_nodes at cs ++ k ∷ []) is

-- ---- halves

pub front_height : (m : ℕ) (cs : List Child) → children_height (take m cs) ≤ children_height cs
front_height zero cs = omega arith
front_height (suc m) [] = omega arith
front_height (suc m) (c ∷ cs) = let h = front_height m cs in omega arith

pub back_height : (m : ℕ) (cs : List Child) → children_height (drop m cs) ≤ children_height cs
back_height zero cs = omega arith
back_height (suc m) [] = omega arith
back_height (suc m) (c ∷ cs) = let h = back_height m cs in omega arith
