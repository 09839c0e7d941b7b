-- Each path that a query prints of a root value selects just its node there.
use Rattle.std.proofs.Common.{◌≡◌, List, [], ◌∷◌}
use Rattle.std.specs.Prelude.{Some}
use Rattle.std.specs.List.{AllByRecursion}
use Rattle.jp_doc.specs.Json.{Json}
use Rattle.jp_doc.specs.Location.{Location, Node, node, value_at}
use Rattle.jp_doc.specs.Rising.{IsRising}
use Rattle.jp_tree.specs.Tree.{Query}
use Rattle.jp_pattern.specs.Tests.{Tests}
use Rattle.jp_check.specs.Verdict.{IsAccepted}
use Rattle.jp_eval.specs.Nodelist.{document_nodes}
use Rattle.jp_eval.proofs.Listed.{listed_where_it_stands}
use Rattle.jp_node.specs.Path.{path_text}
use Rattle.jp_path.specs.PathQuery.{AreSteps}
use Rattle.jp_path.proofs.PathAccepted.{text_selects}

-- a value whose locations have steps as those of `src/`
module _ (t : Tests) (root : Json) (steps : (l : Location) (v : Json) → value_at l root ≡ Some v → AreSteps l)
  where
    pub selected : (l : Location) (v : Json) → value_at l root ≡ Some v → (q : Query)
        × IsAccepted (path_text l) q × (document_nodes t q root ≡ node l v ∷ [])
    selected l v h = text_selects t l root v (steps l v h) h

    each_selected : (ns : List Node) → AllByRecursion (λ n. value_at n.location root ≡ Some n.value) ns
        → AllByRecursion (λ n. (q : Query) × IsAccepted (path_text n.location) q
        × (document_nodes t q root ≡ n ∷ [])) ns
    each_selected [] h = tt
    each_selected (n ∷ ns) h = (selected n.location n.value h.0, each_selected ns h.1)

    pub printed : IsRising root → (p : Query) → AllByRecursion (λ n. (q : Query)
        × IsAccepted (path_text n.location) q × (document_nodes t q root ≡ n ∷ [])) (document_nodes t p root)
    printed rising p = each_selected (document_nodes t p root) (listed_where_it_stands t p root rising)
