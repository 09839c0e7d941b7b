-- Children that are walked in halves, and one by one.
use Rattle.std.proofs.Common.{◌≡◌, List, ◌∷◌, ◌++◌, sym, ap, ◌∙◌}
use Rattle.std.proofs.lemmas.List.Concat.{flat_map-append}
use Rattle.std.specs.List.{flat_map}
use Rattle.jp_doc.specs.Location.{Node}
use Rattle.jp_found.specs.Kept.{plus}
use Rattle.jp_found.proofs.Keeping.{plus-append, stepped}

-- one half and then the other
pub halves_joined : {K : Type 0} (put : K → Node → K) (f : Node → List Node) (left right all : List Node)
    (k mid last : K) → left ++ right ≡ all → mid ≡ plus put k (flat_map f left)
    → last ≡ plus put mid (flat_map f right) → last ≡ plus put k (flat_map f all)
halves_joined put f left right all k mid last e first second =
    second ∙ ap (λ j. plus put j (flat_map f right)) first
    ∙ sym (plus-append put k (flat_map f left) (flat_map f right))
    ∙ ap (plus put k) (sym (flat_map-append f left right) ∙ ap (flat_map f) e)

-- ---- children, one by one

pub child_node_done : {K : Type 0} (put : K → Node → K) (f : Node → List Node) (n : Node)
    (left others : List Node) (k mid start : K) (all : List Node) → left ≡ n ∷ others
    → mid ≡ plus put k (f n) → plus put k (flat_map f left) ≡ plus put start all
    → plus put mid (flat_map f others) ≡ plus put start all
child_node_done put f n left others k mid start all first e inv =
    stepped put k mid (f n) (flat_map f others) all start e
    (sym (ap (λ ns. plus put k (flat_map f ns)) first) ∙ inv)
