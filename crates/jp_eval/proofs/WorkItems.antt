-- Actions along the children of a value.
use Rattle.std.proofs.Common.{◌≡◌, List, [], ◌∷◌, ◌++◌, Bool, sym, ap, ◌∙◌}
use Rattle.std.specs.List.{filter, flat_map}
use Rattle.jp_doc.specs.Location.{Node}
use Rattle.jp_compiled.specs.declared.query.CompiledSegment.{CompiledSegment}
use Rattle.jp_compiled.specs.declared.query.CompiledSelector.{CompiledSelector}
use Rattle.jp_eval.specs.inner.Base.{Base}
use Rattle.jp_node.specs.Nodes.{children, descendants}
use Rattle.jp_found.specs.Kept.{plus}
use Rattle.jp_eval.specs.inner.Walk.{picked, picked_by, reached}
use Rattle.jp_eval.proofs.Chains.{reached-append, reached-descend, reached-each, reached-filter, reached-none}
use Rattle.jp_found.proofs.Keeping.{stepped}

-- the segments from each child that a selector picks, and from each for which a test is true
pub run_along : (base : Base) (ss : List CompiledSegment) (x : CompiledSelector) (n : Node)
    (ks ns : List Node) → ks ≡ ns
    → picked base x n ≡ ns → flat_map (λ k. reached base ss (k ∷ [])) ks ≡ reached base ss (picked base x n)
run_along base ss x n ks ns e is = ap (flat_map (λ k. reached base ss (k ∷ []))) e
    ∙ sym (reached-each base ss ns) ∙ ap (reached base ss) (sym is)

pub test_along : (base : Base) (ss : List CompiledSegment) (x : CompiledSelector) (n : Node) (p : Node → Bool)
    (ks ns : List Node) → ks ≡ ns → picked base x n ≡ filter p ns
    → flat_map (λ k. reached base ss (filter p (k ∷ []))) ks ≡ reached base ss (picked base x n)
test_along base ss x n p ks ns e is = ap (flat_map (λ k. reached base ss (filter p (k ∷ [])))) e
    ∙ sym (reached-filter base ss p ns) ∙ ap (reached base ss) (sym is)

-- one selector, and then the others
pub one_selector : (base : Base) (ss : List CompiledSegment) (xs ys : List CompiledSelector)
    (x : CompiledSelector) (n : Node)
    (found : List Node) → xs ≡ x ∷ ys → found ≡ reached base ss (picked base x n)
    → reached base ss (picked_by base xs n) ≡ found ++ reached base ss (picked_by base ys n)
one_selector base ss xs ys x n found e is =
    ap (λ zs. reached base ss (picked_by base zs n)) e
    ∙ reached-append base ss (picked base x n) (picked_by base ys n)
    ∙ ap (λ l. l ++ reached base ss (picked_by base ys n)) (sym is)

-- no selector is left
pub no_selector : (base : Base) (ss : List CompiledSegment) (xs : List CompiledSelector) (n : Node)
    (below : List Node)
    → xs ≡ [] → reached base ss (picked_by base xs n) ++ below ≡ below
no_selector base ss xs n below e =
    ap (λ zs. reached base ss (picked_by base zs n) ++ below) e
    ∙ ap (λ l. l ++ below) (reached-none base ss)

-- the selectors at the node, and then below it
pub at_and_below : (base : Base) (ss : List CompiledSegment) (xs : List CompiledSelector) (n : Node)
    → reached base ss (picked_by base xs n)
    ++ flat_map (λ c. reached base ss (flat_map (picked_by base xs) (descendants c))) (children n)
    ≡ reached base ss (flat_map (picked_by base xs) (descendants n))
at_and_below base ss xs n = sym (reached-descend base xs ss n)

-- one work item, and then what is left
pub work_item_done : {K : Type 0} (put : K → Node → K) (k mid start : K) (found left all items : List Node)
    → items ≡ found ++ left → mid ≡ plus put k found → plus put k items ≡ plus put start all
    → plus put mid left ≡ plus put start all
work_item_done put k mid start found left all items is e inv =
    stepped put k mid found left all start e (sym (ap (plus put k) is) ∙ inv)
