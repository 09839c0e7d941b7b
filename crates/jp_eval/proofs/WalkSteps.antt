-- The steps of the walk.
use Rattle.std.proofs.Common.{◌≡◌, ℕ, ◌+◌, ◌-◌, ◌<◌, ◌≤◌, List, [], ◌∷◌, ◌++◌, length}
use Rattle.std.proofs.Common.{length-append, get_or, take, drop, Option, Some, None, option_to_list, Bool}
use Rattle.std.proofs.Common.{true, false, cond, not, ◌&&◌, ◌||◌, refl, sym, ap, ◌∙◌, subst, arith}
use Rattle.std.proofs.Math.Seq.{take-append_seam}
use Rattle.std.proofs.lemmas.List.{at_drop_more, at_drop_all, map-append}
use Rattle.std.specs.List.{flat_map, list_any, list_all}
use Rattle.std.specs.Prelude.{IsTrue}
use Rattle.jp_doc.specs.Json.{Json}
use Rattle.jp_doc.specs.Location.{Node, node, index, item_of}
use Rattle.jp_flat.specs.Structured.{is_structured}
use Rattle.jp_node.specs.ChildNodes.{structured_nodes}
use Rattle.jp_node.specs.Inside.{IsScalar}
use Rattle.jp_node.specs.Links.{link_step, link_steps}
use Rattle.jp_found.specs.Kept.{plus}
use Rattle.jp_found.specs.Links.{here}
use Rattle.jp_node.specs.Nodes.{items_at}
use Rattle.jp_node.specs.Nodes.{children, descendants, node_if_some}
use Rattle.jp_node.specs.Part.{part_value}
use Rattle.jp_eval.specs.inner.Walk.{picked, picked_by, reached, is_true, sifted}
use Rattle.jp_node.specs.declared.part.Part.{Part}
use Rattle.jp_node.specs.declared.link.Link.{Link}
use Rattle.jp_compiled.specs.declared.query.CompiledLogical.{CompiledLogical}
use Rattle.jp_compiled.specs.declared.query.CompiledSegment.{CompiledSegment}
use Rattle.jp_compiled.specs.declared.query.CompiledSelector.{CompiledSelector}
use Rattle.jp_eval.specs.inner.Base.{Base}
use Rattle.jp_node.proofs.Structured.{scalar_is}
use Rattle.jp_eval.proofs.Chains.{reached-append, reached-descend, reached-none}
use Rattle.jp_eval.proofs.Idle.{nothing_below}
use Rattle.jp_found.proofs.Keeping.{stepped, ended, plus-append}

front_of_one_more : (path : List Link) (l : Link) → take (length (path ++ l ∷ []) - 1) (path ++ l ∷ [])
    ≡ path
front_of_one_more path l =
    let e : length (path ++ l ∷ []) - 1 ≡ length path = omega (arith, length-append path (l ∷ [])) in
    ap (λ n. take n (path ++ l ∷ [])) e ∙ take-append_seam path (l ∷ [])

-- one link further
pub link_further : (path more : List Link) (l : Link) → more ≡ path ++ l ∷ []
    → link_steps more ≡ link_steps path ++ link_step l ∷ []
link_further path more l e = ap link_steps e ∙ map-append link_step path (l ∷ [])

-- one link back
pub back_up : (path pushed walked back : List Link) (l : Link) → pushed ≡ path ++ l ∷ [] → walked ≡ pushed
    → back ≡ take (length walked - 1) walked → back ≡ path
back_up path pushed walked back l e f g = g ∙ ap (λ ls. take (length ls - 1) ls) (f ∙ e)
    ∙ front_of_one_more path l

pub here_further : (path more : List Link) (l : Link) (p : Part) → more ≡ path ++ l ∷ []
    → here more p ≡ node (link_steps path ++ link_step l ∷ []) (part_value p)
here_further path more l p e = ap (λ s. node s (part_value p)) (link_further path more l e)

-- the whole list has been gone over
pub over : {K : Type 0} (put : K → Node → K) {X : Type 0} (f : List X → List Node) (xs : List X) (i : ℕ)
    (k start : K) (all : List Node) → length xs ≤ i → f [] ≡ [] → plus put k (f (drop i xs))
    ≡ plus put start all → k ≡ plus put start all
over put f xs i k start all h none inv =
    ended put k start all (sym (ap (plus put k) (at_drop_all f xs i h ∙ none)) ∙ inv)

-- one selector
pub applied : {K : Type 0} (put : K → Node → K) (base : Base) (xs : List CompiledSelector) (i : ℕ)
    (x : CompiledSelector)
    (rest : List CompiledSegment) (n : Node) (k mid start : K) (all : List Node) → i < length xs
    → x ≡ get_or xs i x
    → mid ≡ plus put k (reached base rest (picked base x n))
    → plus put k (reached base rest (picked_by base (drop i xs) n)) ≡ plus put start all
    → plus put mid (reached base rest (picked_by base (drop (i + 1) xs) n)) ≡ plus put start all
applied put base xs i x rest n k mid start all h is e inv =
    let first : reached base rest (picked_by base (drop i xs) n) ≡ reached base rest (picked base x n)
    ++ reached base rest (picked_by base (drop (i + 1) xs) n) =
    at_drop_more (λ ys. reached base rest (picked_by base ys n)) xs i x h
    ∙ ap (λ y. reached base rest (picked base y n ++ picked_by base (drop (i + 1) xs) n)) (sym is)
    ∙ reached-append base rest (picked base x n) (picked_by base (drop (i + 1) xs) n) in
    stepped put k mid (reached base rest (picked base x n))
    (reached base rest (picked_by base (drop (i + 1) xs) n)) all start e (sym (ap (plus put k) first)
    ∙ inv)

pub descended : {K : Type 0} (put : K → Node → K) (base : Base) (xs : List CompiledSelector)
    (rest : List CompiledSegment)
    (n : Node) (k mid last : K) → mid ≡ plus put k (reached base rest (picked_by base xs n))
    → last ≡ plus put mid
    (flat_map (λ c. reached base rest (flat_map (picked_by base xs) (descendants c))) (children n))
    → last ≡ plus put k (reached base rest (flat_map (picked_by base xs) (descendants n)))
descended put base xs rest n k mid last here below =
    below ∙ ap (λ j. plus put j
    (flat_map (λ c. reached base rest (flat_map (picked_by base xs) (descendants c))) (children n)))
    here
    ∙ sym (plus-append put k (reached base rest (picked_by base xs n))
    (flat_map (λ c. reached base rest (flat_map (picked_by base xs) (descendants c))) (children n)))
    ∙ ap (plus put k) (sym (reached-descend base xs rest n))

-- ---- below a node, where only arrays and objects are gone over

kept_at : (b : Bool) (f : Node → List Node) (n : Node) (ns : List Node) → is_structured n.value ≡ b
    → ((m : Node) → IsScalar m.value → f m ≡ []) → flat_map f (structured_nodes ns) ≡ flat_map f ns
    → flat_map f (cond b (n ∷ structured_nodes ns) (structured_nodes ns)) ≡ f n ++ flat_map f ns
kept_at true f n ns is none h = ap (λ l. f n ++ l) h
kept_at false f n ns is none h =
    let scalar = scalar_is n.value (subst (λ b. IsTrue (not b)) (sym is) refl) in
    h ∙ ap (λ l. l ++ flat_map f ns) (sym (none n scalar))

-- what finds nothing at a scalar finds all at the others
kept_structured : (f : Node → List Node) (ns : List Node) → ((n : Node) → IsScalar n.value → f n ≡ [])
    → flat_map f (structured_nodes ns) ≡ flat_map f ns
kept_structured f [] none = refl
kept_structured f (n ∷ ns) none = kept_at (is_structured n.value) f n ns refl none (kept_structured f ns none)

pub descended_structured : {K : Type 0} (put : K → Node → K) (base : Base) (xs : List CompiledSelector)
    (rest : List CompiledSegment)
    (n : Node) (listed : List Node) (k mid last : K)
    → mid ≡ plus put k (reached base rest (picked_by base xs n))
    → structured_nodes listed ≡ structured_nodes (children n)
    → last ≡ plus put mid
    (flat_map (λ c. reached base rest (flat_map (picked_by base xs) (descendants c))) listed)
    → last ≡ plus put k (reached base rest (flat_map (picked_by base xs) (descendants n)))
descended_structured put base xs rest n listed k mid last here same below =
    let f : Node → List Node = λ c. reached base rest (flat_map (picked_by base xs) (descendants c)) in
    let none : (m : Node) → IsScalar m.value → f m ≡ [] =
    λ m is. nothing_below base m.location m.value is xs rest in
    descended put base xs rest n k mid last here
    (below ∙ ap (plus put mid) (sym (kept_structured f listed none) ∙ ap (flat_map f) same
    ∙ kept_structured f (children n) none))

-- ---- places

pub none_at : (n : Node) (o : Option ℕ) (p : ℕ) → o ≡ Some p → None ≡ item_of p n.value
    → items_at n (option_to_list o) ≡ []
none_at n o p is none = ap (λ x. items_at n (option_to_list x)) is
    ∙ ap (λ x. node_if_some (n.location ++ index p ∷ []) x ++ []) (sym none)

pub one_at : (n : Node) (o : Option ℕ) (p : ℕ) (v : Json) → o ≡ Some p → Some v ≡ item_of p n.value
    → items_at n (option_to_list o) ≡ node (n.location ++ index p ∷ []) v ∷ []
one_at n o p v is some = ap (λ x. items_at n (option_to_list x)) is
    ∙ ap (λ x. node_if_some (n.location ++ index p ∷ []) x ++ []) (sym some)

-- ---- some part, and each part

module _ {X : Type 0} (p : X → Bool) (xs : List X) (i : ℕ) (x : X) (h : i < length xs)
    (is : x ≡ get_or xs i x) where
  pub any_further : p x ≡ false → list_any p (drop (i + 1) xs) ≡ list_any p (drop i xs)
  any_further off = sym (at_drop_more (list_any p) xs i x h ∙ ap (λ b. b || list_any p (drop (i + 1) xs))
      (ap p (sym is) ∙ off))

  pub any_found : p x ≡ true → list_any p (drop i xs) ≡ true
  any_found on = at_drop_more (list_any p) xs i x h ∙ ap (λ b. b || list_any p (drop (i + 1) xs))
      (ap p (sym is) ∙ on)

  pub all_further : p x ≡ true → list_all p (drop (i + 1) xs) ≡ list_all p (drop i xs)
  all_further on = sym (at_drop_more (list_all p) xs i x h ∙ ap (λ b. b && list_all p (drop (i + 1) xs))
      (ap p (sym is) ∙ on))

  pub all_found : p x ≡ false → list_all p (drop i xs) ≡ false
  all_found off = at_drop_more (list_all p) xs i x h ∙ ap (λ b. b && list_all p (drop (i + 1) xs))
      (ap p (sym is) ∙ off)

-- ---- a node of which an expression is true, or not

module _ (base : Base) (l : CompiledLogical) (rest : List CompiledSegment) (n : Node) where
  pub sifted_in : is_true base l n ≡ true → sifted base l rest n ≡ reached base rest (n ∷ [])
  sifted_in on = rw on refl

  pub sifted_out : is_true base l n ≡ false → sifted base l rest n ≡ []
  sifted_out off = rw off (reached-none base rest)
