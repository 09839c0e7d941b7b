-- Segments of one name or index, one after another.
use Rattle.std.proofs.Common.{◌≡◌, false, ◌<◌, ◌≤◌, ◌+◌, ℕ, List, [], ◌∷◌, ◌++◌, length, get_or, drop}
use Rattle.std.proofs.Common.{Option, Some, None, option_to_list, refl, sym, ap, ◌∙◌, append-nil, arith}
use Rattle.std.proofs.lemmas.List.{at_drop_more, at_drop_all}
use Rattle.jp_doc.specs.Json.{Json}
use Rattle.jp_doc.specs.Location.{Location, Node, node, index, item_of}
use Rattle.jp_compiled.specs.declared.query.CompiledSegment.{CompiledSegment, out-CompiledSegment}
use Rattle.jp_compiled.specs.declared.query.CompiledSelector.{CompiledSelector}
use Rattle.jp_node.specs.Nodes.{node_if_some, items_at}
use Rattle.jp_value.specs.Functions.{first_value}
use Rattle.jp_eval.specs.inner.Base.{Base}
use Rattle.jp_eval.specs.inner.OneNode.{AreOne}
use Rattle.jp_eval.specs.inner.Walk.{picked, picked_by, reached}
use Rattle.jp_eval.proofs.Chains.{reached-none, reached-end, reached-plain, reached-step}
use Rattle.jp_eval.proofs.WalkSteps.{none_at, one_at}

one_if : (at : Location) (o : Option Json) → AreOne (node_if_some at o) o
one_if at None = refl
one_if at (Some v) = (at, refl)

pub same_one : (ms ns : List Node) (o : Option Json) → ms ≡ ns → AreOne ns o → AreOne ms o
same_one ms ns None e h = e ∙ h
same_one ms ns (Some v) e h = (h.0, e ∙ h.1)

-- the child, if there is one
pub one_child : (ns : List Node) (at : Location) (o r : Option Json) → ns ≡ node_if_some at o → r ≡ o
    → AreOne ns r
one_child ns at o r e f = rw f (same_one ns (node_if_some at o) o e (one_if at o))

-- the item at a place, if there is one
pub one_item : (n : Node) (o : Option ℕ) (p : ℕ) (r : Option Json) → o ≡ Some p → r ≡ item_of p n.value
    → AreOne (items_at n (option_to_list o)) r
one_item n o p None is e = none_at n o p is e
one_item n o p (Some v) is e = (n.location ++ index p ∷ [], one_at n o p v is e)

pub one_is : (xs : List CompiledSelector) (x : CompiledSelector) → 1 ≤ length xs → length xs < 2
    → x ≡ get_or xs 0 x
    → xs ≡ x ∷ []
one_is [] x low high is = absurd (omega arith)
one_is (y ∷ []) x low high is = ap (λ z. z ∷ []) (sym is)
one_is (y ∷ z ∷ xs) x low high is = absurd (omega arith)

module _ (base : Base) where
  -- a segment of one selector that leads to one node at most
  pub one_step : (s : CompiledSegment) (xs : List CompiledSelector) (x : CompiledSelector) (n : Node)
      (o : Option Json)
      → (out-CompiledSegment s).deep ≡ false → xs ≡ (out-CompiledSegment s).selectors.items
      → 1 ≤ length xs → length xs < 2 → x ≡ get_or xs 0 x
      → AreOne (picked base x n) o → AreOne (reached base (s ∷ []) (n ∷ [])) o
  one_step s xs x n o plain items low high is = same_one _ _ o
      (reached-plain base s [] n plain
      ∙ reached-end base _
      ∙ ap (λ ys. picked_by base ys n) (sym items ∙ one_is xs x low high is)
      ∙ append-nil (picked base x n))

  module _ (ss : List CompiledSegment) (i : ℕ) (s : CompiledSegment) (n : Node) (h : i < length ss)
      (is : s ≡ get_or ss i s) where
    stepped : reached base (drop i ss) (n ∷ [])
        ≡ reached base (drop (i + 1) ss) (reached base (s ∷ []) (n ∷ []))
    stepped = at_drop_more (λ ts. reached base ts (n ∷ [])) ss i s h
        ∙ ap (λ t. reached base (t ∷ drop (i + 1) ss) (n ∷ [])) (sym is)
        ∙ reached-step base s (drop (i + 1) ss) (n ∷ [])

    -- one segment further
    pub led_on : (v : Json) → AreOne (reached base (s ∷ []) (n ∷ [])) (Some v)
        → (at : Location) × (reached base (drop i ss) (n ∷ [])
        ≡ reached base (drop (i + 1) ss) (node at v ∷ []))
    led_on v one = (one.0, stepped ∙ ap (reached base (drop (i + 1) ss)) one.1)

    -- nothing is there
    pub led_off : AreOne (reached base (s ∷ []) (n ∷ [])) None → reached base (drop i ss) (n ∷ []) ≡ []
    led_off none = stepped ∙ ap (reached base (drop (i + 1) ss)) none ∙ reached-none base (drop (i + 1) ss)

  -- the end
  pub led_to_end : (ss : List CompiledSegment) (i : ℕ) (n : Node) → length ss ≤ i
      → first_value (reached base (drop i ss) (n ∷ [])) ≡ Some n.value
  led_to_end ss i n h = ap first_value
      (at_drop_all (λ ts. reached base ts (n ∷ [])) ss i h ∙ reached-end base (n ∷ []))
