-- What selectors find where nothing is inside.
use Rattle.std.proofs.Common.{◌≡◌, ℕ, ℤ, option_map, List, [], ◌∷◌, ◌++◌, refl, ap, ap₂, ◌∙◌}
use Rattle.std.specs.List.{filter, flat_map}
use Rattle.jp_doc.specs.Json.{Json, null, truth, number, text, array, object}
use Rattle.jp_doc.specs.Location as at
use Rattle.jp_doc.specs.Location.{Location, node}
use Rattle.jp_compiled.specs.Parts.{position_text}
use Rattle.jp_compiled.specs.declared.query.CompiledSegment.{CompiledSegment}
use Rattle.jp_compiled.specs.declared.query.CompiledSelector.{CompiledSelector}
use Rattle.jp_compiled.specs.declared.query.CompiledSelector.TheVariants as sel
use Rattle.jp_compiled.specs.declared.query.CompiledSlice.{CompiledSlice}
use Rattle.jp_value.specs.Literals.{written_value}
use Rattle.jp_eval.specs.inner.Base.{Base}
use Rattle.jp_node.specs.Inside.{IsScalar}
use Rattle.jp_node.specs.Selected.{index_places, slice_places}
use Rattle.jp_node.specs.Nodes.{child, children, items_at, descendants}
use Rattle.jp_eval.specs.inner.Walk.{picked, picked_by, reached, is_true}
use Rattle.jp_eval.proofs.Chains.{reached-none}
use Rattle.jp_eval.proofs.CompiledParts.{picked_name, picked_wild, picked_index, picked_slice, picked_filter}

no_member : (k : List ℕ) (p : Location) (v : Json) → IsScalar v → child (at.name k) (node p v) ≡ []
no_member k p null is = refl
no_member k p (truth b) is = refl
no_member k p (number x) is = refl
no_member k p (text s) is = refl
no_member k p (array vs) is = absurd is
no_member k p (object ms) is = absurd is

no_children : (p : Location) (v : Json) → IsScalar v → children (node p v) ≡ []
no_children p null is = refl
no_children p (truth b) is = refl
no_children p (number x) is = refl
no_children p (text s) is = refl
no_children p (array vs) is = absurd is
no_children p (object ms) is = absurd is

itself : (p : Location) (v : Json) → IsScalar v → descendants (node p v) ≡ node p v ∷ []
itself p null is = refl
itself p (truth b) is = refl
itself p (number x) is = refl
itself p (text s) is = refl
itself p (array vs) is = absurd is
itself p (object ms) is = absurd is

no_index : (z : ℤ) (p : Location) (v : Json) → IsScalar v
    → items_at (node p v) (index_places z v) ≡ []
no_index z p null is = refl
no_index z p (truth b) is = refl
no_index z p (number x) is = refl
no_index z p (text s) is = refl
no_index z p (array vs) is = absurd is
no_index z p (object ms) is = absurd is

abbrev sliced : CompiledSlice → Json → List ℕ
sliced s v = slice_places (written_value (option_map position_text s.first))
    (written_value (option_map position_text s.past))
    (written_value (option_map position_text s.step)) v

no_slice : (s : CompiledSlice) (p : Location) (v : Json) → IsScalar v → items_at (node p v) (sliced s v) ≡ []
no_slice s p null is = refl
no_slice s p (truth x) is = refl
no_slice s p (number x) is = refl
no_slice s p (text t) is = refl
no_slice s p (array vs) is = absurd is
no_slice s p (object ms) is = absurd is

module _ (base : Base) (p : Location) (v : Json) (is : IsScalar v) where
  none_picked : (x : CompiledSelector) → picked base x (node p v) ≡ []
  none_picked (sel.Name s) = picked_name base (node p v) s ∙ no_member _ p v is
  none_picked sel.Wild = picked_wild base (node p v) ∙ no_children p v is
  none_picked (sel.Index i) = picked_index base (node p v) i ∙ no_index _ p v is
  none_picked (sel.Slice s) = picked_slice base (node p v) s ∙ no_slice s p v is
  none_picked (sel.Filter l) = picked_filter base (node p v) l
      ∙ ap (filter (is_true base l)) (no_children p v is)

  none_picked_by : (xs : List CompiledSelector) → picked_by base xs (node p v) ≡ []
  none_picked_by [] = refl
  none_picked_by (x ∷ xs) = ap₂ (λ a b. a ++ b) (none_picked x) (none_picked_by xs)

  -- nothing is found at or below it
  pub nothing_below : (xs : List CompiledSelector) (rest : List CompiledSegment)
      → reached base rest (flat_map (picked_by base xs) (descendants (node p v))) ≡ []
  nothing_below xs rest =
      ap (λ ns. reached base rest (flat_map (picked_by base xs) ns)) (itself p v is)
      ∙ ap (λ ns. reached base rest (ns ++ [])) (none_picked_by xs) ∙ reached-none base rest
