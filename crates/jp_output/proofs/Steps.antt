-- The steps of a field, one after another.
use Rattle.std.proofs.Common.{◌≡◌, ◌<◌, ◌≤◌, ◌+◌, ℕ, List, ◌∷◌, length, get_or, drop, map, Option, Some}
use Rattle.std.proofs.Common.{option_and_then, sym, ap, ◌∙◌}
use Rattle.std.proofs.lemmas.List.{at_drop_more, at_drop_all}
use Rattle.jp_doc.specs.Json.{Json}
use Rattle.jp_output.specs.Rows.{field_value, step_of, step_value}
use Rattle.jp_output.specs.declared.field.FieldStep.{FieldStep}

module _ (ss : List FieldStep) (i : ℕ) where
  -- one step further
  pub led_on : (s : FieldStep) (v : Json) (o : Option Json) → i < length ss → s ≡ get_or ss i s
      → o ≡ step_value (step_of s) v
      → field_value (map step_of (drop i ss)) v
      ≡ option_and_then (field_value (map step_of (drop (i + 1) ss))) o
  led_on s v o h is e = at_drop_more (λ ts. field_value (map step_of ts) v) ss i s h
      ∙ ap (λ t. field_value (map step_of (t ∷ drop (i + 1) ss)) v) (sym is)
      ∙ ap (option_and_then (field_value (map step_of (drop (i + 1) ss)))) (sym e)

  -- the end
  pub led_to_end : (v : Json) → length ss ≤ i → field_value (map step_of (drop i ss)) v ≡ Some v
  led_to_end v h = at_drop_all (λ ts. field_value (map step_of ts) v) ss i h
