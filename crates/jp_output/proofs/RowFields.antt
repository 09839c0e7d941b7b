-- The fields of a row, one after another.
use Rattle.std.proofs.Common.{◌≡◌, ◌<◌, ◌≤◌, ◌+◌, ℕ, List, [], ◌∷◌, ◌++◌, length, get_or, drop, map, sym}
use Rattle.std.proofs.Common.{ap, ◌∙◌}
use Rattle.std.proofs.Common.{append_assoc, append-nil}
use Rattle.std.proofs.lemmas.List.{at_drop_more, at_drop_all}
use Rattle.jp_doc.specs.Json.{Json}
use Rattle.jp_output.specs.Rows.{behind_tabs, field_at, field_of}
use Rattle.jp_output.specs.declared.field.Field.{Field}

module _ (fs : List Field) (i : ℕ) (v : Json) where
  -- one more is written, behind a tab
  pub one_more : (f : Field) (out tabbed written : List ℕ) → i < length fs → f ≡ get_or fs i f
      → tabbed ≡ out ++ 9 ∷ [] → written ≡ tabbed ++ field_at v (field_of f)
      → written ++ behind_tabs (map field_of (drop (i + 1) fs)) v
      ≡ out ++ behind_tabs (map field_of (drop i fs)) v
  one_more f out tabbed written h is tab field =
      let rest = behind_tabs (map field_of (drop (i + 1) fs)) v in
      ap (λ (w : List ℕ). w ++ rest) (field ∙ ap (λ (t : List ℕ). t ++ field_at v (field_of f)) tab)
      ∙ append_assoc (out ++ 9 ∷ []) (field_at v (field_of f)) rest
      ∙ append_assoc out (9 ∷ []) (field_at v (field_of f) ++ rest)
      ∙ sym (ap (λ (t : List ℕ). out ++ t)
      (at_drop_more (λ gs. behind_tabs (map field_of gs) v) fs i f h
      ∙ ap (λ g. behind_tabs (map field_of (g ∷ drop (i + 1) fs)) v) (sym is)))

  -- all are written
  pub no_more : (out : List ℕ) → length fs ≤ i → out ≡ out ++ behind_tabs (map field_of (drop i fs)) v
  no_more out h = sym (ap (λ (t : List ℕ). out ++ t) (at_drop_all (λ gs. behind_tabs (map field_of gs) v) fs
      i h)
      ∙ append-nil out)
