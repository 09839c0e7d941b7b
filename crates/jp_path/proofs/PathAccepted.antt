-- The text of a path is accepted with the path's query, and with no other.
use Rattle.std.proofs.Common.{◌≡◌, ◌≤◌, true, false, [], ◌∷◌, decimal, map, refl, ap, ◌∙◌, arith}
use Rattle.std.specs.Prelude.{Some}
use Rattle.std.specs.List.{list_any, list_all}
use Rattle.std.proofs.lemmas.Bool.{and_from, le-leb}
use Rattle.jp_doc.specs.Location as at
use Rattle.jp_doc.specs.Json.{Json}
use Rattle.jp_doc.specs.Location.{Location, value_at, node}
use Rattle.jp_pattern.specs.Tests.{Tests}
use Rattle.jp_eval.specs.Nodelist.{document_nodes}
use Rattle.jp_tree.specs.Tree.{Query, segments}
use Rattle.jp_tokens.specs.Depth.{bracket_depth, max_depth}
use Rattle.jp_number.specs.declared.numbers.Numbers.TheVariants.{Whole}
use Rattle.jp_types.specs.Numbers.{segments_numbers, is_fraction, is_in_range, magnitude, max_index}
use Rattle.jp_types.specs.Typing.{segments_typed}
use Rattle.jp_check.specs.Verdict.{IsAccepted}
use Rattle.jp_check.proofs.Verdicts.{accepts, accepts_only}
use Rattle.jp_node.specs.Path.{path_text}
use Rattle.jp_path.specs.PathQuery.{step_segment, path_query, AreIndexes, AreSteps}
use Rattle.jp_path.proofs.OwnNode.{own_node}
use Rattle.jp_path.proofs.IndexText.{decimal_magnitude}
use Rattle.jp_path.proofs.PathSpelled.{path_spelled, path_spelled_only, path_depth}

no_fraction : (l : Location) → list_any is_fraction (segments_numbers (segments (map step_segment l))) ≡ false
no_fraction [] = refl
no_fraction (at.name k ∷ l) = no_fraction l
no_fraction (at.index i ∷ l) = no_fraction l

within_range : (l : Location) → AreSteps l
    → list_all is_in_range (segments_numbers (segments (map step_segment l))) ≡ true
within_range [] h = refl
within_range (at.name k ∷ l) h = within_range l h.1
within_range (at.index i ∷ l) h =
    let e : magnitude (decimal i) ≡ i = decimal_magnitude i h.0 in
    let below : magnitude (decimal i) ≤ max_index = omega arith in
    and_from _ _ (le-leb (magnitude (decimal i)) max_index below) (within_range l h.1)

well_typed : (l : Location) → segments_typed (segments (map step_segment l)) ≡ true
well_typed [] = refl
well_typed (at.name k ∷ l) = well_typed l
well_typed (at.index i ∷ l) = well_typed l

pub path_accepted : (l : Location) → AreSteps l → IsAccepted (path_text l) (path_query l)
path_accepted l h =
    let flat : bracket_depth (path_text l) ≤ 1 = path_depth l h in
    let within : bracket_depth (path_text l) ≤ max_depth = omega arith in (
      within,
      (
        path_query l,
        path_spelled l h,
        accepts Whole (path_query l) (no_fraction l) (within_range l h)
            (well_typed l),
      ),
    )

pub path_accepted_only : (l : Location) (q : Query) → AreSteps l → IsAccepted (path_text l) q
    → q ≡ path_query l
path_accepted_only l q h p = (accepts_only Whole p.1.0 q p.1.2).0 ∙ path_spelled_only l p.1.0 h p.1.1

steps_are_indexes : (l : Location) → AreSteps l → AreIndexes l
steps_are_indexes [] h = tt
steps_are_indexes (at.name k ∷ l) h = (tt, steps_are_indexes l h.1)
steps_are_indexes (at.index i ∷ l) h = (h.0, steps_are_indexes l h.1)

module _ (t : Tests) (l : Location) (root v : Json) where
  pub query_selects : AreSteps l → value_at l root ≡ Some v → document_nodes t (path_query l) root
      ≡ node l v ∷ []
  query_selects h e = own_node t root l v (steps_are_indexes l h) e

  pub text_selects : AreSteps l → value_at l root ≡ Some v → (q : Query) × IsAccepted (path_text l) q
      × (document_nodes t q root ≡ node l v ∷ [])
  text_selects h e = (path_query l, path_accepted l h, query_selects h e)

  pub any_selects : (q : Query) → AreSteps l → value_at l root ≡ Some v → IsAccepted (path_text l) q
      → document_nodes t q root ≡ node l v ∷ []
  any_selects q h e p =
      let same : q ≡ path_query l = path_accepted_only l q h p in
      ap (λ (x : Query). document_nodes t x root) same ∙ query_selects h e
