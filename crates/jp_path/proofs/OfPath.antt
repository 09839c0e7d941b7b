-- What is known of a query that is the query of a path.
use Rattle.std.proofs.Common.{◌≡◌, ◌≤◌, [], ◌∷◌, ap, sym, ◌∙◌, subst}
use Rattle.std.specs.Prelude.{Some, Result, Ok, Err, IfOk}
use Rattle.jp_doc.specs.Json.{Json}
use Rattle.jp_doc.specs.Location.{Location, value_at, node}
use Rattle.jp_tree.specs.Tree.{Text, Query}
use Rattle.jp_tree.specs.Spelling.{Spells}
use Rattle.jp_tokens.specs.Depth.{bracket_depth, max_depth}
use Rattle.jp_pattern.specs.Tests.{Tests}
use Rattle.jp_tree.specs.declared.fault.QueryFault.{QueryFault}
use Rattle.jp_check.specs.declared.accepted.Plan.{Plan}
use Rattle.jp_check.specs.Plan.{planned_query}
use Rattle.jp_check.specs.Verdict.{IsAccepted}
use Rattle.jp_eval.specs.Nodelist.{document_nodes}
use Rattle.jp_node.specs.Path.{path_text}
use Rattle.jp_path.specs.PathQuery.{path_query, AreSteps}
use Rattle.jp_path.proofs.PathSpelled.{path_spelled}
use Rattle.jp_path.proofs.PathAccepted.{path_accepted, path_accepted_only, query_selects}

module _ (l : Location) (q : Query) (is : q ≡ path_query l) (h : AreSteps l) where
  pub accepted : IsAccepted (path_text l) q
  accepted = subst (IsAccepted (path_text l)) (sym is) (path_accepted l h)

  pub checkable : ∥ ((t : Text) × (bracket_depth t ≤ max_depth) × Spells t q) ∥₁
  checkable = ∣ (path_text l, (path_accepted l h).0, subst (Spells (path_text l)) (sym is) (path_spelled l h))
      ∣₁

  pub only : (other : Query) → IsAccepted (path_text l) other → other ≡ q
  only other p = path_accepted_only l other h p ∙ sym is

  pub own : (tests : Tests) (root v : Json) → value_at l root ≡ Some v → document_nodes tests q root
      ≡ node l v ∷ []
  own tests root v there = ap (λ (x : Query). document_nodes tests x root) is
      ∙ query_selects tests l root v h there

-- a plan of that query is the plan of whatever the path's text is accepted with
pub planned_only : (r : Result Plan QueryFault) (t : Text) (q : Query) → IfOk r (λ p. planned_query p ≡ q)
    → ((other : Query) → IsAccepted t other → other ≡ q)
    → IfOk r (λ p. (other : Query) → IsAccepted t other → other ≡ planned_query p)
planned_only (Ok p) t q e one = λ other a. one other a ∙ sym e
planned_only (Err f) t q e one = tt
