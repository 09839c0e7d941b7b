use Rattle.std.proofs.Common.{sym, ap, ap₂, ◌∙◌}
use Rattle.std.specs.List.{fold}
use Rattle.jp_compiled.specs.Parts.{roots_of}
use Rattle.jp_node.specs.Part.{part_value}
use Rattle.jp_eval.specs.Nodelist.{document_nodes}
use Rattle.jp_eval.specs.inner.Base.{base_of}
use Rattle.jp_eval.proofs.Answering.{from_taken, visited}
use Rattle.jp_found.proofs.Keeping.{still_taken}
use Rattle.jp_eval.proofs.evaluator.Evaluator.visit.Goals as goal

pub returns-clause-nodes : goal.returns-clause-nodes
returns-clause-nodes g c = λ tests right.
    visited g.V.Visit.put c.visit_directly.new.self.query.now (base_of c.in_ok-context.context)
    c.as_slice-segments.result.now c.args.root c.empty_path-path.result _ _ _
    c.as_slice-segments.ensures.value c.empty_path-path.ensures
    (sym c.in_ok-context.ensures.root)
    (ap roots_of (c.in_ok-context.ensures.roots ∙ c.as_slice.ensures.value)) c.visitor_of.ensures
    (from_taken g.V.Visit.put _ _ _ _ c.take_visitor-found.ensures c.in_ok-run.ensures.found)
    tests right
    ∙ ap₂ (λ kept query. fold g.V.Visit.put kept (document_nodes tests query (part_value c.args.root)))
    (c.in_ok-visit_directly.ensures.other c.if-branch.false) c.visit_directly.ensures.query

pub returns-then-branch-clause-nodes : goal.returns-then-branch-clause-nodes
returns-then-branch-clause-nodes g c = λ tests right.
    c.in_ok-visit_directly.ensures.direct c.if-branch.true tests

pub visitor_of-requires : goal.visitor_of-requires
visitor_of-requires g c =
    still_taken g.V.Visit.put _ _ _
    (from_taken g.V.Visit.put _ _ _ _ c.take_visitor-found.ensures c.in_ok-run.ensures.found)
