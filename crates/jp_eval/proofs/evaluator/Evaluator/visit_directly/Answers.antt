use Rattle.std.proofs.Common.{◌≡◌, true, sym, ap, ◌∙◌}
use Rattle.std.specs.List.{fold}
use Rattle.jp_compiled.specs.Parts.{roots_of, segments_in}
use Rattle.jp_node.specs.Part.{part_value}
use Rattle.jp_node.specs.Links.{link_steps}
use Rattle.jp_eval.specs.Nodelist.{document_nodes}
use Rattle.jp_eval.specs.inner.Routes.{is_route, is_routed}
use Rattle.jp_eval.proofs.RouteSteps.{along_route}
use Rattle.jp_eval.proofs.evaluator.Evaluator.visit_directly.Goals as goal

pub returns-in_ok-visit_along-in-Links-clause-direct :
    goal.returns-in_ok-visit_along-in-Links-clause-direct
returns-in_ok-visit_along-in-Links-clause-direct g c = λ _ tests.
    let self = c.find_route.new.self in
    let query = self.query.now in
    let ss = segments_in (roots_of query.roots.items) query.segments.items in
    let steps = link_steps c.in-Links.path_stack in
    let root = part_value c.args.root in
    let routed : is_route ss steps ≡ true = ap (is_routed ss) (sym c.in-Links.is) ∙ self.right_route in
    c.in_ok-visit_along-in-Links.ensures.kept
    ∙ ap (fold g.V.Visit.put (g.V.Visit.kept c.args.visitor.now))
    (sym (along_route tests query.start ss steps root routed)
    ∙ ap (λ q. document_nodes tests q root) c.find_route.ensures.query)
