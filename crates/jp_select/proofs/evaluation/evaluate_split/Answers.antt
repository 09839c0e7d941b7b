use Rattle.std.proofs.Common.{ap, ◌∙◌, [], map}
use Rattle.std.specs.List.{fold}
use Rattle.jp_doc.specs.Document.{document_value}
use Rattle.jp_doc.specs.Location.{location_of}
use Rattle.jp_check.specs.Plan.{planned_query}
use Rattle.jp_eval.specs.Nodelist.{document_nodes}
use Rattle.jp_node.specs.Part.{part_value}
use Rattle.jp_node.specs.Taken.{put_location}
use Rattle.jp_node.proofs.Taking.{locations_fold}
use Rattle.jp_select.proofs.evaluation.evaluate_split.Goals as goal

pub returns : goal.returns
returns g c = record {
  nodes = λ t right.
      let planned = planned_query c.args.plan.now in
      let root = document_value c.args.document.now in
      let ns = document_nodes t planned root in
      c.in_ok-visit_split.ensures.nodes t right
      ∙ ap (λ q. fold put_location (map location_of c.new.result.items)
      (document_nodes t q (part_value c.root_of.result))) (c.new-evaluator.ensures ∙ c.compiled.ensures)
      ∙ ap (λ v. fold put_location (map location_of c.new.result.items) (document_nodes t planned v))
      (c.root_of.ensures ∙ c.in_ok-flat.ensures)
      ∙ ap (λ xs. fold put_location (map location_of xs) ns)
      c.new.ensures.items ∙ locations_fold [] ns;
}
