use Rattle.jp_doc.specs.Location.{location_of}
use Rattle.jp_node.specs.Path.{path_text}
use Rattle.jp_path.proofs.OfPath.{planned_only}
use Rattle.jp_path.proofs.query.path_plan.Goals as goal

pub returns-clause-only : goal.returns-clause-only
returns-clause-only c = planned_only c.check.result (path_text (location_of c.args.location.now)) _
    c.check.ensures.planned c.in_ok-query_of.ensures.only
