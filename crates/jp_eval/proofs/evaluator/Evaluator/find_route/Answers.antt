use Rattle.jp_compiled.specs.Parts.{roots_of}
use Rattle.jp_eval.proofs.RouteSteps.{same_route}
use Rattle.jp_eval.proofs.evaluator.Evaluator.find_route.Goals as goal

pub invariant_of-self : goal.invariant_of-self
invariant_of-self c =
    let query = c.args.self.now.query.now in
    record {
      right_route = same_route (roots_of query.roots.items) c.as_slice.result.now query.segments.items _
          c.as_slice.ensures.value (c.in_ok-self.ensures (roots_of query.roots.items));
    }
