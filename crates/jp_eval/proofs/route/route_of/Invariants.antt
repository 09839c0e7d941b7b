use Rattle.jp_eval.proofs.RouteSteps.{Laid}
use Rattle.jp_eval.proofs.route.route_of.Given as goal

abbrev pub invariant-loop-segment : goal.invariant-loop-segment
invariant-loop-segment l = Laid l.segments l.segment-index l.path_stack
