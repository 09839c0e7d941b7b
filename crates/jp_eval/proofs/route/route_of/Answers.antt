use Rattle.std.proofs.Common.{◌<◌, length, arith}
use Rattle.jp_eval.proofs.RouteSteps.{laid_more, laid_whole}
use Rattle.jp_eval.proofs.route.route_of.Goals as goal

pub loop-segment-preserved : goal.loop-segment-preserved
loop-segment-preserved c =
    let h : c.loop-segment.segment-index < length c.args.segments.now = omega arith in
    laid_more c.args.segments.now c.loop-segment.segment-index c.segment-item.result
    c.loop-segment.path_stack c.push.new.self c.in-Some.link h c.segment-item.is c.in_ok-push.ensures.ok
    c.in-Some.ensures c.loop-segment.invariant

pub returns : goal.returns
returns c = laid_whole c.args.segments.now c.loop-segment.segment-index c.loop-segment.path_stack
    c.loop-segment-test.false c.loop-segment.invariant
