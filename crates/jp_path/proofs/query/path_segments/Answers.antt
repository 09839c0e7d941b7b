use Rattle.std.proofs.Common.{arith}
use Rattle.std.proofs.lemmas.Grind.{common_steps}
use Rattle.std.proofs.Common.{◌∙◌, ap}
use Rattle.jp_tree.specs.Tree as tree
use Rattle.jp_path.proofs.SourceSteps.{next_segment, next_steps}
use Rattle.jp_path.proofs.query.path_segments.Goals as goal

pub loop-step-preserved : goal.loop-step-preserved
loop-step-preserved c = record {
  rest =
      next_segment c.deref-step-items.result.now c.loop-step.step-index c.step-item.result
      c.loop-step-test.true c.step-item.is
      _ _ c.child_segment.result _ c.loop-step.invariant.rest c.in_ok-push.ensures.items
      (c.child_segment.ensures.child ∙ ap tree.child c.in_ok-one_selector.ensures.selector);
  steps =
      next_steps c.deref-step-items.result.now c.loop-step.step-index c.step-item.result c.loop-step-test.true
      c.step-item.is
      _ c.loop-step.invariant.steps c.in_ok-one_selector.ensures.step;
}

pub returns-clause-segments : goal.returns-clause-segments
returns-clause-segments c = grind (arith, common_steps)

pub returns-clause-steps : goal.returns-clause-steps
returns-clause-steps c = grind (arith, common_steps)
