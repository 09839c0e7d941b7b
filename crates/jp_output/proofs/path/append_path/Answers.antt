use Rattle.std.proofs.Common.{arith}
use Rattle.std.proofs.lemmas.Grind.{common_steps}
use Rattle.jp_node.proofs.Extending.{extends_on}
use Rattle.jp_output.proofs.PathBytes.{next_step}
use Rattle.jp_node.proofs.PathBytes.{dollar_text}
use Rattle.jp_output.proofs.path.append_path.Goals as goal

pub loop-step-preserved : goal.loop-step-preserved
loop-step-preserved c = record {
  rest = next_step c.deref-step-items.result.now c.loop-step.step-index c.step-item.result _ _ _
      c.loop-step-test.true c.step-item.is c.loop-step.invariant.rest c.in_ok-append_step.ensures.ok;
  text = λ u. c.in_ok-append_step.ensures.text (c.loop-step.invariant.text u);
  kept = extends_on _ _ _ c.loop-step.invariant.kept c.in_ok-append_step.ensures.kept;
}

pub returns-clause-text : goal.returns-clause-text
returns-clause-text c = λ u. c.loop-step.invariant.text (dollar_text _ _ c.in_ok-push.ensures.items u)

pub returns-clause-ok : goal.returns-clause-ok
returns-clause-ok c = grind (arith, common_steps)

pub returns-in_err-append_step-clause-kept : goal.returns-in_err-append_step-clause-kept
returns-in_err-append_step-clause-kept c = grind (arith, common_steps)

pub returns-clause-kept : goal.returns-clause-kept
returns-clause-kept c = grind (arith, common_steps)
