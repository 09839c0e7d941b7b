use Rattle.std.proofs.Common.{arith}
use Rattle.std.proofs.lemmas.Grind.{common_steps}
use Rattle.jp_buffer.proofs.GoingLaws.{goes_on, goes_end}
use Rattle.jp_buffer.proofs.cutting.push_lines.Goals as goal

pub loop-line-preserved : goal.loop-line-preserved
loop-line-preserved c = goes_on _ _ _ _ _ _ _ _ _ c.loop-line.invariant c.in-Some.ensures.some.0
    c.in-Some.ensures.some.1 c.in_ok-push.ensures.lines

pub returns-clause-lines : goal.returns-clause-lines
returns-clause-lines c = (goes_end _ _ _ _ _ _ c.loop-line.invariant c.in_default.ensures.none).0

pub returns-clause-count : goal.returns-clause-count
returns-clause-count c = (goes_end _ _ _ _ _ _ c.loop-line.invariant c.in_default.ensures.none).2

pub returns-clause-rest : goal.returns-clause-rest
returns-clause-rest c = (goes_end _ _ _ _ _ _ c.loop-line.invariant c.in_default.ensures.none).1

pub loop-line-smaller : goal.loop-line-smaller
loop-line-smaller c = grind (arith, common_steps)
