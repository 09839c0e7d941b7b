use Rattle.std.proofs.Common.{rules, arith}
use Rattle.jp_run.proofs.Handed.{written_start, written_more, written_all, written_stopped}
use Rattle.std.proofs.lemmas.Grind.{common_steps}
use Rattle.jp_run.proofs.writing.write_all.Goals as goal

pub loop-rest-init : goal.loop-rest-init
loop-rest-init g c = record { working = search rules; written = written_start _ _ }

pub returns-in_default-clause-front : goal.returns-in_default-clause-front
returns-in_default-clause-front g c = written_stopped _ _ _ _ _ c.loop-rest.invariant.written
    c.in_default.ensures.bytes

pub loop-rest-preserved : goal.loop-rest-preserved
loop-rest-preserved g c = record {
  working = grind (arith, common_steps);
  written = rw c.split_at.ensures.back (written_more _ _ _ _ _ _ c.loop-rest.invariant.written
      c.in-Ok.ensures.bytes);
}

pub returns-clause-ok : goal.returns-clause-ok
returns-clause-ok g c = written_all _ _ _ _ c.loop-rest.invariant.written (grind (arith, common_steps))
