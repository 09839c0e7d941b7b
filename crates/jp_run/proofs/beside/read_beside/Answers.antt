use Rattle.std.proofs.Common.{◌∙◌, rules}
use Rattle.jp_run.proofs.ReadingOn.{came_by, may_serve, not_read, not_served, reads_asked, reads_more}
use Rattle.jp_run.proofs.ReadingOn.{reads_served, reads_start, turned_by}
use Rattle.jp_run.proofs.Turning.{came_so}
use Rattle.jp_run.proofs.beside.read_beside.Goals as goal

pub loop-stream-init : goal.loop-stream-init
loop-stream-init g c = record {
  reads = reads_start c.requires.turning c.requires.unused;
  working = c.requires.turning.working;
}

pub serve-requires-clause-serving : goal.serve-requires-clause-serving
serve-requires-clause-serving g c κs within = may_serve c.loop-stream.invariant.reads c.requires.turning

pub returns-in_err-serve-clause-turned : goal.returns-in_err-serve-clause-turned
returns-in_err-serve-clause-turned g c =
    not_served c.loop-stream.invariant.reads c.from_residual.ensures.1 c.in_err-serve.ensures.served

pub finish-requires-clause-serving : goal.finish-requires-clause-serving
finish-requires-clause-serving g c κs within =
    let served = reads_served c.loop-stream.invariant.reads c.in_ok-serve.ensures.served in
    let asked = c.is_ready.ensures in
    may_serve (reads_asked served asked.bytes asked.reads asked.begun) c.requires.turning

pub returns-then-not-is_ready-clause-turned : goal.returns-then-not-is_ready-clause-turned
returns-then-not-is_ready-clause-turned g c =
    let served = reads_served c.loop-stream.invariant.reads c.in_ok-serve.ensures.served in
    let asked = c.is_ready.ensures in
    turned_by (reads_asked served asked.bytes asked.reads asked.begun) c.finish.ensures.served
    c.finish.ensures.none
    (came_by _ _ _ _ c.finish.ensures.came (asked.failed ∙ c.loop-stream.invariant.working))

pub returns-in_err-last-clause-turned : goal.returns-in_err-last-clause-turned
returns-in_err-last-clause-turned g c =
    let served = reads_served c.loop-stream.invariant.reads c.in_ok-serve.ensures.served in
    let asked = c.is_ready.ensures in
    not_read (reads_asked served asked.bytes asked.reads asked.begun) _ c.in_ok-serve.ensures.near
    (search rules) c.read_on.ensures.begun _ c.read_on.ensures.reads c.read_on.ensures.left
    c.requires.turning.few _ c.from_residual-in_err-last.ensures.1 c.in_err-last.ensures.fault

pub loop-stream-preserved : goal.loop-stream-preserved
loop-stream-preserved g c =
    let served = reads_served c.loop-stream.invariant.reads c.in_ok-serve.ensures.served in
    let asked = c.is_ready.ensures in
    record {
      reads = reads_more (reads_asked served asked.bytes asked.reads asked.begun) _ c.in_ok-serve.ensures.near
          (search rules) c.read_on.ensures.begun _ c.read_on.ensures.reads c.read_on.ensures.left
          c.requires.turning.few _ (search rules) c.in_ok-last.ensures.few_lines c.in_ok-last.ensures.came;
      working = search rules;
    }

pub finish-requires-in_default-clause-serving : goal.finish-requires-in_default-clause-serving
finish-requires-in_default-clause-serving g c κs within =
    let served = reads_served c.loop-stream.invariant.reads c.in_ok-serve.ensures.served in
    let asked = c.is_ready.ensures in
    may_serve (reads_more (reads_asked served asked.bytes asked.reads asked.begun)
    _ c.in_ok-serve.ensures.near (search rules) c.read_on.ensures.begun _ c.read_on.ensures.reads
    c.read_on.ensures.left c.requires.turning.few _ (search rules) c.in_ok-last.ensures.few_lines
    c.in_ok-last.ensures.came) c.requires.turning

pub returns-in_default-clause-turned : goal.returns-in_default-clause-turned
returns-in_default-clause-turned g c =
    let served = reads_served c.loop-stream.invariant.reads c.in_ok-serve.ensures.served in
    let asked = c.is_ready.ensures in
    turned_by (reads_more (reads_asked served asked.bytes asked.reads asked.begun)
    _ c.in_ok-serve.ensures.near (search rules) c.read_on.ensures.begun _ c.read_on.ensures.reads
    c.read_on.ensures.left c.requires.turning.few _ (search rules) c.in_ok-last.ensures.few_lines
    c.in_ok-last.ensures.came) c.finish-in_default.ensures.served c.finish-in_default.ensures.none
    (came_by _ _ _ _ c.finish-in_default.ensures.came (came_so _ _ _ _ _ _ c.in_ok-last.ensures.came))

pub finish-requires-2-clause-serving : goal.finish-requires-2-clause-serving
finish-requires-2-clause-serving g c κs within = may_serve c.loop-stream.invariant.reads c.requires.turning

pub returns-clause-turned : goal.returns-clause-turned
returns-clause-turned g c = turned_by c.loop-stream.invariant.reads c.finish-2.ensures.served
    c.finish-2.ensures.none (came_by _ _ _ _ c.finish-2.ensures.came c.loop-stream.invariant.working)
