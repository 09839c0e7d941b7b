use Rattle.std.proofs.Common.{◌-◌, arith, rules, subst, ap}
use Rattle.jp_run.specs.Answered.{manner_in}
use Rattle.jp_run.specs.inner.Going.{Goes}
use Rattle.jp_run.proofs.Going.{asked_ended, few_bytes, few_faulty_going, few_front, goes_ended, goes_same}
use Rattle.jp_run.proofs.Going.{goes_written}
use Rattle.jp_run.proofs.Handing.{told}
use Rattle.jp_run.specs.inner.Jobs.{job_query}
use Rattle.jp_run.proofs.fronts.write_front.Goals as goal

pub write_block-requires-clause-writing : goal.write_block-requires-clause-writing
write_block-requires-clause-writing g c κs within =
    let going = manner_in g.F.Form.says c.args.job.now.settings in
    let q = job_query c.args.job.now in
    let u = g.K.Sink.contents c.args.sink.now in
    let st = c.args.stream.now in
    let out = c.args.out.now in
    let h = c.requires.serving.going in
    let k = subst (λ l. Goes going q h.0 h.1 h.2 u st l out.bytes) c.in-Some.ensures.items h.3 in
    record {
      ready = c.requires.serving.ready;
      few_lines = few_front going q h.0 h.1 h.2 u st c.in-Some.front c.pop_front.new.self.items out.bytes k
          c.requires.serving.few_lines;
      few_faulty = few_faulty_going going q h.0 h.1 h.2 u st out.sent.items out.bytes h.3;
      come = (few_bytes going q h.0 h.1 h.2 u st c.in-Some.front c.pop_front.new.self.items out.bytes k).0;
    }

pub returns-in_err-write_block-clause-served : goal.returns-in_err-write_block-clause-served
returns-in_err-write_block-clause-served g c =
    let going = manner_in g.F.Form.says c.args.job.now.settings in
    let q = job_query c.args.job.now in
    let u = g.K.Sink.contents c.args.sink.now in
    let st = c.args.stream.now in
    let out = c.args.out.now in
    record {
      ready = search rules;
      going = search rules;
      progress = search rules;
      asked = search rules;
      left = search rules;
      fault = told _ _ _ c.from_residual.ensures.1 (λ old now sink reads_old reads_new failed h.
          let k = subst (λ l. Goes going q old now sink u st l out.bytes) c.in-Some.ensures.items h in
          goes_ended going q _ u st c.in-Some.front c.pop_front.new.self.items out.bytes _ k
          (asked_ended going q old now sink u st c.in-Some.front c.pop_front.new.self.items
          out.bytes k _ _ _ c.in_err-write_block.ensures.block.fault));
    }

pub overflow_sub-out : goal.overflow_sub-out
overflow_sub-out g c =
    let going = manner_in g.F.Form.says c.args.job.now.settings in
    let q = job_query c.args.job.now in
    let u = g.K.Sink.contents c.args.sink.now in
    let st = c.args.stream.now in
    let out = c.args.out.now in
    let h = c.requires.serving.going in
    (few_bytes going q h.0 h.1 h.2 u st c.in-Some.front c.pop_front.new.self.items
    out.bytes (subst (λ l. Goes going q h.0 h.1 h.2 u st l out.bytes) c.in-Some.ensures.items h.3)).1

pub returns-clause-served : goal.returns-clause-served
returns-clause-served g c =
    let going = manner_in g.F.Form.says c.args.job.now.settings in
    let q = job_query c.args.job.now in
    let u = g.K.Sink.contents c.args.sink.now in
    let st = c.args.stream.now in
    let out = c.args.out.now in
    let block = c.in_ok-write_block.ensures.block in
    record {
      ready = search rules;
      going = λ old now sink h.
          let k = subst (λ l. Goes going q old now sink u st l out.bytes) c.in-Some.ensures.items h in
          goes_same going q old now sink _ _ c.pop_front.new.self.items _ (out.bytes - c.in-Some.front.bytes)
          _
          (ap (λ d. d.items) c.let_go.ensures.sent) c.let_go.ensures.bytes
          (goes_written going q old now sink u st c.in-Some.front c.pop_front.new.self.items
          out.bytes k _ (out.bytes - c.in-Some.front.bytes) _ block.written
          (omega (
            arith,
            (few_bytes going q old now sink u st c.in-Some.front
                c.pop_front.new.self.items out.bytes k).1,
          )) block.handed);
      progress = search rules;
      asked = search rules;
      left = search rules;
      fault = search rules;
    }
