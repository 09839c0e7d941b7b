use Rattle.std.proofs.Common.{◌∙◌, ◌+◌, sym, ap, inl, inr, arith, drop, map, drop_of_length-le}
use Rattle.jp_buffer.specs.Buffered.{line_at}
use Rattle.std.proofs.lemmas.Grind.{common_steps}
use Rattle.jp_answer.specs.Asking.{asked_query}
use Rattle.jp_answer.specs.inner.Filtered.{filtered_query}
use Rattle.jp_output.specs.Chunks.{bytes_in}
use Rattle.jp_answer.proofs.OnFaults.{answer_more, answer_last, stop_more, stop_last, passed_more, passed_one}
use Rattle.jp_answer.proofs.OnFaults.{passed_fits, answer_end, passes_none, passes_one}
use Rattle.jp_answer.proofs.answering.answer_lines.Goals as goal

pub loop-line-preserved-in_default : goal.loop-line-preserved-in_default
loop-line-preserved-in_default g c =
    let form = g.F.Form.says c.args.asked.now.layout.now in
    let bytes = g.F.Form.written in
    let k = c.args.asked.now.policy in
    let lines = c.args.lines.now in
    let kept = c.loop-line.invariant in
    let none = sym c.in_ok-fault.ensures.fault ∙ c.in_default.is in
    let passes_now = passes_none _ none in
    record {
      query = c.in_ok-fault.ensures.query ∙ kept.query;
      form = λ t right. c.in_ok-fault.ensures.form t right ∙ kept.form t right;
      answer = λ t right. answer_more k lines c.loop-line.line-index c.loop-line-test.true form
          (g.F.Form.form c.loop-line.written) t (asked_query c.args.asked.now)
          (filtered_query c.loop-line.tools.evaluator) (bytes c.loop-line.written)
          (bytes c.add_line.new.written) c.loop-line.faulty c.loop-line.faulty (kept.form t right) kept.query
          (kept.answer t right) (c.in_ok-fault.ensures.lines t right) (omega (arith, passes_now)) (inr none);
      stopped = stop_more k lines c.loop-line.line-index c.loop-line-test.true kept.stopped (inr none);
      passed = passed_more k lines c.loop-line.line-index c.loop-line-test.true c.loop-line.faulty kept.passed
          none;
    }

pub returns-in-Stop-clause-answer : goal.returns-in-Stop-clause-answer
returns-in-Stop-clause-answer g c = λ t right. answer_last
    c.args.asked.now.policy c.args.lines.now c.loop-line.line-index c.loop-line-test.true
    (g.F.Form.says c.args.asked.now.layout.now) (g.F.Form.form c.loop-line.written) t
    (asked_query c.args.asked.now) (filtered_query c.loop-line.tools.evaluator)
    (g.F.Form.written c.loop-line.written)
    (bytes_in c.in_ok-into_chunks-in-Stop.field-0.items) c.loop-line.faulty c.in-Some.fault
    (c.loop-line.invariant.form t right) c.loop-line.invariant.query (c.loop-line.invariant.answer t right)
    (c.in_ok-into_chunks-in-Stop.ensures ∙ c.in_ok-fault.ensures.lines t right) c.in-Stop.is
    (sym c.in_ok-fault.ensures.fault ∙ c.in-Some.is)

pub returns-in-Stop-clause-stopped : goal.returns-in-Stop-clause-stopped
returns-in-Stop-clause-stopped g c = stop_last c.args.asked.now.policy c.args.lines.now
    c.loop-line.line-index c.loop-line-test.true c.in-Some.fault
    c.loop-line.invariant.stopped c.in-Stop.is (sym c.in_ok-fault.ensures.fault ∙ c.in-Some.is)

pub overflow_add-faulty : goal.overflow_add-faulty
overflow_add-faulty g c = omega (
  arith,
  passed_fits c.args.asked.now.policy c.args.lines.now c.loop-line.line-index
      c.loop-line-test.true c.loop-line.faulty
      (passed_one c.args.asked.now.policy c.args.lines.now c.loop-line.line-index
      c.loop-line-test.true c.loop-line.faulty c.in-Some.fault c.loop-line.invariant.passed
      c.in-KeepGoing.is (sym c.in_ok-fault.ensures.fault ∙ c.in-Some.is)),
  c.requires.few,
)

pub loop-line-preserved : goal.loop-line-preserved
loop-line-preserved g c =
    let form = g.F.Form.says c.args.asked.now.layout.now in
    let bytes = g.F.Form.written in
    let k = c.args.asked.now.policy in
    let lines = c.args.lines.now in
    let kept = c.loop-line.invariant in
    let found = sym c.in_ok-fault.ensures.fault ∙ c.in-Some.is in
    let passes_now = passes_one _ c.in-Some.fault found in
    record {
      query = c.in_ok-fault.ensures.query ∙ kept.query;
      form = λ t right. c.in_ok-fault.ensures.form t right ∙ kept.form t right;
      answer = λ t right. answer_more k lines c.loop-line.line-index c.loop-line-test.true form
          (g.F.Form.form c.loop-line.written) t (asked_query c.args.asked.now)
          (filtered_query c.loop-line.tools.evaluator) (bytes c.loop-line.written)
          (bytes c.add_line.new.written) c.loop-line.faulty (c.loop-line.faulty + 1) (kept.form t right)
          kept.query
          (kept.answer t right) (c.in_ok-fault.ensures.lines t right) (omega (arith, passes_now))
          (inl c.in-KeepGoing.is);
      stopped = stop_more k lines c.loop-line.line-index c.loop-line-test.true kept.stopped
          (inl c.in-KeepGoing.is);
      passed = passed_one k lines c.loop-line.line-index c.loop-line-test.true c.loop-line.faulty
          c.in-Some.fault kept.passed c.in-KeepGoing.is found;
    }

pub returns-clause-answer : goal.returns-clause-answer
returns-clause-answer g c = λ t right. answer_end (g.F.Form.says c.args.asked.now.layout.now)
    c.args.asked.now.policy t
    (asked_query c.args.asked.now) (map line_at c.args.lines.now)
    (map line_at (drop c.loop-line.line-index c.args.lines.now))
    (g.F.Form.written c.loop-line.written)
    (bytes_in c.in_ok-chunks.chunks.items) c.loop-line.faulty
    (ap (map line_at) (drop_of_length-le c.args.lines.now c.loop-line-test.false))
    (c.loop-line.invariant.answer t right) c.in_ok-chunks.ensures

pub returns-clause-passed : goal.returns-clause-passed
returns-clause-passed c = grind (arith, common_steps)

pub returns-clause-stopped : goal.returns-clause-stopped
returns-clause-stopped c = grind (arith, common_steps)
