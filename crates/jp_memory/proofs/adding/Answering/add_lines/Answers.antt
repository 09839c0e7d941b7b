use Rattle.std.proofs.Common.{◌∙◌, ap, arith, map}
use Rattle.jp_answer.specs.Answer.{answer_by, joined}
use Rattle.jp_answer.specs.declared.asked.Asked.{Asked}
use Rattle.jp_buffer.specs.Buffered.{line_at}
use Rattle.jp_memory.specs.inner.Adding.{told}
use Rattle.jp_memory.specs.inner.Filtered.{filtered_query}
use Rattle.jp_memory.proofs.OneMore.{line_goes_on, not_stopped}
use Rattle.jp_memory.proofs.adding.Answering.add_lines.Goals as goal

pub loop-line-preserved : goal.loop-line-preserved
loop-line-preserved g c =
    let bytes = g.F.Form.written in
    let form = g.F.Form.form in
    let first = c.args.self.now in
    let now = c.loop-line.self in
    let next = c.add_line.new.self in
    let kept = c.loop-line.invariant in
    let added = c.in_ok-add_line.ensures in
    record {
      answer = λ t right. line_goes_on c.args.lines.now c.loop-line.line-index (form first.written)
          (form now.written) first.asked.policy now.asked.policy t (filtered_query first.evaluator)
          (filtered_query now.evaluator)
          (joined (told (bytes first.written) first.stopped first.faulty) (answer_by (form first.written)
          first.asked.policy t (filtered_query first.evaluator) (map line_at c.args.lines.now)))
          (told (bytes now.written) now.stopped now.faulty)
          (told (bytes next.written) next.stopped next.faulty)
          c.loop-line-test.true (kept.form t right) (ap (λ (a : Asked). a.policy) kept.asked) kept.query
          (kept.answer t right) (added.answer t right);
      unstopped = not_stopped _ c.if-is_some.ensures;
      form = λ t right. added.form t right ∙ kept.form t right;
      query = added.query ∙ kept.query;
      asked = added.asked ∙ kept.asked;
      few = omega (arith, added.few, kept.few);
    }
