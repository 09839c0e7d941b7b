use Rattle.std.proofs.Common.{◌≡◌, ◌+◌, ◌≤◌, None, drop, map}
use Rattle.jp_buffer.specs.Buffered.{line_at}
use Rattle.jp_pattern.specs.Tests.{Tests, AreRight}
use Rattle.jp_answer.specs.Answer.{answer_by, joined}
use Rattle.jp_memory.specs.inner.Adding.{told}
use Rattle.jp_memory.specs.inner.Filtered.{filtered_query}
use Rattle.jp_memory.proofs.adding.Answering.add_lines.Given as goal

abbrev pub invariant-loop-line : goal.invariant-loop-line
invariant-loop-line g l =
    let bytes = g.F.Form.written in
    let form = g.F.Form.form in
    let first = l.fn.self in
    record {
      answer : (t : Tests) → AreRight t
          → joined (told (bytes first.written) first.stopped first.faulty) (answer_by (form first.written)
          first.asked.policy t (filtered_query first.evaluator) (map line_at l.lines))
          ≡ joined (told (bytes l.self.written) l.self.stopped l.self.faulty) (answer_by (form first.written)
          first.asked.policy t (filtered_query first.evaluator) (map line_at (drop l.line-index l.lines)));
      unstopped : l.self.stopped ≡ None;
      form : (t : Tests) → AreRight t → form l.self.written ≡ form first.written;
      query : filtered_query l.self.evaluator ≡ filtered_query first.evaluator;
      asked : l.self.asked ≡ first.asked;
      few : l.self.faulty ≤ first.faulty + l.line-index;
    }
