use Rattle.std.proofs.Common.{◌≡◌, ◌+◌, drop, map}
use Rattle.jp_buffer.specs.Buffered.{line_at}
use Rattle.jp_answer.specs.Asking.{asked_query}
use Rattle.jp_answer.specs.inner.Filtered.{filtered_query}
use Rattle.jp_pattern.specs.Tests.{Tests, AreRight}
use Rattle.jp_answer.specs.Answer.{answer_by, joined}
use Rattle.jp_answer.specs.Policy.{stop_in, passed_in}
use Rattle.jp_answer.proofs.Joining.{so_far}
use Rattle.jp_answer.proofs.answering.answer_lines.Given as goal

abbrev pub invariant-loop-line : goal.invariant-loop-line
invariant-loop-line g l = record {
  query : filtered_query l.tools.evaluator ≡ asked_query l.asked;
  form : (t : Tests) → AreRight t → g.F.Form.form l.written ≡ g.F.Form.says l.asked.layout.now;
  answer : (t : Tests) → AreRight t → answer_by (g.F.Form.says l.asked.layout.now) l.asked.policy t
      (asked_query l.asked)
      (map line_at l.lines)
      ≡ joined (so_far (g.F.Form.written l.written) l.faulty) (answer_by (g.F.Form.says l.asked.layout.now)
      l.asked.policy t (asked_query l.asked) (map line_at (drop l.line-index l.lines)));
  stopped : stop_in l.asked.policy (map line_at l.lines)
      ≡ stop_in l.asked.policy (map line_at (drop l.line-index l.lines));
  passed : passed_in l.asked.policy (map line_at l.lines)
      ≡ l.faulty + passed_in l.asked.policy (map line_at (drop l.line-index l.lines));
}
