use Rattle.std.proofs.Common.{◌≡◌, None, length}
use Rattle.jp_answer.specs.Asking.{asked_query}
use Rattle.jp_pattern.specs.Tests.{Tests, AreRight}
use Rattle.jp_run.specs.Answered.{numbering_of}
use Rattle.jp_memory.specs.inner.Adding.{told}
use Rattle.jp_memory.specs.inner.Filtered.{filtered_query}
use Rattle.jp_memory.specs.inner.Standing.{Stands}
use Rattle.jp_memory.proofs.answering.answer_all.Given as goal

abbrev pub invariant-loop-rest : goal.invariant-loop-rest
invariant-loop-rest g l =
    let asked = l.fn.answering.asked in
    let form = g.F.Form.says asked.layout.now in
    record {
      stands : Stands form asked (numbering_of l.settings) l.input l.rest l.buffer
          (told (g.F.Form.written l.answering.written) l.answering.stopped l.answering.faulty);
      unstopped : l.answering.stopped ≡ None;
      form : (t : Tests) → AreRight t → g.F.Form.form l.answering.written ≡ form;
      query : filtered_query l.answering.evaluator ≡ asked_query asked;
      asked : l.answering.asked ≡ asked;
    }

abbrev pub decreases-loop-rest : goal.decreases-loop-rest
decreases-loop-rest g l = length l.rest
