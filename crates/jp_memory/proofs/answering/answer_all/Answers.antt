use Rattle.std.proofs.Common.{◌∙◌, ap}
use Rattle.std.proofs.lemmas.Result.{on_ok_weaker}
use Rattle.jp_answer.specs.Answer.{joined}
use Rattle.jp_doc.specs.Feeding.{finished_lines}
use Rattle.jp_run.specs.Answered.{numbering_of}
use Rattle.jp_run.specs.Cutting.{fed_lines}
use Rattle.jp_memory.specs.inner.Adding.{told}
use Rattle.jp_memory.specs.inner.Filtered.{filtered_query}
use Rattle.jp_memory.proofs.OneMore.{ended, not_stopped}
use Rattle.jp_memory.proofs.Standing.{asked_so, ended_answer, fault_more, fault_so, none_of, over_in}
use Rattle.jp_memory.proofs.Standing.{over_last, stands_more, together, whole_answer}
use Rattle.jp_memory.proofs.answering.answer_all.Goals as goal

pub returns-in_err-answer_piece-clause-fault : goal.returns-in_err-answer_piece-clause-fault
returns-in_err-answer_piece-clause-fault g c =
    let asked = c.args.answering.now.asked in
    let now = c.loop-rest.answering in
    fault_so c.from_residual.result c.in_err-answer_piece.field-0.0 c.from_residual.ensures.1
    (over_in (g.F.Form.says asked.layout.now) asked (numbering_of c.args.settings.now) c.args.input.now
    c.loop-rest.rest.now c.split_at.result.0.now c.split_at.result.1.now c.loop-rest.buffer
    (told (g.F.Form.written now.written) now.stopped now.faulty) c.loop-rest.invariant.stands
    (together _ _ _ _ c.split_at.ensures.front c.split_at.ensures.back))
    c.in_err-answer_piece.ensures.fault

pub returns-then-is_some-clause-answer : goal.returns-then-is_some-clause-answer
returns-then-is_some-clause-answer g c =
    let asked = c.args.answering.now.asked in
    let form = g.F.Form.says asked.layout.now in
    let bytes = g.F.Form.written in
    let now = c.loop-rest.answering in
    let next = c.answer_piece.new.answering in
    let kept = c.loop-rest.invariant in
    let piece = c.split_at.result.0.now in
    let added = c.in_ok-answer_piece.ensures in
    ended_answer form asked (numbering_of c.args.settings.now) c.args.input.now c.split_at.result.1.now
    c.answer_piece.new.buffer (told (bytes next.written) next.stopped next.faulty)
    (stands_more form asked (numbering_of c.args.settings.now) c.args.input.now c.loop-rest.rest.now piece
    c.split_at.result.1.now c.loop-rest.buffer c.answer_piece.new.buffer
    (told (bytes now.written) now.stopped now.faulty) (told (bytes next.written) next.stopped next.faulty)
    kept.stands (together _ _ _ _ c.split_at.ensures.front c.split_at.ensures.back) added.cutting
    added.progress added.none added.few_lines added.few_faulty
    (λ t right. added.answer t right ∙ ap (joined (told (bytes now.written) now.stopped now.faulty))
    (asked_so form asked (numbering_of c.args.settings.now) c.args.input.now (g.F.Form.form now.written)
    now.asked (filtered_query now.evaluator) t
    (fed_lines c.loop-rest.buffer.cutting c.loop-rest.buffer.progress piece) (kept.form t right) kept.asked
    kept.query)))
    (λ more. ended next.stopped (bytes next.written) next.faulty more c.if-is_some.ensures)

pub loop-rest-preserved : goal.loop-rest-preserved
loop-rest-preserved g c =
    let asked = c.args.answering.now.asked in
    let form = g.F.Form.says asked.layout.now in
    let bytes = g.F.Form.written in
    let now = c.loop-rest.answering in
    let next = c.answer_piece.new.answering in
    let kept = c.loop-rest.invariant in
    let piece = c.split_at.result.0.now in
    let added = c.in_ok-answer_piece.ensures in
    record {
      stands = stands_more form asked (numbering_of c.args.settings.now) c.args.input.now
          c.loop-rest.rest.now piece c.split_at.result.1.now c.loop-rest.buffer c.answer_piece.new.buffer
          (told (bytes now.written) now.stopped now.faulty)
          (told (bytes next.written) next.stopped next.faulty) kept.stands
          (together _ _ _ _ c.split_at.ensures.front c.split_at.ensures.back) added.cutting
          added.progress added.none added.few_lines added.few_faulty
          (λ t right. added.answer t right ∙ ap (joined (told (bytes now.written) now.stopped now.faulty))
          (asked_so form asked (numbering_of c.args.settings.now) c.args.input.now
          (g.F.Form.form now.written) now.asked (filtered_query now.evaluator) t
          (fed_lines c.loop-rest.buffer.cutting c.loop-rest.buffer.progress piece) (kept.form t right)
          kept.asked kept.query));
      unstopped = not_stopped _ c.if-is_some.ensures;
      form = λ t right. added.form t right ∙ kept.form t right;
      query = added.query ∙ kept.query;
      asked = added.asked ∙ kept.asked;
    }

pub returns-clause-answer : goal.returns-clause-answer
returns-clause-answer g c =
    let asked = c.args.answering.now.asked in
    let form = g.F.Form.says asked.layout.now in
    let bytes = g.F.Form.written in
    let now = c.loop-rest.answering in
    let last = c.answer_last.new.answering in
    let kept = c.loop-rest.invariant in
    on_ok_weaker c.answer_last.result (λ adds t right. whole_answer form asked
    (numbering_of c.args.settings.now) c.args.input.now c.loop-rest.rest.now c.loop-rest.buffer
    (told (bytes now.written) now.stopped now.faulty) (told (bytes last.written) last.stopped last.faulty)
    kept.stands (none_of c.loop-rest.rest.now c.loop-rest-test.ensures)
    (λ u fine. adds u fine ∙ ap (joined (told (bytes now.written) now.stopped now.faulty))
    (asked_so form asked (numbering_of c.args.settings.now) c.args.input.now (g.F.Form.form now.written)
    now.asked (filtered_query now.evaluator) u (finished_lines c.loop-rest.buffer.progress)
    (kept.form u fine) kept.asked kept.query)) t right) c.answer_last.ensures.answer

pub returns-clause-fault : goal.returns-clause-fault
returns-clause-fault g c =
    let asked = c.args.answering.now.asked in
    let now = c.loop-rest.answering in
    fault_more c.answer_last.result (over_last (g.F.Form.says asked.layout.now) asked
    (numbering_of c.args.settings.now) c.args.input.now c.loop-rest.rest.now c.loop-rest.buffer
    (told (g.F.Form.written now.written) now.stopped now.faulty) c.loop-rest.invariant.stands
    (none_of c.loop-rest.rest.now c.loop-rest-test.ensures)) c.answer_last.ensures.fault
