use Rattle.std.proofs.Common.{◌≡◌, ◌∙◌, ℕ, ◌+◌, ◌++◌, List, sym, ap, subst, map, take, drop, None}
use Rattle.std.proofs.Common.{arith, length, length-take-le, take-append-drop, rules}
use Rattle.std.proofs.Math.Seq.{take-add}
use Rattle.std.proofs.lemmas.List.{take-map, drop-map, length-map}
use Rattle.jp_buffer.specs.Buffered.{line_at}
use Rattle.jp_buffer.specs.declared.line_ref.LineRef as code
use Rattle.jp_doc.specs.Lines.{Line}
use Rattle.jp_answer.specs.Policy.{passed_in}
use Rattle.jp_answer.proofs.OnFaults.{passed_joined, passed_few, passed_none}
use Rattle.jp_run.specs.Answered.{manner_in}
use Rattle.jp_run.specs.Handed.{Handed}
use Rattle.jp_run.specs.inner.Ended.{AnswerEnded}
use Rattle.jp_run.specs.inner.Wrote.{HasBytes}
use Rattle.jp_run.proofs.Handing.{told, handed_none, handed_both, ended_after, ended_more}
use Rattle.jp_run.proofs.Wrote.{wrote_none, wrote_more, wrote_on}
use Rattle.jp_run.specs.inner.Jobs.{job_query}
use Rattle.jp_run.proofs.answering.answer_lines.Goals as goal

-- the batch that is answered next, and what is answered with it
module _ (lines front : List code.LineRef) (done : ℕ)
    (is : front ≡ take (length front) (drop done lines)) where
  front_is : map line_at front ≡ take (length front) (drop done (map line_at lines))
  front_is = ap (map line_at) is ∙ sym (take-map line_at (length front) (drop done lines))
      ∙ ap (take (length front)) (sym (drop-map line_at done lines))

  both : take (done + length front) (map line_at lines)
      ≡ take done (map line_at lines) ++ map line_at front
  both = take-add done (length front) (map line_at lines)
      ∙ ap (λ l. take done (map line_at lines) ++ l) (sym front_is)

  whole : take done (map line_at lines)
      ++ (map line_at front ++ drop (length front) (drop done (map line_at lines))) ≡ map line_at lines
  whole = ap (λ l. take done (map line_at lines)
      ++ (l ++ drop (length front) (drop done (map line_at lines)))) front_is
      ∙ ap (λ l. take done (map line_at lines) ++ l)
      (take-append-drop (length front) (drop done (map line_at lines)))
      ∙ take-append-drop done (map line_at lines)

pub loop-done-init : goal.loop-done-init
loop-done-init g c = record {
  ready = c.requires.ready;
  within = omega arith;
  handed = handed_none (manner_in g.F.Form.says c.args.job.now.settings)
      (job_query c.args.job.now) (g.K.Sink.contents c.args.sink.now);
  passed = sym (passed_none (manner_in g.F.Form.says c.args.job.now.settings).policy);
  wrote = wrote_none (manner_in g.F.Form.says c.args.job.now.settings)
      (job_query c.args.job.now);
}

pub returns-in_err-passed : goal.returns-in_err-passed
returns-in_err-passed g c =
    let going = manner_in g.F.Form.says c.args.job.now.settings in
    let q = job_query c.args.job.now in
    let lines = c.args.lines.now in
    let front = c.batch_at-front.result.now in
    let done = c.loop-done.done in
    let failed = g.K.Sink.failed c.answer_batch.new.sink in
    let a = g.K.Sink.contents c.args.sink.now in
    let b = g.K.Sink.contents c.loop-done.sink in
    let e = g.K.Sink.contents c.answer_batch.new.sink in
    record {
      handed_out = record {
        ready = search rules;
        handed = search rules;
        passed = search rules;
        wrote = search rules;
        fault = told _ _ _ c.from_residual.ensures.1
            (subst (λ (l : List Line). AnswerEnded going q l failed a e c.in_err-passed.field-0.0)
            (whole lines front done c.batch_at-front.ensures.front)
            (ended_after going q (take done (map line_at lines)) (map line_at front
            ++ drop (length front) (drop done (map line_at lines))) failed a b e _
            c.loop-done.invariant.handed
            (ended_more going q (map line_at front) (drop (length front) (drop done (map line_at lines)))
            failed b e _
            c.in_err-passed.ensures.handed_out.fault)));
      };
    }

pub overflow_add-faulty : goal.overflow_add-faulty
overflow_add-faulty g c =
    let policy = (manner_in g.F.Form.says c.args.job.now.settings).policy in
    let lines = c.args.lines.now in
    let front = c.batch_at-front.result.now in
    let done = c.loop-done.done in
    omega (
      arith,
      c.loop-done.invariant.passed,
      c.in_ok-passed.ensures.handed_out.passed,
      passed_few policy (take done (map line_at lines)),
      passed_few policy (map line_at front),
      length-take-le done (map line_at lines) (omega (
        arith,
        length-map lines line_at,
        c.loop-done.invariant.within,
      )),
      length-map lines line_at,
      length-map front line_at,
      c.batch_at-front.ensures.within,
      c.requires.few,
    )

pub loop-done-preserved : goal.loop-done-preserved
loop-done-preserved g c =
    let going = manner_in g.F.Form.says c.args.job.now.settings in
    let q = job_query c.args.job.now in
    let lines = c.args.lines.now in
    let front = c.batch_at-front.result.now in
    let done = c.loop-done.done in
    let a = g.K.Sink.contents c.args.sink.now in
    let b = g.K.Sink.contents c.loop-done.sink in
    let e = g.K.Sink.contents c.answer_batch.new.sink in
    let more = both lines front done c.batch_at-front.ensures.front in
    record {
      ready = record {
        working = c.in_ok-passed.ensures.handed_out.ready.working;
        flushed = c.in_ok-passed.ensures.handed_out.ready.flushed;
      };
      within = c.batch_at-front.ensures.within;
      handed = subst (λ (l : List Line). Handed going q l None a e) (sym more)
          (handed_both going q (take done (map line_at lines)) (map line_at front) None a b e
          c.loop-done.invariant.handed c.in_ok-passed.ensures.handed_out.handed);
      passed = omega (
        arith,
        c.loop-done.invariant.passed,
        c.in_ok-passed.ensures.handed_out.passed,
        ap (passed_in going.policy) more,
        passed_joined going.policy (take done (map line_at lines)) (map line_at front),
      );
      wrote =
          let before = c.loop-done.wrote in
          let after = c.saturating_add-wrote.result in
          subst (λ (l : List Line). HasBytes going q l after) (sym more)
          (wrote_more going q (take done (map line_at lines)) (map line_at front) a b before after
          c.loop-done.invariant.handed c.loop-done.invariant.wrote
          (wrote_on going q (map line_at front) before c.in_ok-passed.passed.wrote after
          c.saturating_add-wrote.ensures c.in_ok-passed.ensures.handed_out.wrote));
    }
