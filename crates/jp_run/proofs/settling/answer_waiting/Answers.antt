use Rattle.std.proofs.Common.{◌≡◌, ◌∙◌, [], List, None, arith, ap, length, map, rules, subst, sym}
use Rattle.std.proofs.lemmas.List.{nil_from_length}
use Rattle.jp_buffer.specs.Buffered.{line_at}
use Rattle.jp_doc.specs.Lines.{Line}
use Rattle.jp_answer.proofs.OnFaults.{passed_few}
use Rattle.jp_run.specs.Answered.{manner_in}
use Rattle.jp_run.specs.Handed.{Handed}
use Rattle.jp_run.specs.inner.Answering.{HasHandedOut}
use Rattle.jp_run.specs.inner.Wrote.{HasBytes}
use Rattle.jp_run.proofs.Handing.{handed_none, ok_so}
use Rattle.jp_run.proofs.Wrote.{wrote_none}
use Rattle.jp_run.specs.inner.Jobs.{job_query}
use Rattle.jp_run.proofs.settling.answer_waiting.Goals as goal

pub returns-then-len-eq0-clause-handed_out : goal.returns-then-len-eq0-clause-handed_out
returns-then-len-eq0-clause-handed_out g c =
    let going = manner_in g.F.Form.says c.args.job.now.settings in
    let q = job_query c.args.job.now in
    let u = g.K.Sink.contents c.args.sink.now in
    let none : c.args.buffer.now.lines ≡ [] =
    nil_from_length c.args.buffer.now.lines (omega (arith, c.len.ensures, c.if-len-eq0.true)) in
    record {
      ready = search rules;
      handed = subst (λ (l : List Line). Handed going q l None u u) (sym none) (handed_none going q u);
      passed = search rules;
      wrote = subst (λ (l : List Line). HasBytes going q l 0) (sym none) (wrote_none going q);
      fault = search rules;
    }

pub returns-clause-handed_out : goal.returns-clause-handed_out
returns-clause-handed_out g c =
    subst (λ (ls : List Line). HasHandedOut g.F.Form.says g.K.Sink c.args.job.now ls c.args.sink.now
    c.answer_lines.new.sink c.answer_lines.result)
    (ap (map line_at) c.deref.ensures.value ∙ c.in_ok-lines.ensures) c.answer_lines.ensures.handed_out

pub returns-clause-few_faulty : goal.returns-clause-few_faulty
returns-clause-few_faulty g c =
    let policy = (manner_in g.F.Form.says c.args.job.now.settings).policy in
    ok_so c.answer_lines.result _ _ (λ p e. omega (
      arith,
      e,
      passed_few policy (map line_at c.deref.result.now),
      ap length (ap (map line_at) c.deref.ensures.value ∙ c.in_ok-lines.ensures),
    )) c.answer_lines.ensures.handed_out.passed
