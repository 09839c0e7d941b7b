use Rattle.std.proofs.Common.{◌∙◌, ℕ, List, Option, Err, Some, inl, inr, refl, ap}
use Rattle.std.proofs.Common.{subst, sym, arith}
use Rattle.std.proofs.lemmas.Grind.{common_steps}
use Rattle.clap.specs.Walk.{texts}
use Rattle.jp_run.specs.Status.{status_of}
use Rattle.jp_run.specs.declared.fault.RunFault.{RunFault}
use Rattle.jp_run.specs.declared.fault.RunFault.TheVariants.{Document, Memory}
use Rattle.jp_run.proofs.Runs.{at_fault}
use Rattle.jp_program.specs.Inputs.{Course}
use Rattle.jp_program.specs.Outcome.{IsAnswered, IsFront, IsRefusedWish, IsWholeOrCut, Left}
use Rattle.jp_program.specs.Told.{IsTold}
use Rattle.jp_program.proofs.Going.{are_failed_kept}
use Rattle.jp_program.proofs.NotTaken.{asks_so, not_taken}
use Rattle.jp_program.proofs.Noted.{refused_as, told_still}
use Rattle.jp_program.proofs.Ran.{end_so}
use Rattle.jp_program.proofs.Told.{document_of, end_of, memory_of, of_two}
use Rattle.jp_program.proofs.Told.{answered_kept, front_kept, kept_from}
use Rattle.jp_program.proofs.Told.{status_so}
use Rattle.jp_program.proofs.Turns.{in_weaker}
use Rattle.jp_program.proofs.command.program.Goals as goal

-- a literal is asked for: nothing else is wanted then

pub returns-in-Some-clause-something : goal.returns-in-Some-clause-something
returns-in-Some-clause-something g c = λ w zero wants asked known.
    absurd (not_taken (texts c.args.words.now)
    (asks_so (texts c.args.words.now) c.value_to_quote.result c.in-Some.value c.value_to_quote.ensures
    c.in-Some.is) wants.0.0)

pub returns-in-Some-clause-refused : goal.returns-in-Some-clause-refused
returns-in-Some-clause-refused g c = λ f w wants v.
    absurd (not_taken (texts c.args.words.now)
    (asks_so (texts c.args.words.now) c.value_to_quote.result c.in-Some.value c.value_to_quote.ensures
    c.in-Some.is) wants.0)

pub returns-in-Some-clause-check : goal.returns-in-Some-clause-check
returns-in-Some-clause-check g c = λ w wants.
    absurd (not_taken (texts c.args.words.now)
    (asks_so (texts c.args.words.now) c.value_to_quote.result c.in-Some.value c.value_to_quote.ensures
    c.in-Some.is) wants.0.0)

pub returns-in-Some-clause-prompt : goal.returns-in-Some-clause-prompt
returns-in-Some-clause-prompt g c = λ w wants none.
    absurd (not_taken (texts c.args.words.now)
    (asks_so (texts c.args.words.now) c.value_to_quote.result c.in-Some.value c.value_to_quote.ensures
    c.in-Some.is) wants.0.0)

pub returns-in-Some-clause-window : goal.returns-in-Some-clause-window
returns-in-Some-clause-window g c = λ w wants none.
    absurd (not_taken (texts c.args.words.now)
    (asks_so (texts c.args.words.now) c.value_to_quote.result c.in-Some.value c.value_to_quote.ensures
    c.in-Some.is) wants.0.0)

-- a run, a check or the help

pub returns-clause-query : goal.returns-clause-query
returns-clause-query g c = λ e.
    let status = sym c.status-in-Err.ensures ∙ e in
    let d = c.in-Err.ensures.query c.in-Err.fault refl status in
    (c.in-Err.fault, d.0, d.1, d.2, d.3, d.4, c.pass_on_after.ensures.untouched (inl status) ∙ d.5)

pub returns-clause-told : goal.returns-clause-told
returns-clause-told g c = λ f w two wants v.
    let same = c.in-Err.ensures.refused f w wants v in
    let is = refused_as c.in-Err.fault f c.status-in-Err.result two
    (λ m. c.status-in-Err.ensures ∙ ap status_of m) same.0 in
    told_still g.N.Sink.failed g.N.Sink.contents w f c.args.notes.now c.tell_of_words.new.notes
    c.tell_behind.new.notes (c.tell_behind.ensures.other (sym c.status-in-Err.ensures ∙ two))
    (subst (λ (o : Option (List ℕ)). IsTold w f (g.N.Sink.failed c.tell_of_words.new.notes) o
    (g.N.Sink.contents c.tell_of_words.new.notes))
    (ap g.N.Sink.contents (c.in-Err.ensures.unnoted f w wants v))
    (subst (λ (k : RunFault). IsTold w k (g.N.Sink.failed c.tell_of_words.new.notes)
    (g.N.Sink.contents c.done.new.notes) (g.N.Sink.contents c.tell_of_words.new.notes)) is
    (c.tell_of_words.ensures.refused w wants (subst (IsRefusedWish w) (sym is) v))))

pub returns-clause-document : goal.returns-clause-document
returns-clause-document g c = λ e.
    let f = document_of c.in-Err.fault (sym c.status-in-Err.ensures ∙ e) in
    let kept = c.pass_on_after.ensures.kept in
    let course : Course = record {
      opens = g.I.Inputs.opens c.args.inputs.now;
      opens_new = g.I.Inputs.opens c.done.new.inputs;
      broken = g.I.Inputs.broken c.args.inputs.now;
      broken_new = g.I.Inputs.broken c.done.new.inputs;
      contents = g.K.Sink.contents c.args.sink.now;
      contents_new = g.K.Sink.contents c.done.new.sink;
    } in
    let d =
    at_fault c.done.result (Document f.0 f.1) _ (c.in-Err.is ∙ ap Err f.2) c.done.ensures.fault in inl (
      f.0,
      f.1,
      d.0,
      d.1,
      d.2,
      in_weaker (IsWholeOrCut d.0) (IsAnswered d.0 (Some (f.0, f.1)))
          (IsAnswered d.0 (Some (f.0, f.1))) course (g.K.Sink.contents c.pass_on_after.new.sink)
          (λ input mid h. answered_kept d.0 (Some (f.0, f.1)) input mid course.contents_new
          (g.K.Sink.contents c.pass_on_after.new.sink) h kept) d.0.files (g.I.Inputs.holds c.args.inputs.now)
          (g.S.Supply.remaining c.args.source.now) d.3,
    )

pub returns-clause-failed : goal.returns-clause-failed
returns-clause-failed g c = λ e.
    let course : Course = record {
      opens = g.I.Inputs.opens c.args.inputs.now;
      opens_new = g.I.Inputs.opens c.done.new.inputs;
      broken = g.I.Inputs.broken c.args.inputs.now;
      broken_new = g.I.Inputs.broken c.done.new.inputs;
      contents = g.K.Sink.contents c.args.sink.now;
      contents_new = g.K.Sink.contents c.done.new.sink;
    } in
    let left : Left = record {
      rest = g.S.Supply.remaining c.done.new.source;
      reads = g.S.Supply.reads c.args.source.now;
      reads_new = g.S.Supply.reads c.done.new.source;
      source_failed = g.S.Supply.failed c.done.new.source;
      sink_failed = g.K.Sink.failed c.done.new.sink;
    } in
    let holds = g.I.Inputs.holds c.args.inputs.now in
    let first = g.S.Supply.remaining c.args.source.now in
    let d = end_so _ holds first course left _ c.in-Err.fault c.done.result c.in-Err.is
    (end_of c.in-Err.fault (sym c.status-in-Err.ensures ∙ e)) c.done.ensures.fault in inr (
      d.0,
      d.1,
      are_failed_kept d.0 left.rest left.reads left.reads_new left.source_failed left.sink_failed
          (g.K.Sink.failed c.pass_on_after.new.sink) holds first course
          (g.K.Sink.contents c.pass_on_after.new.sink) d.2 c.pass_on_after.ensures.kept
          c.pass_on_after.ensures.failed,
    )

pub returns-clause-memory : goal.returns-clause-memory
returns-clause-memory g c = λ e.
    let kept = c.pass_on_after.ensures.kept in
    let course : Course = record {
      opens = g.I.Inputs.opens c.args.inputs.now;
      opens_new = g.I.Inputs.opens c.done.new.inputs;
      broken = g.I.Inputs.broken c.args.inputs.now;
      broken_new = g.I.Inputs.broken c.done.new.inputs;
      contents = g.K.Sink.contents c.args.sink.now;
      contents_new = g.K.Sink.contents c.done.new.sink;
    } in
    let is = memory_of c.in-Err.fault (sym c.status-in-Err.ensures ∙ e) in of_two
    (λ same. inl (same.0, same.1, kept_from g.K.Sink.contents _ _ _ same.2 kept))
    (λ d. inr (
      d.0,
      d.1,
      in_weaker (IsWholeOrCut d.0) (IsFront d.0) (IsFront d.0) course
          (g.K.Sink.contents c.pass_on_after.new.sink)
          (λ input mid h. front_kept d.0 input mid course.contents_new
          (g.K.Sink.contents c.pass_on_after.new.sink) h kept) d.0.files (g.I.Inputs.holds c.args.inputs.now)
          (g.S.Supply.remaining c.args.source.now) d.2,
    ))
    (at_fault c.done.result Memory _ (c.in-Err.is ∙ ap Err is) c.done.ensures.fault)

pub returns-clause-refused : goal.returns-clause-refused
returns-clause-refused g c = λ f w wants v.
    let same = c.in-Err.ensures.refused f w wants v in (
      status_so w c.in-Err.fault f c.status-in-Err.result v c.status-in-Err.ensures same.0,
      same.1,
      same.2,
      kept_from g.K.Sink.contents _ _ _ same.3 c.pass_on_after.ensures.kept,
    )

pub returns-clause-check : goal.returns-clause-check
returns-clause-check g c = λ w wants.
    let same = c.in-Err.ensures.check w wants in
    (same.0, same.1, kept_from g.K.Sink.contents _ _ _ same.2 c.pass_on_after.ensures.kept)

pub returns-then-totals-eq0-2-clause-finished : goal.returns-then-totals-eq0-2-clause-finished
returns-then-totals-eq0-2-clause-finished g c = λ e.
    inr (c.in-Ok.ensures.finished (grind (arith, common_steps, c.if-totals-gt0.false)))

pub returns-in-Ok-clause-finished : goal.returns-in-Ok-clause-finished
returns-in-Ok-clause-finished g c = λ e.
    inr (c.in-Ok.ensures.finished (grind (arith, common_steps, c.if-totals-gt0.false)))
