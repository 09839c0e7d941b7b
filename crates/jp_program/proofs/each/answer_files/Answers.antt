use Rattle.std.proofs.Common.{◌∙◌, ◌+◌, List, None, IfErr, inl}
use Rattle.std.proofs.Common.{take, map}
use Rattle.std.proofs.Common.{refl, sym, ap, subst, arith}
use Rattle.std.proofs.lemmas.List.Elements.{All-nil}
use Rattle.clap.specs.Walk.{texts}
use Rattle.jp_run.specs.Counts.{counted}
use Rattle.jp_program.specs.inner.Invocation.{wanted_of}
use Rattle.jp_program.specs.inner.Ended.{FilesEnded, RunEnded}
use Rattle.jp_run.proofs.Handing.{told}
use Rattle.jp_program.specs.Inputs.{Course, EachInTurn, Input, counted_if, counted_times, named}
use Rattle.jp_program.specs.Outcome.{IsAnswered, IsEmptyAnswer, IsKnownEmptyAnswer, IsWholeOrCut}
use Rattle.jp_program.specs.Outcome.{Left, Passes}
use Rattle.jp_program.specs.Wanted.{Wanted}
use Rattle.jp_program.proofs.Going.{come_more, never_failed, none_of_both}
use Rattle.jp_program.proofs.Turns.{none_counted, none_of_two, one_counted}
use Rattle.jp_program.proofs.Turns.{file_more, file_ended, all_files_but_last, all_files_and_last}
use Rattle.jp_program.proofs.each.answer_files.Goals as goal

pub loop-name-init : goal.loop-name-init
loop-name-init g c = record {
  same = refl;
  opens = omega (arith, c.requires.few);
  come = (
    0,
    refl,
    ap (λ b. counted_if b (g.I.Inputs.broken c.args.inputs.now)) c.requires.working.0,
    λ on. absurd (cc),
    λ off. refl,
  );
  source = λ off. c.requires.working.0;
  working = c.requires.working.1;
  none_failed = λ off. refl;
  passes = λ fine on. refl;
  finished = λ fine e. refl;
  none_passed = λ off. refl;
  nothing = λ fine e. All-nil _;
  something = λ fine e. absurd (omega (arith, e));
  end = λ fine some. absurd (omega (arith, some));
  flushed = λ fine some. absurd (omega (arith, some));
}

pub loop-name-preserved : goal.loop-name-preserved
loop-name-preserved g c =
    let inv = c.loop-name.invariant in
    let w : Wanted = wanted_of c.args.search.now.wanted.now in
    let holds = g.I.Inputs.holds c.args.inputs.now in
    let held = g.I.Inputs.holds c.loop-name.inputs in
    let names = c.as_slice-names.result.now in
    let i = c.loop-name.name-index in
    let xs : List Input = map (named holds) (texts names) in
    let h = c.loop-name-test.true in
    let old = g.K.Sink.contents c.args.sink.now in
    let mid = g.K.Sink.contents c.loop-name.sink in
    let new = g.K.Sink.contents c.answer_next.new.sink in
    let before = c.loop-name.seen.totals.faulty in
    let found = c.in_ok-next.next.totals.faulty in
    let more = c.in_ok-next.ensures in
    let total = c.both-seen.ensures.faulty in
    let both = c.both-seen.ensures.failed in
    record {
      same = c.answer_next.ensures.same ∙ inv.same;
      opens = omega (arith, c.answer_next.ensures.opens, inv.opens);
      come = come_more w holds held inv.same names i _ h old mid new _ _ _ _ _ _ _ inv.come both
          c.answer_next.ensures.broken more.failed more.whole more.cut;
      source = λ fine. more.failed ∙ (none_of_two _ _ _ both fine).1;
      working = more.still_working;
      none_failed = λ off. none_of_both _ _ _ both (inv.none_failed off) (never_failed _ _ off more.cut);
      passes = λ fine on. let none = none_of_two _ _ _ both fine in
          subst (λ n. EachInTurn (Passes w) (take (i + 1) xs) (old, 0) (new, n)) (sym total)
          (file_more holds held inv.same names i _ h (Passes w) (old, 0) (mid, before)
          (new, counted before found) (inv.passes none.0 on) (more.passes on none.1 before));
      finished = λ fine e. let none = none_of_two _ _ _ both fine in
          file_more holds held inv.same names i _ h (IsAnswered w None) old mid new
          (inv.finished none.0 (omega (arith, e, total))) (more.finished none.1 (omega (arith, e, total)));
      none_passed = λ off. let none = inv.none_passed off in let also = more.none_passed off in
          omega (arith, none, also, total);
      nothing = λ fine e. let none = none_of_two _ _ _ both fine in
          let unwritten = none_counted _ _ _ c.both-seen.ensures.wrote e in
          all_files_and_last holds held inv.same names i _ h (IsEmptyAnswer w)
          (inv.nothing none.0 unwritten.0) (more.nothing none.1 unwritten.1);
      something = λ fine e all. let none = none_of_two _ _ _ both fine in
          let each = all_files_but_last holds held inv.same names i _ h
          (IsKnownEmptyAnswer w) all in
          one_counted _ _ _ c.both-seen.ensures.wrote e (λ is. inv.something none.0 is each.0)
          (λ is. more.something none.1 is each.1);
      end = λ fine some. more.end (none_of_two _ _ _ both fine).1;
      flushed = λ fine some. more.flushed (none_of_two _ _ _ both fine).1;
    }

pub returns-in_err-next-clause-unbroken : goal.returns-in_err-next-clause-unbroken
returns-in_err-next-clause-unbroken g c = λ off.
    let inv = c.loop-name.invariant in
    c.answer_next.ensures.broken ∙ inv.come.2
    ∙ ap (λ n. counted_times n (g.I.Inputs.broken c.args.inputs.now)) (inv.come.4 (inv.none_failed off))

pub returns-in_err-next-clause-fault : goal.returns-in_err-next-clause-fault
returns-in_err-next-clause-fault g c =
    let inv = c.loop-name.invariant in
    let w : Wanted = wanted_of c.args.search.now.wanted.now in
    let holds = g.I.Inputs.holds c.args.inputs.now in
    let held = g.I.Inputs.holds c.loop-name.inputs in
    let names = c.as_slice-names.result.now in
    let i = c.loop-name.name-index in
    let xs : List Input = map (named holds) (texts names) in
    let e : Left = record {
      rest = g.S.Supply.remaining c.answer_next.new.source;
      reads = 0;
      reads_new = g.S.Supply.reads c.answer_next.new.source;
      source_failed = g.S.Supply.failed c.answer_next.new.source;
      sink_failed = g.K.Sink.failed c.answer_next.new.sink;
    } in
    let mid = g.K.Sink.contents c.loop-name.sink in
    let course : Course = record {
      opens = g.I.Inputs.opens c.args.inputs.now;
      opens_new = g.I.Inputs.opens c.answer_next.new.inputs;
      broken = g.I.Inputs.broken c.args.inputs.now;
      broken_new = g.I.Inputs.broken c.answer_next.new.inputs;
      contents = g.K.Sink.contents c.args.sink.now;
      contents_new = g.K.Sink.contents c.answer_next.new.sink;
    } in
    let ended = told _ _ (FilesEnded w e xs course) c.from_residual.ensures.1 (inl (
      c.in_err-next.ensures.goes_past,
      file_ended holds held inv.same names i _ c.loop-name-test.true (IsWholeOrCut w) (RunEnded w e _) mid
          inv.come.0 course inv.come.1 c.in_err-next.ensures.fault
          (omega (arith, c.answer_next.ensures.opens, inv.opens)) (c.answer_next.ensures.broken ∙ inv.come.2),
    )) in
    subst (λ ns. IfErr c.from_residual.result (FilesEnded w e (map (named holds) (texts ns)) course))
    c.as_slice-names.ensures.value ended
