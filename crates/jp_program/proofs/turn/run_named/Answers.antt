use Rattle.std.proofs.Common.{refl, subst}
use Rattle.jp_run.specs.Begun.{AllSince}
use Rattle.jp_run.specs.Limits.{window}
use Rattle.jp_run.specs.Manner.{Manner}
use Rattle.jp_run.specs.Prompt.{IsPrompt, IsNear}
use Rattle.jp_program.specs.inner.Invocation.{wanted_of}
use Rattle.jp_program.specs.Outcome.{asked_in}
use Rattle.jp_program.proofs.Counted.{turned_by, turned_count, turned_fault, turned_plain, turned_unwritten}
use Rattle.jp_program.proofs.turn.run_named.Goals as goal

pub returns-then-not-search-clause-turned : goal.returns-then-not-search-clause-turned
returns-then-not-search-clause-turned g c = turned_plain (wanted_of c.args.search.now.wanted.now)
    c.if-not-search.true g.S.Supply g.K.Sink c.args.name.now _ _ _ _ _ (_, c.requires.taken)
    c.run_over.ensures.ran

pub returns-then-not-search-clause-prompt : goal.returns-then-not-search-clause-prompt
returns-then-not-search-clause-prompt g c = λ off.
    let h = c.run_over.ensures.ran in
    subst (λ (m : Manner). AllSince (g.S.Supply.begun c.args.source.now)
    (g.S.Supply.begun c.run_over.new.source) (IsPrompt m (asked_in (wanted_of c.args.search.now.wanted.now))
    (g.S.Supply.remaining c.args.source.now) (g.K.Sink.contents c.args.sink.now))) h.manner h.ran.prompt

pub returns-then-not-search-clause-window : goal.returns-then-not-search-clause-window
returns-then-not-search-clause-window g c = λ off.
    let h = c.run_over.ensures.ran in
    subst (λ (m : Manner). AllSince (g.S.Supply.begun c.args.source.now)
    (g.S.Supply.begun c.run_over.new.source) (IsNear window m
    (asked_in (wanted_of c.args.search.now.wanted.now)) (g.S.Supply.remaining c.args.source.now)
    (g.K.Sink.contents c.args.sink.now))) h.manner h.ran.window

pub returns-in_err-totals-clause-turned : goal.returns-in_err-totals-clause-turned
returns-in_err-totals-clause-turned g c = turned_by _ _ _ _ _ _ _ _ c.from_residual.ensures.1
    (turned_fault (wanted_of c.args.search.now.wanted.now) c.if-not-search.false g.S.Supply _ g.K.Sink
    c.args.name.now _ _ _ _ c.args.sink.now _ c.in_err-totals.ensures.ran refl)

pub returns-in_err-write_count-clause-turned : goal.returns-in_err-write_count-clause-turned
returns-in_err-write_count-clause-turned g c = turned_by _ _ _ _ _ _ _ _
    c.from_residual-in_err-write_count.ensures.1
    (turned_unwritten (wanted_of c.args.search.now.wanted.now) c.if-not-search.false g.S.Supply _ g.K.Sink
    c.args.name.now _ _ _ _ c.args.sink.now c.write_count.new.sink c.in_ok-totals.totals _
    c.in_ok-totals.ensures.ran c.in_err-write_count.ensures.fault)

pub returns-clause-turned : goal.returns-clause-turned
returns-clause-turned g c = turned_count (wanted_of c.args.search.now.wanted.now) c.if-not-search.false
    g.S.Supply _ g.K.Sink c.args.name.now _ _ _ _ c.args.sink.now c.write_count.new.sink
    c.in_ok-totals.totals (_, c.requires.taken) c.in_ok-totals.ensures.ran c.in_ok-write_count.ensures.ok
    c.in_ok-write_count.ensures.flushed c.in_ok-write_count.ensures.still_working
