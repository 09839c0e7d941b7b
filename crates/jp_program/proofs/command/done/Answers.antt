use Rattle.std.proofs.Common.{◌≡◌, ◌∙◌, ◌<◌, [], true, false, None, IfOk}
use Rattle.std.proofs.Common.{inl, inr, refl, ap, subst, sym}
use Rattle.std.proofs.Common.{map}
use Rattle.jp_run.proofs.Accepted.{none_refused, refusal_told, refused_so}
use Rattle.jp_run.proofs.Handing.{at_ok}
use Rattle.jp_run.proofs.Readings.{none_yet}
use Rattle.jp_run.proofs.Runs.{at_fault}
use Rattle.jp_program.specs.inner.Invocation.{wanted_of, IsAsked}
use Rattle.jp_program.specs.inner.Ended.{FilesEnded}
use Rattle.jp_program.specs.Inputs.{Course, EachInTurn, inputs_of, named}
use Rattle.jp_program.specs.Outcome.{AreNear, AreOpened, ArePassed, ArePrompt, IsAnswered, Left}
use Rattle.jp_program.specs.Outcome.{AreEmptyAnswers, AreKnownEmptyAnswers}
use Rattle.jp_program.specs.Wanted.{Wanted}
use Rattle.jp_program.proofs.OneWish.{not_shown, not_asked, not_checked, asked_is, not_text, refused_wish}
use Rattle.jp_program.proofs.Ran.{wants_of, finished_alone, finished_so, past_alone}
use Rattle.jp_program.proofs.Ran.{past_so, opened_none, prepared_by, taken_by, nothing_alone}
use Rattle.jp_program.proofs.Ran.{something_alone}
use Rattle.jp_program.proofs.Ran.{run_so, files_so, finished_files, past_files, nothing_files}
use Rattle.jp_program.proofs.Ran.{something_files}
use Rattle.jp_program.proofs.Ran.{opened_files, no_files, no_memory, some_files, both_files}
use Rattle.jp_program.proofs.Ran.{query_ended}
use Rattle.jp_program.proofs.command.done.Goals as goal

-- the words are not taken, or the help is shown

pub returns-in_err-text-clause-refused : goal.returns-in_err-text-clause-refused
returns-in_err-text-clause-refused g c = λ f w wants v. (
  inr (not_asked _ w _ _ c.from_residual.ensures.1 c.in_err-text.ensures.fault wants),
  refl,
  refl,
  refl,
)

pub returns-in_err-text-clause-query : goal.returns-in_err-text-clause-query
returns-in_err-text-clause-query g c = λ f e two.
    not_text _ _ f _ c.from_residual.ensures.1 c.in_err-text.ensures.fault e two

pub returns-in_err-text-clause-prompt : goal.returns-in_err-text-clause-prompt
returns-in_err-text-clause-prompt g c = λ w wants none off. none_yet _ _ _ refl

pub returns-in_err-text-clause-window : goal.returns-in_err-text-clause-window
returns-in_err-text-clause-window g c = λ w wants none off. none_yet _ _ _ refl

pub returns-in-Show-clause-refused : goal.returns-in-Show-clause-refused
returns-in-Show-clause-refused g c = λ f w wants v. not_shown _ w wants
    (subst (IsAsked _) c.in-Show.is c.in_ok-text.ensures.asked)

pub returns-in-Show-clause-check : goal.returns-in-Show-clause-check
returns-in-Show-clause-check g c = λ w wants. not_shown _ w wants.0
    (subst (IsAsked _) c.in-Show.is c.in_ok-text.ensures.asked)

pub returns-in-Show-clause-asked : goal.returns-in-Show-clause-asked
returns-in-Show-clause-asked g c = λ w wants. not_shown _ w wants.0
    (subst (IsAsked _) c.in-Show.is c.in_ok-text.ensures.asked)

pub returns-in-Show-clause-nothing : goal.returns-in-Show-clause-nothing
returns-in-Show-clause-nothing g c = λ w wants. not_shown _ w wants.0
    (subst (IsAsked _) c.in-Show.is c.in_ok-text.ensures.asked)

pub returns-in-Show-clause-prompt : goal.returns-in-Show-clause-prompt
returns-in-Show-clause-prompt g c = λ w wants none off. none_yet _ _ _ refl

pub returns-in-Show-clause-window : goal.returns-in-Show-clause-window
returns-in-Show-clause-window g c = λ w wants none off. none_yet _ _ _ refl

-- what is refused

pub returns-in_err-prepared-in-Query-clause-refused :
    goal.returns-in_err-prepared-in-Query-clause-refused
returns-in_err-prepared-in-Query-clause-refused g c = λ f w wants v. (
  refused_so _ _ _ refl f _ _ c.from_residual-in_err-prepared-in-Query.ensures.1
      c.in_err-prepared-in-Query.ensures.fault
      (refused_wish _ _ _ w f c.in-Query.is c.in_ok-text.ensures.asked wants v),
  refl,
  refl,
  refl,
)

pub returns-in_err-prepared-in-Query-clause-query : goal.returns-in_err-prepared-in-Query-clause-query
returns-in_err-prepared-in-Query-clause-query g c = λ f e two. (
  wanted_of c.in-Query.wanted,
  subst (IsAsked _) c.in-Query.is c.in_ok-text.ensures.asked,
  refusal_told _ _ _ refl f _ _ c.from_residual-in_err-prepared-in-Query.ensures.1
      c.in_err-prepared-in-Query.ensures.fault (no_memory f two) e,
  refl,
  refl,
  refl,
)

pub returns-in_err-prepared-in-Query-clause-prompt : goal.returns-in_err-prepared-in-Query-clause-prompt
returns-in_err-prepared-in-Query-clause-prompt g c = λ w wants none off. none_yet _ _ _ refl

pub returns-in_err-prepared-in-Query-clause-window : goal.returns-in_err-prepared-in-Query-clause-window
returns-in_err-prepared-in-Query-clause-window g c = λ w wants none off. none_yet _ _ _ refl

-- a check

pub returns-then-wanted-clause-finished : goal.returns-then-wanted-clause-finished
returns-then-wanted-clause-finished g c = λ none. inr (inl (
  wanted_of c.in-Query.wanted,
  (subst (IsAsked _) c.in-Query.is c.in_ok-text.ensures.asked, c.if-wanted.true),
  taken_by _ (wanted_of c.in-Query.wanted) refl
      (_, c.in_ok-prepared-in-Query.ensures.ok),
  refl,
  refl,
  refl,
))

pub returns-then-wanted-clause-asked : goal.returns-then-wanted-clause-asked
returns-then-wanted-clause-asked g c = λ w wants.
    let same = asked_is _ _ _ w c.in-Query.is c.in_ok-text.ensures.asked wants.0 in
    absurd (let both : false ≡ true =
    sym wants.1 ∙ ap (λ (x : Wanted). x.check) same ∙ c.if-wanted.true in cc)

pub returns-then-wanted-clause-nothing : goal.returns-then-wanted-clause-nothing
returns-then-wanted-clause-nothing g c = λ w wants.
    let same = asked_is _ _ _ w c.in-Query.is c.in_ok-text.ensures.asked wants.0 in
    absurd (let both : false ≡ true =
    sym wants.1 ∙ ap (λ (x : Wanted). x.check) same ∙ c.if-wanted.true in cc)

pub returns-then-wanted-clause-refused : goal.returns-then-wanted-clause-refused
returns-then-wanted-clause-refused g c = λ f w wants v.
    let taken = c.in_ok-prepared-in-Query.ensures.ok in
    none_refused _ _ _ refl _ f taken
    (refused_wish _ _ _ w f c.in-Query.is c.in_ok-text.ensures.asked wants v)

pub returns-then-wanted-clause-unnoted : goal.returns-then-wanted-clause-unnoted
returns-then-wanted-clause-unnoted g c = λ f w wants v.
    let taken = c.in_ok-prepared-in-Query.ensures.ok in
    none_refused _ _ _ refl _ f taken
    (refused_wish _ _ _ w f c.in-Query.is c.in_ok-text.ensures.asked wants v)

pub returns-then-wanted-clause-prompt : goal.returns-then-wanted-clause-prompt
returns-then-wanted-clause-prompt g c = λ w wants none off. none_yet _ _ _ refl

pub returns-then-wanted-clause-window : goal.returns-then-wanted-clause-window
returns-then-wanted-clause-window g c = λ w wants none off. none_yet _ _ _ refl

-- a run over standard input

pub run_named-requires-clause-taken : goal.run_named-requires-clause-taken
run_named-requires-clause-taken g c κs outlives =
    prepared_by _ (wanted_of c.in-Query.wanted) _ refl
    c.in_ok-prepared-in-Query.ensures.ok

pub returns-then-is_alone-clause-finished : goal.returns-then-is_alone-clause-finished
returns-then-is_alone-clause-finished g c =
    let w : Wanted = wanted_of c.in-Query.wanted in
    let none = no_files _ c.in-Query.wanted.files c.is_empty-is_alone.ensures c.if-is_alone.true in
    let holds = g.I.Inputs.holds c.args.inputs.now in
    let first = g.S.Supply.remaining c.args.source.now in
    let old = g.K.Sink.contents c.args.sink.now in
    let new = g.K.Sink.contents c.run_named.new.sink in
    let opens = g.I.Inputs.opens c.args.inputs.now in
    let broken = g.I.Inputs.broken c.args.inputs.now in
    finished_so _ w (wants_of _ _ _ c.in-Query.is c.in_ok-text.ensures.asked c.if-wanted.false)
    (λ x. EachInTurn (IsAnswered x None) (inputs_of x.files holds first) old new)
    (λ x. AreOpened x opens opens broken broken) _ _ _ _ _ _ c.run_named.result
    c.run_named.ensures.turned.taken
    (finished_alone w holds first old new none c.run_named.result c.run_named.ensures.turned.finished)
    (at_ok c.run_named.result (opened_none w none opens broken c.requires.few.2))
    c.run_named.ensures.turned.end c.run_named.ensures.turned.flushed c.run_named.ensures.turned.still_working

pub returns-then-is_alone-clause-past : goal.returns-then-is_alone-clause-past
returns-then-is_alone-clause-past g c =
    let w : Wanted = wanted_of c.in-Query.wanted in
    let none = no_files _ c.in-Query.wanted.files c.is_empty-is_alone.ensures c.if-is_alone.true in
    let holds = g.I.Inputs.holds c.args.inputs.now in
    let first = g.S.Supply.remaining c.args.source.now in
    let old = g.K.Sink.contents c.args.sink.now in
    let new = g.K.Sink.contents c.run_named.new.sink in
    let opens = g.I.Inputs.opens c.args.inputs.now in
    let broken = g.I.Inputs.broken c.args.inputs.now in
    past_so _ w (wants_of _ _ _ c.in-Query.is c.in_ok-text.ensures.asked c.if-wanted.false)
    (λ x. ArePassed x (inputs_of x.files holds first) old new)
    (λ x. AreOpened x opens opens broken broken) _ _ _ _ c.run_named.result
    (past_alone w holds first old new none c.run_named.result c.run_named.ensures.turned.passes
    c.run_named.ensures.turned.none_passed)
    (at_ok c.run_named.result (opened_none w none opens broken c.requires.few.2))
    c.run_named.ensures.turned.end c.run_named.ensures.turned.flushed c.run_named.ensures.turned.still_working

pub returns-then-is_alone-clause-asked : goal.returns-then-is_alone-clause-asked
returns-then-is_alone-clause-asked g c = λ w wants. at_ok c.run_named.result
    (ap (λ (x : Wanted). x.exit_status)
    (sym (asked_is _ _ _ w c.in-Query.is c.in_ok-text.ensures.asked wants.0)))

pub returns-then-is_alone-clause-asks : goal.returns-then-is_alone-clause-asks
returns-then-is_alone-clause-asks g c = λ on. at_ok c.run_named.result (
  wanted_of c.in-Query.wanted,
  wants_of _ _ _ c.in-Query.is c.in_ok-text.ensures.asked c.if-wanted.false,
  on,
)

pub returns-then-is_alone-clause-nothing : goal.returns-then-is_alone-clause-nothing
returns-then-is_alone-clause-nothing g c = λ w wants.
    let v : Wanted = wanted_of c.in-Query.wanted in
    let none = no_files _ c.in-Query.wanted.files c.is_empty-is_alone.ensures c.if-is_alone.true in
    let holds = g.I.Inputs.holds c.args.inputs.now in
    let first = g.S.Supply.remaining c.args.source.now in
    subst (λ (x : Wanted). IfOk c.run_named.result (λ totals. totals.wrote ≡ 0
    → AreEmptyAnswers x (inputs_of x.files holds first)))
    (sym (asked_is _ _ _ w c.in-Query.is c.in_ok-text.ensures.asked wants.0))
    (nothing_alone v none holds first c.run_named.result c.run_named.ensures.turned.nothing)

pub returns-then-is_alone-clause-something : goal.returns-then-is_alone-clause-something
returns-then-is_alone-clause-something g c = λ w wants.
    let v : Wanted = wanted_of c.in-Query.wanted in
    let none = no_files _ c.in-Query.wanted.files c.is_empty-is_alone.ensures c.if-is_alone.true in
    let holds = g.I.Inputs.holds c.args.inputs.now in
    let first = g.S.Supply.remaining c.args.source.now in
    subst (λ (x : Wanted). IfOk c.run_named.result (λ totals. 0 < totals.wrote
    → AreKnownEmptyAnswers x (inputs_of x.files holds first) → ⊥))
    (sym (asked_is _ _ _ w c.in-Query.is c.in_ok-text.ensures.asked wants.0))
    (something_alone v none holds first c.run_named.result c.run_named.ensures.turned.something)

pub returns-then-is_alone-clause-refused : goal.returns-then-is_alone-clause-refused
returns-then-is_alone-clause-refused g c = λ f w wants v.
    let taken = c.in_ok-prepared-in-Query.ensures.ok in
    none_refused _ _ _ refl _ f taken
    (refused_wish _ _ _ w f c.in-Query.is c.in_ok-text.ensures.asked wants v)

pub returns-then-is_alone-clause-check : goal.returns-then-is_alone-clause-check
returns-then-is_alone-clause-check g c = λ w wants.
    not_checked _ _ _ w c.in-Query.is c.in_ok-text.ensures.asked wants c.if-wanted.false

pub returns-then-is_alone-clause-query : goal.returns-then-is_alone-clause-query
returns-then-is_alone-clause-query g c = λ f e two.
    absurd (c.run_named.ensures.turned.query f e two)

pub returns-then-is_alone-clause-fault : goal.returns-then-is_alone-clause-fault
returns-then-is_alone-clause-fault g c =
    let w : Wanted = wanted_of c.in-Query.wanted in
    let first = g.S.Supply.remaining c.args.source.now in
    let old = g.K.Sink.contents c.args.sink.now in
    let new = g.K.Sink.contents c.run_named.new.sink in
    let course : Course = record {
      opens = g.I.Inputs.opens c.args.inputs.now;
      opens_new = g.I.Inputs.opens c.args.inputs.now;
      broken = g.I.Inputs.broken c.args.inputs.now;
      broken_new = g.I.Inputs.broken c.args.inputs.now;
      contents = old;
      contents_new = new;
    } in
    let left : Left = record {
      rest = g.S.Supply.remaining c.run_named.new.source;
      reads = g.S.Supply.reads c.args.source.now;
      reads_new = g.S.Supply.reads c.run_named.new.source;
      source_failed = g.S.Supply.failed c.run_named.new.source;
      sink_failed = g.K.Sink.failed c.run_named.new.sink;
    } in
    run_so _ w (wants_of _ _ _ c.in-Query.is c.in_ok-text.ensures.asked c.if-wanted.false)
    (g.I.Inputs.holds c.args.inputs.now) first course left _
    (no_files _ c.in-Query.wanted.files c.is_empty-is_alone.ensures c.if-is_alone.true)
    c.run_named.result c.run_named.ensures.turned.goes_on
    c.run_named.ensures.turned.fault

pub returns-then-is_alone-clause-prompt : goal.returns-then-is_alone-clause-prompt
returns-then-is_alone-clause-prompt g c = λ w wants none.
    subst (λ (x : Wanted). ArePrompt x (g.S.Supply.begun c.args.source.now)
    (g.S.Supply.begun c.run_named.new.source) (g.S.Supply.remaining c.args.source.now)
    (g.K.Sink.contents c.args.sink.now))
    (sym (asked_is _ _ _ w c.in-Query.is c.in_ok-text.ensures.asked wants.0)) c.run_named.ensures.prompt

pub returns-then-is_alone-clause-window : goal.returns-then-is_alone-clause-window
returns-then-is_alone-clause-window g c = λ w wants none.
    subst (λ (x : Wanted). AreNear x (g.S.Supply.begun c.args.source.now)
    (g.S.Supply.begun c.run_named.new.source) (g.S.Supply.remaining c.args.source.now)
    (g.K.Sink.contents c.args.sink.now))
    (sym (asked_is _ _ _ w c.in-Query.is c.in_ok-text.ensures.asked wants.0)) c.run_named.ensures.window

pub returns-then-is_alone-clause-unnoted : goal.returns-then-is_alone-clause-unnoted
returns-then-is_alone-clause-unnoted g c = λ f w wants v.
    let taken = c.in_ok-prepared-in-Query.ensures.ok in
    none_refused _ _ _ refl _ f taken
    (refused_wish _ _ _ w f c.in-Query.is c.in_ok-text.ensures.asked wants v)

-- a run over files

pub answer_files-requires-clause-taken : goal.answer_files-requires-clause-taken
answer_files-requires-clause-taken g c κs outlives =
    prepared_by _ (wanted_of c.in-Query.wanted) _ refl
    c.in_ok-prepared-in-Query.ensures.ok

pub returns-else-is_alone-clause-finished : goal.returns-else-is_alone-clause-finished
returns-else-is_alone-clause-finished g c =
    let w : Wanted = wanted_of c.in-Query.wanted in
    let some = some_files _ c.in-Query.wanted.files c.is_empty-is_alone.ensures
    c.if-is_alone.false in
    let holds = g.I.Inputs.holds c.args.inputs.now in
    let first = g.S.Supply.remaining c.args.source.now in
    let old = g.K.Sink.contents c.args.sink.now in
    let new = g.K.Sink.contents c.answer_files.new.sink in
    let opens = g.I.Inputs.opens c.args.inputs.now in
    let broken = g.I.Inputs.broken c.args.inputs.now in
    let said = c.answer_files.ensures in
    let r = c.answer_files.result in
    finished_so _ w (wants_of _ _ _ c.in-Query.is c.in_ok-text.ensures.asked c.if-wanted.false)
    (λ x. EachInTurn (IsAnswered x None) (inputs_of x.files holds first) old new)
    (λ x. AreOpened x opens (g.I.Inputs.opens c.answer_files.new.inputs) broken
    (g.I.Inputs.broken c.answer_files.new.inputs)) _ _ _ _ _ _ r
    (at_ok r (taken_by _ w refl (_, c.in_ok-prepared-in-Query.ensures.ok)))
    (finished_files w some holds first r old new said.finished)
    (opened_files r w c.in-Query.wanted.files.items opens _ broken _ refl said.opens said.broken)
    said.end said.flushed said.still_working

pub returns-else-is_alone-clause-past : goal.returns-else-is_alone-clause-past
returns-else-is_alone-clause-past g c =
    let w : Wanted = wanted_of c.in-Query.wanted in
    let some = some_files _ c.in-Query.wanted.files c.is_empty-is_alone.ensures
    c.if-is_alone.false in
    let holds = g.I.Inputs.holds c.args.inputs.now in
    let first = g.S.Supply.remaining c.args.source.now in
    let old = g.K.Sink.contents c.args.sink.now in
    let new = g.K.Sink.contents c.answer_files.new.sink in
    let opens = g.I.Inputs.opens c.args.inputs.now in
    let broken = g.I.Inputs.broken c.args.inputs.now in
    let said = c.answer_files.ensures in
    let r = c.answer_files.result in
    past_so _ w (wants_of _ _ _ c.in-Query.is c.in_ok-text.ensures.asked c.if-wanted.false)
    (λ x. ArePassed x (inputs_of x.files holds first) old new)
    (λ x. AreOpened x opens (g.I.Inputs.opens c.answer_files.new.inputs) broken
    (g.I.Inputs.broken c.answer_files.new.inputs)) _ _ _ _ r
    (past_files w some holds first r old new said.past)
    (opened_files r w c.in-Query.wanted.files.items opens _ broken _ refl said.opens said.broken)
    said.end said.flushed said.still_working

pub returns-else-is_alone-clause-asked : goal.returns-else-is_alone-clause-asked
returns-else-is_alone-clause-asked g c = λ w wants. at_ok c.answer_files.result
    (ap (λ (x : Wanted). x.exit_status)
    (sym (asked_is _ _ _ w c.in-Query.is c.in_ok-text.ensures.asked wants.0)))

pub returns-else-is_alone-clause-asks : goal.returns-else-is_alone-clause-asks
returns-else-is_alone-clause-asks g c = λ on. at_ok c.answer_files.result (
  wanted_of c.in-Query.wanted,
  wants_of _ _ _ c.in-Query.is c.in_ok-text.ensures.asked c.if-wanted.false,
  on,
)

pub returns-else-is_alone-clause-nothing : goal.returns-else-is_alone-clause-nothing
returns-else-is_alone-clause-nothing g c = λ w wants.
    let v : Wanted = wanted_of c.in-Query.wanted in
    let some = some_files _ c.in-Query.wanted.files c.is_empty-is_alone.ensures
    c.if-is_alone.false in
    let holds = g.I.Inputs.holds c.args.inputs.now in
    let first = g.S.Supply.remaining c.args.source.now in
    subst (λ (x : Wanted). IfOk c.answer_files.result (λ totals. totals.wrote ≡ 0
    → AreEmptyAnswers x (inputs_of x.files holds first)))
    (sym (asked_is _ _ _ w c.in-Query.is c.in_ok-text.ensures.asked wants.0))
    (nothing_files v some holds first c.answer_files.result
    c.answer_files.ensures.nothing)

pub returns-else-is_alone-clause-something : goal.returns-else-is_alone-clause-something
returns-else-is_alone-clause-something g c = λ w wants.
    let v : Wanted = wanted_of c.in-Query.wanted in
    let some = some_files _ c.in-Query.wanted.files c.is_empty-is_alone.ensures
    c.if-is_alone.false in
    let holds = g.I.Inputs.holds c.args.inputs.now in
    let first = g.S.Supply.remaining c.args.source.now in
    subst (λ (x : Wanted). IfOk c.answer_files.result (λ totals. 0 < totals.wrote
    → AreKnownEmptyAnswers x (inputs_of x.files holds first) → ⊥))
    (sym (asked_is _ _ _ w c.in-Query.is c.in_ok-text.ensures.asked wants.0))
    (something_files v some holds first c.answer_files.result
    c.answer_files.ensures.something)

pub returns-else-is_alone-clause-refused : goal.returns-else-is_alone-clause-refused
returns-else-is_alone-clause-refused g c = λ f w wants v.
    let taken = c.in_ok-prepared-in-Query.ensures.ok in
    none_refused _ _ _ refl _ f taken
    (refused_wish _ _ _ w f c.in-Query.is c.in_ok-text.ensures.asked wants v)

pub returns-else-is_alone-clause-unnoted : goal.returns-else-is_alone-clause-unnoted
returns-else-is_alone-clause-unnoted g c = λ f w wants v.
    let taken = c.in_ok-prepared-in-Query.ensures.ok in
    none_refused _ _ _ refl _ f taken
    (refused_wish _ _ _ w f c.in-Query.is c.in_ok-text.ensures.asked wants v)

pub returns-else-is_alone-clause-check : goal.returns-else-is_alone-clause-check
returns-else-is_alone-clause-check g c = λ w wants.
    not_checked _ _ _ w c.in-Query.is c.in_ok-text.ensures.asked wants c.if-wanted.false

pub returns-else-is_alone-clause-query : goal.returns-else-is_alone-clause-query
returns-else-is_alone-clause-query g c = λ f e two.
    let w : Wanted = wanted_of c.in-Query.wanted in
    let course : Course = record {
      opens = g.I.Inputs.opens c.args.inputs.now;
      opens_new = g.I.Inputs.opens c.answer_files.new.inputs;
      broken = g.I.Inputs.broken c.args.inputs.now;
      broken_new = g.I.Inputs.broken c.answer_files.new.inputs;
      contents = g.K.Sink.contents c.args.sink.now;
      contents_new = g.K.Sink.contents c.answer_files.new.sink;
    } in
    let left : Left = record {
      rest = g.S.Supply.remaining c.answer_files.new.source;
      reads = 0;
      reads_new = g.S.Supply.reads c.answer_files.new.source;
      source_failed = g.S.Supply.failed c.answer_files.new.source;
      sink_failed = g.K.Sink.failed c.answer_files.new.sink;
    } in
    let given = map (named (g.I.Inputs.holds c.args.inputs.now)) w.files in
    let taken = c.in_ok-prepared-in-Query.ensures.ok in
    none_refused _ _ _ refl _ f taken (query_ended w left given course f two
    (at_fault c.answer_files.result f (FilesEnded w left given course) e c.answer_files.ensures.fault))

pub returns-else-is_alone-clause-unbroken : goal.returns-else-is_alone-clause-unbroken
returns-else-is_alone-clause-unbroken g c = λ w wants off. c.answer_files.ensures.unbroken
    (sym (ap (λ (x : Wanted). x.on_fault)
    (asked_is _ _ _ w c.in-Query.is c.in_ok-text.ensures.asked wants.0)) ∙ off)

pub returns-else-is_alone-clause-fault : goal.returns-else-is_alone-clause-fault
returns-else-is_alone-clause-fault g c =
    let w : Wanted = wanted_of c.in-Query.wanted in
    let some = some_files _ c.in-Query.wanted.files c.is_empty-is_alone.ensures
    c.if-is_alone.false in
    let holds = g.I.Inputs.holds c.args.inputs.now in
    let course : Course = record {
      opens = g.I.Inputs.opens c.args.inputs.now;
      opens_new = g.I.Inputs.opens c.answer_files.new.inputs;
      broken = g.I.Inputs.broken c.args.inputs.now;
      broken_new = g.I.Inputs.broken c.answer_files.new.inputs;
      contents = g.K.Sink.contents c.args.sink.now;
      contents_new = g.K.Sink.contents c.answer_files.new.sink;
    } in
    let left : Left = record {
      rest = g.S.Supply.remaining c.answer_files.new.source;
      reads = g.S.Supply.reads c.args.source.now;
      reads_new = g.S.Supply.reads c.answer_files.new.source;
      source_failed = g.S.Supply.failed c.answer_files.new.source;
      sink_failed = g.K.Sink.failed c.answer_files.new.sink;
    } in
    files_so _ w (wants_of _ _ _ c.in-Query.is c.in_ok-text.ensures.asked c.if-wanted.false) holds
    (g.S.Supply.remaining c.args.source.now) course left _ some c.answer_files.result
    c.answer_files.ensures.goes_on c.answer_files.ensures.fault

pub returns-else-is_alone-clause-prompt : goal.returns-else-is_alone-clause-prompt
returns-else-is_alone-clause-prompt g c = λ w wants none.
    let some = some_files _ c.in-Query.wanted.files c.is_empty-is_alone.ensures
    c.if-is_alone.false in
    let same = asked_is _ _ _ w c.in-Query.is c.in_ok-text.ensures.asked wants.0 in
    absurd (both_files (wanted_of c.in-Query.wanted) some
    (subst (λ (x : Wanted). x.files ≡ []) same none))

pub returns-else-is_alone-clause-window : goal.returns-else-is_alone-clause-window
returns-else-is_alone-clause-window g c = λ w wants none.
    let some = some_files _ c.in-Query.wanted.files c.is_empty-is_alone.ensures
    c.if-is_alone.false in
    let same = asked_is _ _ _ w c.in-Query.is c.in_ok-text.ensures.asked wants.0 in
    absurd (both_files (wanted_of c.in-Query.wanted) some
    (subst (λ (x : Wanted). x.files ≡ []) same none))
