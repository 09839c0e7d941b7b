use Rattle.std.proofs.Common.{◌≡◌, ◌∙◌, ◌<◌, ℕ, List, Option, None, refl, subst, sym}
use Rattle.std.proofs.Common.{IfOk, IfErr, OnOk}
use Rattle.clap.specs.Walk.{Text}
use Rattle.jp_run.specs.Counts.{counted}
use Rattle.jp_program.specs.inner.Invocation.{wanted_of}
use Rattle.jp_program.specs.inner.Ended.{RunEnded}
use Rattle.jp_program.specs.Inputs.{named}
use Rattle.jp_program.specs.Outcome.{IsAnswered, IsEmptyAnswer, IsKnownEmptyAnswer, IsWhole, Left, Passes}
use Rattle.jp_program.specs.Wanted.{Wanted}
use Rattle.jp_program.proofs.Ran.{unopened}
use Rattle.jp_program.proofs.each.answer_file.Goals as goal

pub returns-then-is_err-clause-fault : goal.returns-then-is_err-clause-fault
returns-then-is_err-clause-fault g c = unopened (wanted_of c.args.search.now.wanted.now) (record {
  rest = g.S.Supply.remaining c.open.new.source;
  reads = 0;
  reads_new = g.S.Supply.reads c.open.new.source;
  source_failed = g.S.Supply.failed c.open.new.source;
  sink_failed = g.K.Sink.failed c.args.sink.now;
}) (named (g.I.Inputs.holds c.args.inputs.now) c.args.name.now) _ _
    (_, c.requires.taken) (c.open.ensures.failed ∙ sym c.is_err.ensures.value ∙ c.if-is_err.true)
    c.open.ensures.bytes refl

pub returns-clause-whole : goal.returns-clause-whole
returns-clause-whole g c =
    let w : Wanted = wanted_of c.args.search.now.wanted.now in
    let name : Text = c.args.name.now in
    subst (λ (o : Option (List ℕ)). OnOk c.run_named.result (IsWhole w (name, o)
    (g.K.Sink.contents c.args.sink.now) (g.K.Sink.contents c.run_named.new.sink)))
    c.open.ensures.bytes c.run_named.ensures.turned.whole

pub returns-clause-finished : goal.returns-clause-finished
returns-clause-finished g c =
    let w : Wanted = wanted_of c.args.search.now.wanted.now in
    let name : Text = c.args.name.now in
    subst (λ (o : Option (List ℕ)). IfOk c.run_named.result (λ totals. totals.faulty ≡ 0
    → IsAnswered w None (name, o) (g.K.Sink.contents c.args.sink.now)
    (g.K.Sink.contents c.run_named.new.sink))) c.open.ensures.bytes c.run_named.ensures.turned.finished

pub returns-clause-passes : goal.returns-clause-passes
returns-clause-passes g c = λ on.
    let w : Wanted = wanted_of c.args.search.now.wanted.now in
    let name : Text = c.args.name.now in
    subst (λ (o : Option (List ℕ)). IfOk c.run_named.result (λ totals. (n : ℕ)
    → Passes w (name, o) (g.K.Sink.contents c.args.sink.now, n)
    (g.K.Sink.contents c.run_named.new.sink, counted n totals.faulty)))
    c.open.ensures.bytes (c.run_named.ensures.turned.passes on)

pub returns-clause-nothing : goal.returns-clause-nothing
returns-clause-nothing g c =
    let w : Wanted = wanted_of c.args.search.now.wanted.now in
    let name : Text = c.args.name.now in
    subst (λ (o : Option (List ℕ)). IfOk c.run_named.result (λ totals. totals.wrote ≡ 0
    → IsEmptyAnswer w (name, o))) c.open.ensures.bytes c.run_named.ensures.turned.nothing

pub returns-clause-something : goal.returns-clause-something
returns-clause-something g c =
    let w : Wanted = wanted_of c.args.search.now.wanted.now in
    let name : Text = c.args.name.now in
    subst (λ (o : Option (List ℕ)). IfOk c.run_named.result (λ totals. 0 < totals.wrote
    → IsKnownEmptyAnswer w (name, o) → ⊥)) c.open.ensures.bytes c.run_named.ensures.turned.something

pub returns-clause-fault : goal.returns-clause-fault
returns-clause-fault g c =
    let w : Wanted = wanted_of c.args.search.now.wanted.now in
    let name : Text = c.args.name.now in
    let old = g.K.Sink.contents c.args.sink.now in
    let new = g.K.Sink.contents c.run_named.new.sink in
    let e : Left = record {
      rest = g.S.Supply.remaining c.run_named.new.source;
      reads = g.S.Supply.reads c.open.new.source;
      reads_new = g.S.Supply.reads c.run_named.new.source;
      source_failed = g.S.Supply.failed c.run_named.new.source;
      sink_failed = g.K.Sink.failed c.run_named.new.sink;
    } in
    subst (λ (n : ℕ). IfErr c.run_named.result (λ f. RunEnded w (record e { reads = n }) f
    (named (g.I.Inputs.holds c.args.inputs.now) name) old new)) c.open.ensures.unread
    (subst (λ (o : Option (List ℕ)). IfErr c.run_named.result (λ f. RunEnded w e f (name, o) old new))
    c.open.ensures.bytes c.run_named.ensures.turned.fault)
