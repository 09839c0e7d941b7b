use Rattle.std.proofs.Common.{◌≡◌, ◌<◌, ℕ, List, Option, true, false, None, take, map}
use Rattle.std.specs.Io.KnownBytes.{IsAtEnd}
use Rattle.clap.specs.Walk.{texts}
use Rattle.jp_answer.specs.declared.on_fault.OnFault.TheVariants.{Stop, KeepGoing}
use Rattle.jp_run.specs.Counts.{counted}
use Rattle.jp_program.specs.inner.Invocation.{wanted_of}
use Rattle.jp_program.specs.Inputs.{EachInTurn, Input, counted_if, named}
use Rattle.jp_program.specs.Outcome.{IsAnswered, Passes}
use Rattle.jp_program.specs.Outcome.{AreEmptyAnswers, AreKnownEmptyAnswers}
use Rattle.jp_program.specs.Wanted.{Wanted}
use Rattle.jp_program.proofs.Going.{HaveCome}
use Rattle.jp_program.proofs.each.answer_files.Given as goal

abbrev pub invariant-loop-name : goal.invariant-loop-name
invariant-loop-name g l =
    let w : Wanted = wanted_of l.search.wanted.now in
    let done : List Input = take l.name-index (map (named (g.I.Inputs.holds l.fn.inputs))
    (texts l.names)) in
    let old : Option (List ℕ) = g.K.Sink.contents l.fn.sink in
    let now : Option (List ℕ) = g.K.Sink.contents l.sink in
    record {
      same : g.I.Inputs.holds l.inputs ≡ g.I.Inputs.holds l.fn.inputs;
      opens : g.I.Inputs.opens l.inputs ≡ counted (g.I.Inputs.opens l.fn.inputs) l.name-index;
      come : HaveCome w done old now (g.I.Inputs.broken l.fn.inputs)
          (counted_if (g.S.Supply.failed l.source) (g.I.Inputs.broken l.inputs)) l.seen.has_failed;
      source : l.seen.has_failed ≡ false → g.S.Supply.failed l.source ≡ false;
      working : g.K.Sink.failed l.sink ≡ false;
      none_failed : w.on_fault ≡ Stop → l.seen.has_failed ≡ false;
      passes : l.seen.has_failed ≡ false → w.on_fault ≡ KeepGoing
          → EachInTurn (Passes w) done (old, 0) (now, l.seen.totals.faulty);
      finished : l.seen.has_failed ≡ false → l.seen.totals.faulty ≡ 0
          → EachInTurn (IsAnswered w None) done old now;
      none_passed : w.on_fault ≡ Stop → l.seen.totals.faulty ≡ 0;
      nothing : l.seen.has_failed ≡ false → l.seen.totals.wrote ≡ 0 → AreEmptyAnswers w done;
      something : l.seen.has_failed ≡ false → 0 < l.seen.totals.wrote → AreKnownEmptyAnswers w done → ⊥;
      end : l.seen.has_failed ≡ false → 0 < l.name-index → IsAtEnd (g.S.Supply.remaining l.source);
      flushed : l.seen.has_failed ≡ false → 0 < l.name-index → g.K.Sink.flushed l.sink ≡ true;
    }
