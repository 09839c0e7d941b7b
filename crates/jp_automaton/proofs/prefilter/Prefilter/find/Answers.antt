use Rattle.std.proofs.Common.{◌≡◌, ◌+◌, ◌-◌, ◌<◌, length, take, drop, sym, ap, ◌∙◌, arith, length-drop}
use Rattle.std.proofs.lemmas.List.{drop-drop, take_all}
use Rattle.jp_automaton.specs.inner.Dfa.{state_behind}
use Rattle.jp_automaton.proofs.LaneLemmas.{lowest_within}
use Rattle.jp_automaton.proofs.WindowLemmas.{none_passed, passed_window, passed_up_to}
use Rattle.jp_automaton.proofs.prefilter.Prefilter.find.Goals as goal

pub loop-from-init : goal.loop-from-init
loop-from-init c = record {
  within = omega arith;
  passed = none_passed c.args.self.now.flags.items c.args.bytes.now;
}

pub returns-then-found-ne0-clause-within : goal.returns-then-found-ne0-clause-within
returns-then-found-ne0-clause-within c =
    let found = c.among-found in
    let some : 0 < found.result = omega (arith, c.if-found-ne0.true) in
    omega (arith, lowest_within found.result some found.type_inv found.ensures.within, c.loop-from-test.true)

pub returns-then-found-ne0-clause-same : goal.returns-then-found-ne0-clause-same
returns-then-found-ne0-clause-same c = λ cells of.
    let from = c.loop-from.from in
    let found = c.among-found in
    (passed_up_to c.args.self.now c.args.bytes.now c.requires c.type_inv.bytes found.result from from
    (omega arith) (omega (arith, c.loop-from-test.true)) found.ensures.passes c.loop-from.invariant.passed
    (omega (arith, c.if-found-ne0.true)) found.type_inv found.ensures.within).each cells _ of (omega arith)

pub loop-from-preserved : goal.loop-from-preserved
loop-from-preserved c =
    let from = c.loop-from.from in
    let found = c.among-found in
    record {
      within = omega (arith, c.loop-from-test.true);
      passed =
          passed_window c.args.self.now c.args.bytes.now c.requires c.type_inv.bytes found.result from from
          (omega arith) (omega (arith, c.loop-from-test.true)) found.ensures.passes
          c.loop-from.invariant.passed c.if-found-ne0.false;
    }

pub returns-then-found-ne0-2-clause-within : goal.returns-then-found-ne0-2-clause-within
returns-then-found-ne0-2-clause-within c =
    let found = c.among-found-2 in
    let some : 0 < found.result = omega (arith, c.if-found-ne0-2.true) in
    omega (
      arith,
      lowest_within found.result some found.type_inv found.ensures.within,
      c.if-bytes-lt-WINDOW.false,
    )

pub returns-then-found-ne0-2-clause-same : goal.returns-then-found-ne0-2-clause-same
returns-then-found-ne0-2-clause-same c = λ cells of.
    let bytes = c.args.bytes.now in
    let found = c.among-found-2 in
    (passed_up_to c.args.self.now bytes c.requires c.type_inv.bytes found.result (length bytes - 18)
    c.loop-from.from (omega (arith, c.loop-from-test.false)) (omega (arith, c.if-bytes-lt-WINDOW.false))
    found.ensures.passes c.loop-from.invariant.passed (omega (arith, c.if-found-ne0-2.true)) found.type_inv
    found.ensures.within).each cells _ of (omega arith)

pub returns-clause-same : goal.returns-clause-same
returns-clause-same c = λ cells of.
    let bytes = c.args.bytes.now in
    let end = length bytes - 18 + 16 in
    let passed =
    passed_window c.args.self.now bytes c.requires c.type_inv.bytes c.among-found-2.result (length bytes - 18)
    c.loop-from.from (omega (arith, c.loop-from-test.false)) (omega (arith, c.if-bytes-lt-WINDOW.false))
    c.among-found-2.ensures.passes c.loop-from.invariant.passed c.if-found-ne0-2.false in
    let two : take (length bytes - end) (drop end bytes) ≡ drop end bytes =
    take_all (length bytes - end) (drop end bytes) (omega (arith, length-drop end bytes)) in
    passed.each cells end of (omega arith)
    ∙ ap (state_behind cells 0) (sym two)
    ∙ c.find_slowly-2.ensures.same cells of
    ∙ ap (λ rest. state_behind cells 0 (drop c.find_slowly-2.result rest)) two
    ∙ ap (state_behind cells 0) (drop-drop c.find_slowly-2.result end bytes)
