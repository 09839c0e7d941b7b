use Rattle.std.proofs.Common.{ap, sym, ◌∙◌, subst, arith}
use Rattle.std.specs.Prelude.{option_map}
use Rattle.std.specs.Arc.{arc_value}
use Rattle.std.specs.Str.{chars, bytes_eq}
use Rattle.std.proofs.lemmas.List.{length-map}
use borrow.Author.Count.{below_more}
use Rattle.jp_automaton.specs.Held.{IsRead, pattern_of}
use Rattle.jp_automaton.specs.SameLanguage.{IsWrittenAs}
use Rattle.jp_tree.specs.View.{text_of}
use Rattle.jp_compiled.specs.declared.known.KnownPattern.{KnownPattern}
use Rattle.jp_check.proofs.KnownLemmas.{known_contains, known_is_other, known_read}
use Rattle.jp_check.proofs.accepted.Plan.pattern.Goals as goal

pub returns-in-Some : goal.returns-in-Some
returns-in-Some c =
    let compared = c.eq.ensures ∙ ap (λ bs. bytes_eq bs c.args.text.now) c.as_str.ensures.value in
    rw (← c.args.self.now.known, ← c.deref-known-items.ensures.value) (
      known_contains c.deref-known-items.result.now c.loop-known.known-index c.known-item.result
          c.args.text.now c.eq.result c.loop-known-test.true c.known-item.is compared c.if-eq.true,
      subst (λ p. IsWrittenAs (chars c.args.text.now) (pattern_of p)) (sym c.deref.ensures)
          (subst (λ o. IsRead (chars c.args.text.now) (option_map arc_value o)) c.in-Some.is
          (known_read c.known-item.result c.args.text.now c.eq.result compared c.if-eq.true)),
    )

pub returns-in-None : goal.returns-in-None
returns-in-None c =
    let compared = c.eq.ensures ∙ ap (λ bs. bytes_eq bs c.args.text.now) c.as_str.ensures.value in
    rw (← c.args.self.now.known, ← c.deref-known-items.ensures.value) (
      known_contains c.deref-known-items.result.now c.loop-known.known-index c.known-item.result
          c.args.text.now c.eq.result c.loop-known-test.true c.known-item.is compared c.if-eq.true,
      subst (λ o. IsRead (chars c.args.text.now) (option_map arc_value o)) c.in-None.is
          (known_read c.known-item.result c.args.text.now c.eq.result compared c.if-eq.true),
    )

pub loop-known-preserved : goal.loop-known-preserved
loop-known-preserved c =
    below_more _ _ c.loop-known.invariant (known_is_other c.deref-known-items.result.now
    c.loop-known.known-index c.known-item.result c.args.text.now c.eq.result c.utf8.text
    c.loop-known-test.true c.known-item.is (c.eq.ensures
    ∙ ap (λ bs. bytes_eq bs c.args.text.now) c.as_str.ensures.value) c.if-eq.false)

pub returns : goal.returns
returns c = rw (← c.args.self.now.known, ← c.deref-known-items.ensures.value)
    (λ found. c.loop-known.invariant found.0
    (omega (
      arith,
      length-map c.deref-known-items.result.now (λ (k : KnownPattern). text_of k.text),
      found.1,
    )) found.2)
