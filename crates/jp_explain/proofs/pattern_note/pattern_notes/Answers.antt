use Rattle.std.proofs.Common.{[], sym, subst, ◌∙◌, arith, List}
use Rattle.std.proofs.lemmas.List.{take_all, length-map}
use Rattle.jp_tree.specs.Tree.{Text}
use Rattle.jp_tree.specs.View.{text_of}
use Rattle.jp_check.specs.Known.{known_texts}
use Rattle.jp_compiled.specs.declared.known.KnownPattern.{KnownPattern}
use Rattle.jp_explain.specs.PatternNotes.{AreNotes, none}
use Rattle.jp_explain.specs.declared.pattern_note.PatternNote.{PatternNote}
use Rattle.jp_explain.proofs.Traps.{text_next}
use Rattle.jp_explain.proofs.pattern_note.pattern_notes.Goals as goal

pub loop-known-init : goal.loop-known-init
loop-known-init c =
    subst (λ (ns : List PatternNote). AreNotes [] ns) (sym c.new-notes.ensures.items) none

pub loop-known-preserved : goal.loop-known-preserved
loop-known-preserved c =
    let next = text_next c.patterns-patterns.result.now c.loop-known.known-index c.known-item.result
    c.loop-known-test.true c.known-item.is in
    subst (λ (ts : List Text). AreNotes ts c.add_note.new.notes.items) (sym next)
    (c.in_ok-add_note.ensures _ c.loop-known.invariant)

pub returns : goal.returns
returns c =
    let patterns = c.patterns-patterns.result.now in
    let all = take_all c.loop-known.known-index (known_texts patterns) (omega (
      arith,
      length-map patterns (λ (k : KnownPattern). text_of k.text),
      c.loop-known-test.false,
    )) in
    subst (λ (ts : List Text). AreNotes ts c.loop-known.notes.items) (all ∙ c.patterns-patterns.ensures)
    c.loop-known.invariant
