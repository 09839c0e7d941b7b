use Rattle.std.proofs.Common.{◌+◌, ◌*◌, ◌<◌, length, sym, subst, arith}
use Rattle.std.proofs.lemmas.Grind.{get_or_default_zero}
use Rattle.jp_automaton.specs.Expressions.{unrolled_in}
use Rattle.jp_automaton.specs.inner.Dfa.{IsCellOf}
use Rattle.jp_automaton.specs.inner.Equivalence.{Equivalent}
use Rattle.jp_automaton.specs.declared.candidate.Candidate.TheVariants as candidate
use Rattle.jp_automaton.proofs.ProfileLemmas.{kept_classes}
use Rattle.jp_automaton.proofs.StateLemmas.{cell_ascii, cell_first, cell_later, first_is}
use Rattle.jp_automaton.proofs.determinize.column_cell.Goals as goal

pub returns-then-column-gt-PAST_ASCII-clause-cell : goal.returns-then-column-gt-PAST_ASCII-clause-cell
returns-then-column-gt-PAST_ASCII-clause-cell c =
    let input = c.args.input in
    let p = unrolled_in input.root.now in
    let from = c.args.from in
    let inside : from * 256 + 192 < length c.args.cells.now = omega (arith, c.requires.next) in
    cell_later p input.unanchored c.args.states.now.items from _ c.args.column (omega arith)
    (subst (IsCellOf p input.unanchored c.args.states.now.items from 192)
    (get_or_default_zero c.args.cells.now (from * 256 + 192) 255 inside)
    (c.requires.dfa.cell from 192 c.requires.known (omega arith)))

pub returns-then-column-eq-PAST_ASCII-clause-cell : goal.returns-then-column-eq-PAST_ASCII-clause-cell
returns-then-column-eq-PAST_ASCII-clause-cell c =
    let input = c.args.input in
    cell_later (unrolled_in input.root.now) input.unanchored c.cell_past_ascii.new.states.items c.args.from
    c.in_ok-cell_past_ascii.field-0 c.args.column (omega arith) c.in_ok-cell_past_ascii.ensures.cell

pub index-first-requires : goal.index-first-requires
index-first-requires c =
    let input = c.args.input in
    omega (
      arith,
      (kept_classes (unrolled_in input.root.now) input.classes.now input.equivalent).all,
      c.if-column-ge-CONTINUATION.false,
    )

pub returns-then-known-column-clause-cell : goal.returns-then-known-column-clause-cell
returns-then-known-column-clause-cell c =
    let input = c.args.input in
    let p = unrolled_in input.root.now in
    let classes = kept_classes p input.classes.now input.equivalent in
    let column = c.args.column in
    let inside : column < length input.classes.now.first.items = omega
    (arith, classes.all, c.if-column-ge-CONTINUATION.false, c.requires.column) in
    let e = first_is input.classes.now.first.items column c.index-first.result.now c.from-known.result
    inside c.index-first.ensures c.from-known.ensures in
    let equivalent : Equivalent p (candidate.Both c.from-known.result column) =
    subst (λ n. Equivalent p (candidate.Both n column)) (sym e) (classes.first.equivalent column inside) in
    let known = c.from-known.result in
    let cell = c.requires.dfa.cell c.args.from known c.requires.known (omega (arith, c.requires.column)) in
    let inside : c.args.from * 256 + known < length c.args.cells.now = omega (arith, c.requires.next) in
    cell_first p input.unanchored c.args.states.now.items c.args.from _ known column
    (omega (arith, c.requires.column, c.if-column-ge-CONTINUATION.false, c.if-column-ge-CONTINUATION.false))
    c.if-known-column.true equivalent
    (subst (IsCellOf p input.unanchored c.args.states.now.items c.args.from known)
    (get_or_default_zero c.args.cells.now (c.args.from * 256 + known) 255 inside) cell)

pub returns-clause-cell : goal.returns-clause-cell
returns-clause-cell c =
    let input = c.args.input in
    let p = unrolled_in input.root.now in
    let classes = kept_classes p input.classes.now input.equivalent in
    let column = c.args.column in
    let inside : column < length input.classes.now.first.items = omega
    (arith, classes.all, c.if-column-ge-CONTINUATION.false, c.requires.column) in
    let e = first_is input.classes.now.first.items column c.index-first.result.now c.from-known.result
    inside c.index-first.ensures c.from-known.ensures in
    cell_ascii p input.unanchored c.cell_of.new.states.items c.args.from c.in_ok-cell_of.field-0 c.from.result
    column
    (omega (
      arith,
      e,
      classes.first.below column inside,
      c.if-known-column.false,
      c.from.ensures,
      c.from-known.ensures,
    ))
    (omega (arith, c.requires.column, c.if-column-ge-CONTINUATION.false)) c.in_ok-cell_of.ensures.cell
