use Rattle.std.proofs.Common.{arith}
use Rattle.jp_automaton.specs.Expressions.{unrolled_in}
use Rattle.jp_automaton.proofs.StateLemmas.{dfa_more}
use Rattle.jp_automaton.proofs.determinize.add_row.Goals as goal

pub loop-column-preserved : goal.loop-column-preserved
loop-column-preserved c =
    let input = c.args.input in
    let old = c.loop-column in
    let states = c.column_cell.new.states.items in
    let made = c.in_ok-cell.ensures in
    record {
      known = omega (arith, old.invariant.known, made.grows.longer);
      longer = omega (arith, old.invariant.longer, made.grows.longer);
      next = omega (arith, old.invariant.next, c.in_ok-push.ensures.len);
      dfa = dfa_more (unrolled_in input.root.now) input.unanchored old.states.items states old.cells.items
          c.push.new.self.items c.args.from
          old.column c.in_ok-cell.cell old.invariant.known old.invariant.next made.grows old.invariant.dfa
          made.cell made.stays (omega arith)
          made.few c.in_ok-push.ensures.items;
    }
