use Rattle.std.proofs.Common.{◌*◌, length, ◌≡◌, arith}
use Rattle.jp_automaton.proofs.determinize.make_dfa.Goals as goal
use Rattle.jp_automaton.proofs.determinize.make_dfa.Goals.{else-loop-i-test, then-loop-i-test+then-i-len}

pub returns : goal.returns
returns c =
    let kept = c.loop-i.invariant in
    let all : length c.loop-i.cells.items ≡ length c.loop-i.states.items * 256 =
    elim c.loop-i-test.branch [
      | else-loop-i-test w ↦ omega (arith, kept.dfa.few)
      | then-loop-i-test+then-i-len w ↦ omega arith
    ] in
    record { steps = kept.dfa; full = all }

pub loop-i-preserved : goal.loop-i-preserved
loop-i-preserved c =
    let made = c.in_ok-add_row.ensures in
    record {
      known = omega (arith, made.longer);
      next = omega (arith, made.next);
      dfa = made.dfa;
    }
