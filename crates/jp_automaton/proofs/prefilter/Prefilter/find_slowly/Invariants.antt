use Rattle.std.proofs.Common.{ℕ, List}
use Rattle.jp_automaton.specs.inner.Prefilter.{IsPrefilter}
use Rattle.jp_automaton.proofs.PrefilterLemmas.{AreCarried, IsPassing}
use Rattle.jp_automaton.proofs.prefilter.Prefilter.find_slowly.Given as goal

abbrev pub invariant-loop-i : goal.invariant-loop-i
invariant-loop-i l = record {
  carried : AreCarried l.i l.one l.two;
  passing : (cells : List ℕ) → IsPrefilter cells l.self.flags.items → IsPassing cells l.bytes l.i l.one l.two;
}
