use Rattle.jp_automaton.proofs.pattern.reading.dfa_of.Goals as goal

pub invariant_of-input : goal.invariant_of-input
invariant_of-input c = record {
  sized = c.requires.sized;
  fits = c.requires.fits;
  equivalent = ∣ c.in_ok-classes.ensures ∣₁;
  room = c.states-most.ensures;
}
