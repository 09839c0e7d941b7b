use Rattle.jp_automaton.specs.Letters.{letters_of}
use Rattle.jp_automaton.proofs.step_sets.step_set.Goals as goal

pub returns : goal.returns
returns c = record {
  walk = c.behind_set.ensures (letters_of c.args.set.now);
  reads =
      c.in_ok-read_set.ensures;
}
