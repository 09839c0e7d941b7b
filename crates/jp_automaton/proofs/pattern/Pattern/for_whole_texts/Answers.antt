use Rattle.std.proofs.Common.{arith}
use Rattle.std.proofs.lemmas.Grind.{common_steps}
use Rattle.jp_automaton.specs.Expressions.{pattern_in}
use Rattle.jp_automaton.proofs.ProfileLemmas.{kept_size}
use Rattle.jp_pattern.proofs.UnrolledLemmas.{letters-unrolled}
use Rattle.jp_automaton.proofs.pattern.Pattern.for_whole_texts.Goals as goal

pub dfa_of-requires-clause-fits : goal.dfa_of-requires-clause-fits
dfa_of-requires-clause-fits c =
    let p = pattern_in c.args.self.root in
    omega (arith, letters-unrolled p, kept_size p c.args.self.in_profile)

pub invariant_of-result : goal.invariant_of-result
invariant_of-result c = grind (arith, common_steps)
