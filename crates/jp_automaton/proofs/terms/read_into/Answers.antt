use Rattle.std.proofs.Common.{ap, arith}
use Rattle.jp_automaton.specs.Held.{pattern_of}
use Rattle.jp_automaton.proofs.ProfileLemmas.{kept_size}
use Rattle.jp_automaton.proofs.TermLemmas.{at_most_size}
use Rattle.jp_automaton.proofs.terms.read_into.Goals as goal

pub step-requires-clause-fits : goal.step-requires-clause-fits
step-requires-clause-fits c =
    let p = pattern_of c.args.pattern.now in
    let h = at_most_size p (kept_size p c.args.pattern.now.in_profile) in
    omega (arith, ap (λ r. r.past) c.start-at.ensures, h)
