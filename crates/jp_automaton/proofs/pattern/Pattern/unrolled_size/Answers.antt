use Rattle.std.proofs.Common.{arith}
use Rattle.jp_automaton.specs.Held.{pattern_of}
use Rattle.jp_automaton.proofs.ProfileLemmas.{kept_size}
use Rattle.jp_automaton.proofs.pattern.Pattern.unrolled_size.Goals as goal

pub returns-clause-exact : goal.returns-clause-exact
returns-clause-exact c = omega (
  arith,
  kept_size (pattern_of c.args.self.now) c.args.self.now.in_profile,
  c.size.ensures,
)

pub returns-clause-within : goal.returns-clause-within
returns-clause-within c = omega (
  arith,
  kept_size (pattern_of c.args.self.now) c.args.self.now.in_profile,
  c.size.ensures,
)
