use Rattle.jp_automaton.specs.Held.{pattern_of}
use Rattle.jp_automaton.proofs.ProfileLemmas.{kept_profile}
use Rattle.jp_regexp.proofs.laws.held_in_profile.Goals as goal

pub returns : goal.returns
returns c = kept_profile (pattern_of c.args.pattern.now) c.args.pattern.now.in_profile
