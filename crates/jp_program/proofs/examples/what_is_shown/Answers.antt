use Rattle.std.proofs.Common.{refl, inl, inr}
use Rattle.clap.proofs.OnLiterals.{clap_on_literals}
use Rattle.jp_program.specs.CommandLine.{said, refusals}
use Rattle.jp_program.proofs.examples.what_is_shown.Goals as goal

pub returns-clause-help : goal.returns-clause-help
unfolding clap_on_literals said refusals
returns-clause-help c = inl (inl refl)

pub returns-clause-short_help : goal.returns-clause-short_help
unfolding clap_on_literals said refusals
returns-clause-short_help c = inl (inl refl)

pub returns-clause-version : goal.returns-clause-version
unfolding clap_on_literals said refusals
returns-clause-version c = inr (inl refl)

pub returns-clause-short_version : goal.returns-clause-short_version
unfolding clap_on_literals said refusals
returns-clause-short_version c = inr (inl refl)
