use Rattle.std.proofs.Common.{refl, inl}
use Rattle.clap.specs.declared.error.kind.ErrorKind.TheVariants.{UnknownArgument, MissingRequiredArgument}
use Rattle.clap.specs.declared.error.kind.ErrorKind.TheVariants.{InvalidValue, ValueValidation}
use Rattle.clap.specs.declared.error.kind.ErrorKind.TheVariants.{ArgumentConflict}
use Rattle.clap.proofs.OnLiterals.{clap_on_literals}
use Rattle.jp_program.specs.CommandLine.{said, refusals}
use Rattle.jp_program.proofs.examples.wrong_words.Goals as goal

pub returns-clause-no_query : goal.returns-clause-no_query
unfolding clap_on_literals said refusals
returns-clause-no_query c = (MissingRequiredArgument, inl refl, λ e. absurd (cc), λ e. absurd (cc))

pub returns-clause-unknown : goal.returns-clause-unknown
unfolding clap_on_literals said refusals
returns-clause-unknown c = (UnknownArgument, inl refl, λ e. absurd (cc), λ e. absurd (cc))

pub returns-clause-no_number : goal.returns-clause-no_number
unfolding clap_on_literals said refusals
returns-clause-no_number c = (InvalidValue, inl refl, λ e. absurd (cc), λ e. absurd (cc))

pub returns-clause-other_number : goal.returns-clause-other_number
unfolding clap_on_literals said refusals
returns-clause-other_number c = (ValueValidation, inl refl, λ e. absurd (cc), λ e. absurd (cc))

pub returns-clause-twice : goal.returns-clause-twice
unfolding clap_on_literals said refusals
returns-clause-twice c = (ArgumentConflict, inl refl, λ e. absurd (cc), λ e. absurd (cc))
