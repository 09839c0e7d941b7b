use Rattle.std.proofs.Common.{subst, sym}
use Rattle.jp_pattern.specs.Language.{Member}
use Rattle.jp_pattern.proofs.EmptyLemmas.{only_empty, has_empty}
use Rattle.jp_regexp.proofs.laws.language_of_size_zero.Goals as goal

pub returns : goal.returns
returns c = λ p t fits e. (
  only_empty p t fits.counts e,
  λ h. subst (Member p) (sym h)
      (has_empty p fits.counts e),
)
