use Rattle.std.proofs.Common.{[], ◌∷◌, refl}
use Rattle.std.specs.Prelude.{codes}
use Rattle.jp_pattern.proofs.ExampleLists.{none_read}
use Rattle.jp_pattern.proofs.PatternsSound.{read_sound}
use Rattle.jp_pattern.proofs.examples.quantities.Goals as goal

pub returns : goal.returns
returns c = record {
  star = read_sound _ _ refl;
  question = read_sound _ _ refl;
  some_letters = read_sound _ _ refl;
  no_copies = read_sound _ _ refl;
  none_to_none = read_sound _ _ refl;
  leading_zeros = read_sound _ _ refl;
  digits = read_sound _ _ refl;
  no_end = read_sound _ _ refl;
  refused = none_read (λ t. t) (codes "a{}" ∷ codes "a{,}" ∷ codes "a{1,2,}" ∷ codes "a{a}" ∷ codes "a{:}"
      ∷ codes "a{/}" ∷ codes "a{1 }" ∷ codes "a{-1}" ∷ codes "a+?" ∷ codes "a?+" ∷ codes "a{1}{1}"
      ∷ codes "(*)" ∷ codes "|+" ∷ []) refl;
}
