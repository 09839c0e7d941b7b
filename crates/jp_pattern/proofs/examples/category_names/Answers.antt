use Rattle.std.proofs.Common.{[], ◌∷◌, ◌++◌, refl, arith}
use Rattle.std.specs.Prelude.{codes}
use Rattle.jp_pattern.proofs.ExampleLists.{none_read}
use Rattle.jp_pattern.proofs.examples.category_names.Goals as goal

pub returns : goal.returns
returns c = record {
  letters = (0, omega arith, refl);
  capitals = (5, omega arith, refl);
  digits = (11, omega arith, refl);
  none = none_read (λ t. codes "\\p{" ++ (t ++ codes "}"))
      (codes "Cs" ∷ codes "Lx" ∷ codes "l" ∷ codes "LU" ∷ codes "LuA" ∷ codes "IsBasicLatin" ∷ codes ""
      ∷ codes "Zz" ∷ codes "X" ∷ []) refl;
}
