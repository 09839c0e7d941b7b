-- A text of `src/` has scalar values alone.
use Rattle.std.proofs.Common.{◌≡◌, ℕ, List, [], ◌∷◌, true, IsTrue, arith}
use Rattle.std.proofs.Math.Utf8.{scalar, scalars}
use Rattle.std.proofs.lemmas.Bool.{and_parts}
use Rattle.std.proofs.lemmas.Bool.Decides.{nat_tests}
use Rattle.std.proofs.lemmas.Str.{scalars-chars}
use Rattle.std.specs.Str.{chars, IsUtf8}
use Rattle.jp_tree.specs.Characters.{is_scalar}
use Rattle.jp_tree.specs.Parts.{Each}

is_scalar_value : (c : ℕ) → scalar c ≡ true → IsTrue (is_scalar c)
is_scalar_value c h = grind (arith, nat_tests)

pub each_scalar : (cs : List ℕ) → scalars cs ≡ true → Each is_scalar cs
each_scalar [] h = tt
each_scalar (c ∷ cs) h = let parts = and_parts (scalar c) (scalars cs) h in
    (is_scalar_value c parts.0, each_scalar cs parts.1)

pub chars_are_scalar : (bs : List ℕ) → IsUtf8 bs → Each is_scalar (chars bs)
chars_are_scalar bs u = each_scalar (chars bs) (scalars-chars bs u)
