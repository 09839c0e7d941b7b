-- No character of ASCII has the property Default_Ignorable_Code_Point of Unicode.
use Rattle.std.proofs.Common.{◌≡◌, ℕ, ◌<◌, Bool, true, false, not, refl}
use Rattle.unicode.specs.Binary.{is_default_ignorable_code_point}
use Rattle.unicode.proofs.BinaryLemmas.{is_default_ignorable_code_point_stepped}
use Rattle.unicode.proofs.DerivedComputing.{ucd_derived}
use Rattle.unicode.proofs.Facts.{Stepped-below}

not_true : (b : Bool) → not b ≡ true → b ≡ false
not_true true h = absurd (cc)
not_true false h = refl

pub not_ignorable : (c : ℕ) → c < 128 → is_default_ignorable_code_point c ≡ false
unfolding ucd_derived
not_ignorable c low =
    not_true (is_default_ignorable_code_point c)
    (Stepped-below is_default_ignorable_code_point is_default_ignorable_code_point_stepped (λ _ b. not b) 128
    refl c low)
