-- The limits of numbers as a test.
use Rattle.std.proofs.Common.{◌≡◌, ◌≤◌, nat_le, Bool, true, false, ◌&&◌, refl}
use Rattle.std.proofs.lemmas.Bool.{leb-true, le-leb, and_parts}
use Rattle.std.specs.Prelude.{IsTrue, ◌↔◌, length, ◌+◌}
use Rattle.fast_float.specs.Text.{Parts}
use Rattle.jp_number.specs.Number.{Number, whole, written, parts, max_digits, max_exponent, HasFewDigits}
use Rattle.jp_number.specs.Number.{IsShort, are_few, is_short}

joint : (a b : Bool) → a ≡ true → b ≡ true → (a && b) ≡ true
joint true b g h = h
joint false b g h = g

few_by_test : (p : Parts) → are_few p ≡ true → HasFewDigits p
few_by_test p h =
    let both = and_parts (nat_le (length p.whole + length p.fraction + length p.exponent) max_digits)
    (nat_le (length p.exponent) max_exponent) h in
    record { all = leb-true _ max_digits both.0; exponent = leb-true _ max_exponent both.1 }

test_of_few : (p : Parts) → HasFewDigits p → are_few p ≡ true
test_of_few p h = joint _ _ (le-leb _ max_digits h.all) (le-leb _ max_exponent h.exponent)

pub short_by_test : (n : Number) → IsTrue (is_short n) ↔ IsShort n
short_by_test (whole z) = (λ h. tt, λ h. refl)
short_by_test (written s) = (few_by_test (parts s), test_of_few (parts s))
