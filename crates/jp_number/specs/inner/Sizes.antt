-- What a size says of a number.
use Rattle.std.specs.Prelude.{◌≡◌, ℕ, ◌+◌, ◌*◌, ◌^◌, ◌<◌, ◌≤◌, Bool, List, ◌++◌, length}
use Rattle.std.specs.Str.Parse.{digits_value, AllDigits}
use Rattle.fast_float.specs.Text.{Parts, tens_up, tens_down, with_sign}
use Rattle.jp_number.specs.Number.{Number, top, bottom}
use Rattle.jp_number.specs.declared.size.Size.{Size}
use Rattle.jp_number.specs.inner.Front.{digit, front}

abbrev pub digits : Size → List ℕ
digits s = s.whole.now ++ s.fraction.now

-- so many digits are 0, and the next one, if there is one, is not
pub record IsLead (ds : List ℕ) (zeros : ℕ) : Type 0 where
  pub within : zeros ≤ length ds
  pub none : front ds zeros ≡ 0
  pub some : zeros < length ds → 0 < digit ds zeros

pub record IsSize (s : Size) : Type 0 where
  pub all : AllDigits 10 (digits s)
  pub lead : IsLead (digits s) s.zeros
  pub few : length (digits s) ≤ 1000
  pub up : s.up < 10 ^ 9
  pub down : s.down < 1000 + 10 ^ 9

-- the size of a numeral that is cut into these parts
pub record IsSizeOfParts (p : Parts) (s : Size) : Type 0 where
  pub is_size : IsSize s
  pub digits : digits s ≡ p.whole ++ p.fraction
  pub up : s.up ≡ tens_up p
  pub down : s.down ≡ tens_down p

-- a sign and a size make the value of the number
pub record IsSizeOf (n : Number) (negative : Bool) (s : Size) : Type 0 where
  pub top : top n ≡ with_sign negative (digits_value 10 (digits s) * 10 ^ s.up)
  pub bottom : bottom n ≡ 10 ^ s.down

-- as much of the size as the other's bottom makes of it
abbrev pub crossed : Size → Size → ℕ
crossed s t = digits_value 10 (digits s) * 10 ^ (s.up + t.down)
