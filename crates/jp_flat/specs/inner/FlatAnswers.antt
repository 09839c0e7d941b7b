-- What the flat reading of a line may say of it: a working file, which nobody has to believe.
use Rattle.std.specs.Prelude.{◌≡◌, ◌≢◌, ℕ, List, Option, Some, None, Err, unwrap_or}
use Rattle.jp_doc.specs.Reading.{reading}
use Rattle.jp_doc.specs.ReadingIn.{reading_in}
use Rattle.jp_doc.specs.declared.fault.DocFault.{DocFault}
use Rattle.jp_doc.specs.declared.fault.DocFault.TheVariants.{LongNumber, Memory}
use Rattle.jp_flat.specs.inner.Filled.{IsFilled}
use Rattle.jp_flat.specs.declared.lines.FlatAnswer.{FlatAnswer}
use Rattle.jp_flat.specs.declared.lines.FlatAnswer.TheVariants.{Filled, Faulty, Open}
use Rattle.jp_flat.specs.declared.lines.Room.{Room}
use Rattle.jp_number.specs.declared.numbers.Numbers.{Numbers}

abbrev pub IsFlatAnswer : FlatAnswer → Numbers → List ℕ → Room → Type 0
IsFlatAnswer (Filled texts) n line room = IsFilled (reading_in n line) texts line room
IsFlatAnswer (Faulty f) n line room = (reading_in n line ≡ Err f) × (f ≢ Memory)
IsFlatAnswer (Open o) n line room =
    ((g : DocFault) → reading line ≡ Err g → reading_in n line ≡ Err (unwrap_or o g)) × (o ≢ Some Memory)

-- what a pass over nodes that are not plain says
abbrev pub told : Option DocFault → FlatAnswer
told None = Open None
told (Some f) = Faulty f

-- what it says where numbers need not be whole, and one of them is over the limits
abbrev pub told_over : Option DocFault → FlatAnswer
told_over None = Open (Some LongNumber)
told_over (Some f) = Faulty LongNumber
