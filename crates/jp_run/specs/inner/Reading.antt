-- A working file, which nobody has to believe: what a read has brought, for private clauses alone.
use Rattle.std.specs.Prelude.{◌≡◌, ℕ, ◌+◌, ◌++◌, Bool, true, false, List, length, Option}
use Rattle.std.specs.Io.KnownBytes.{Consumes, IsAtEnd, Keeps}
use Rattle.jp_run.specs.Cutting.{fed, fed_lines}
use Rattle.jp_run.specs.declared.gathering.Came.{Came}
use Rattle.jp_run.specs.declared.gathering.Came.TheVariants.{More, End, Failure}
use Rattle.jp_run.specs.declared.stream.Stream.{Stream}

-- these bytes were read, and the lines that they complete wait behind those that had waited
pub record HasRead (old new : Option (List ℕ)) (before after : Stream) : Type 0 where
  pub piece : List ℕ
  pub consumed : Consumes old new piece
  pub cutting : after.buffer.cutting ≡ before.buffer.cutting
  pub progress : after.buffer.progress ≡ fed before.buffer.cutting before.buffer.progress piece
  pub lines : after.buffer.lines
      ≡ before.buffer.lines ++ fed_lines before.buffer.cutting before.buffer.progress piece
  pub come : after.come ≡ before.come + length piece
  pub answered : after.answered ≡ before.answered

-- a read came to bytes, to the end of the input, or to a failure, of which nothing has changed
abbrev pub HasCome : Bool → Option (List ℕ) → Option (List ℕ) → Stream → Stream → Came → Type 0
HasCome failed old new before after More = (failed ≡ false) × HasRead old new before after
HasCome failed old new before after End = (failed ≡ false) × HasRead old new before after × IsAtEnd new
HasCome failed old new before after Failure = (failed ≡ true) × Keeps old new
    × (after.buffer ≡ before.buffer) × (after.answered ≡ before.answered) × (after.come ≡ before.come)
