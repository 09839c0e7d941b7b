-- What is printed where the words ask for a literal.
use Rattle.std.specs.Prelude.{◌≡◌, ℕ, ◌⊎◌, Bool, true, false, List, ◌++◌, Option, codes, encode_utf8_all}
use Rattle.std.specs.Io.KnownBytes.{Appends, Keeps}
use Rattle.std.specs.Str.{chars}
use Rattle.clap.specs.Walk.{Text}
use Rattle.jp_quote.specs.Quoted.{quoted_text}
use Rattle.jp_run.specs.Written.{AppendsFront}

-- the bytes of the literal whose value is this text, and a line feed
abbrev pub literal_line : Text → List ℕ
literal_line value = encode_utf8_all (quoted_text (chars value)) ++ codes "\n"

-- by the status the literal was written and passed on; or the sink has failed, and a front of it was written;
-- or memory was refused, and nothing was written
abbrev pub IsPrinted : Text → ℕ → Option (List ℕ) → Option (List ℕ) → Bool → Bool → Type 0
IsPrinted value status old new flushed failed =
    ((status ≡ 0) × Appends old new (literal_line value) × (flushed ≡ true) × (failed ≡ false))
    ⊎ ((status ≡ 4) × AppendsFront old new (literal_line value) × (failed ≡ true))
    ⊎ ((status ≡ 5) × Keeps old new)
