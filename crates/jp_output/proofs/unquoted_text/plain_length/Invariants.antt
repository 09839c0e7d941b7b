use Rattle.std.proofs.Common.{◌≡◌, take}
use Rattle.std.specs.List.{flat_map}
use Rattle.jp_output.specs.UnquotedText.{unquoted_byte}
use Rattle.jp_output.proofs.unquoted_text.plain_length.Given as goal

abbrev pub invariant-loop-i : goal.invariant-loop-i
invariant-loop-i l = flat_map unquoted_byte (take l.i l.bytes) ≡ take l.i l.bytes
