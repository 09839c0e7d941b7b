use Rattle.std.proofs.Common.{◌≡◌, ◌++◌, length}
use Rattle.std.specs.List.{flat_map}
use Rattle.jp_output.specs.UnquotedText.{unquoted_byte}
use Rattle.jp_output.proofs.unquoted_text.append_text.Given as goal

abbrev pub invariant-loop-byte : goal.invariant-loop-byte
invariant-loop-byte l =
    l.out.items ++ flat_map unquoted_byte l.rest
    ≡ l.initial.out.items ++ flat_map unquoted_byte l.initial.rest

abbrev pub decreases-loop-byte : goal.decreases-loop-byte
decreases-loop-byte l = length l.rest
