use Rattle.std.proofs.Common.{◌≡◌, true, take}
use Rattle.std.specs.List.{list_all}
use Rattle.jp_line_scan.specs.NumberBytes.{is_of_number}
use Rattle.jp_line_scan.proofs.not_whole.number_length.Given as goal

abbrev pub invariant-loop-byte : goal.invariant-loop-byte
invariant-loop-byte l = (l.length ≡ l.byte-index) × (list_all is_of_number (take l.length l.bytes) ≡ true)
