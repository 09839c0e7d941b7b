use denote.Text.{Utf8}
use denote.Shadow.{shadow}
use Rattle.jp_line_scan.proofs.written_name.first_unit.Given as goal

abbrev pub invariant-loop-digit : goal.invariant-loop-digit
invariant-loop-digit l = shadow (Utf8 l.rest)
