use denote.Text.{Utf8}
use denote.Shadow.{shadow}
use Rattle.jp_line_scan.proofs.written_name.is_written_for.Given as goal

abbrev pub invariant-loop-c : goal.invariant-loop-c
invariant-loop-c l = shadow (Utf8 l.rest)
