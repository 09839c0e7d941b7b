-- A working file, which nobody has to believe: by what ranges are sorted. No public contract names it.
use Rattle.std.specs.Prelude.{ℕ}
use Rattle.jp_automaton.specs.declared.ranges.Span.{Span}

abbrev pub first_of : Span → ℕ
first_of s = s.low

abbrev pub last_of : Span → ℕ
last_of s = s.high
