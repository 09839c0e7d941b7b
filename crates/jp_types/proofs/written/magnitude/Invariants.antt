use Rattle.std.proofs.Common.{◌≡◌, ◌<◌, ◌^◌, length, drop}
use Rattle.std.specs.Str.{chars}
use Rattle.jp_types.specs.Numbers.{magnitude, digits_from}
use Rattle.jp_types.proofs.written.magnitude.Given as goal

abbrev pub invariant-loop-c : goal.invariant-loop-c
invariant-loop-c l =
    (digits_from l.number (drop (length l.yielded) (chars l.text)) ≡ magnitude (chars l.text))
    × (l.number < 2 ^ 127)
