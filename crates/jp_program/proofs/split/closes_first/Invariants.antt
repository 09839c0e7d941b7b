use Rattle.std.proofs.Common.{◌≡◌, drop}
use Rattle.jp_program.specs.Split.{closes_first}
use Rattle.jp_program.proofs.split.closes_first.Given as goal

abbrev pub invariant-loop-byte : goal.invariant-loop-byte
invariant-loop-byte l = closes_first (drop l.byte-index l.name) ≡ closes_first l.name
