use Rattle.std.proofs.Common.{◌≡◌, false}
use Rattle.std.specs.Char.{is_control}
use Rattle.std.specs.List.{All}
use Rattle.jp_program.proofs.command_line.is_name.Given as goal

abbrev pub invariant-loop-c : goal.invariant-loop-c
invariant-loop-c l = All (λ c. is_control c ≡ false) l.yielded
