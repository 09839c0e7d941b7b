use Rattle.std.proofs.Common.{take}
use Rattle.std.specs.List.{All}
use Rattle.jp_program.specs.Wanted.{IsName}
use Rattle.jp_program.proofs.command_line.are_names.Given as goal

abbrev pub invariant-loop-name : goal.invariant-loop-name
invariant-loop-name l = All (λ name. IsName name.now) (take l.name-index l.names)
