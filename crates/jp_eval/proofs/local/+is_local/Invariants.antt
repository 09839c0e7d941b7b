use Rattle.std.proofs.Common.{◌+◌, ◌*◌}
use denote.Param.Weighed.{most}
use Rattle.jp_compiled.specs.declared.query.CompiledLogical.{size-CompiledLogical}
use Rattle.jp_eval.proofs.local.+is_local.Given as goal

-- the size of the expressions, then the rank of the function
abbrev pub decreases-is_local : goal.decreases-is_local
decreases-is_local l = 2 * size-CompiledLogical l.test.now

abbrev pub decreases-are_local : goal.decreases-are_local
decreases-are_local l = 2 * most size-CompiledLogical l.parts.now + 1
