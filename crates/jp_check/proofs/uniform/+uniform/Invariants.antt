use Rattle.std.proofs.Common.{take}
use Rattle.jp_check.specs.inner.Uniform.{AreUniform}
use Rattle.jp_check.proofs.uniform.+uniform.Given as goal

abbrev pub invariant-are_uniform-loop-part : goal.invariant-are_uniform-loop-part
invariant-are_uniform-loop-part l = AreUniform (take l.part-index l.parts)
