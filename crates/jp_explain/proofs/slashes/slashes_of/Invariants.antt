use Rattle.std.proofs.Common.{◌≡◌}
use Rattle.jp_explain.specs.Slashes.{slashes_from}
use Rattle.jp_explain.specs.declared.slashes.Slashes.TheVariants.{Start}
use Rattle.jp_explain.proofs.slashes.slashes_of.Given as goal

abbrev pub invariant-loop-c : goal.invariant-loop-c
invariant-loop-c l = l.slashes ≡ slashes_from Start l.yielded
