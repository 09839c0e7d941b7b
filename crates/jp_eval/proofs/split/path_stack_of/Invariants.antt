use Rattle.std.proofs.Common.{◌≡◌, ◌++◌, drop}
use Rattle.jp_eval.proofs.split.path_stack_of.Given as goal

abbrev pub invariant-loop-link : goal.invariant-loop-link
invariant-loop-link l = l.path_stack ++ drop l.link-index l.links ≡ l.links
