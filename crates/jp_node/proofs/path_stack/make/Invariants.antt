use Rattle.std.proofs.Common.{◌≡◌, length}
use Rattle.jp_node.specs.inner.Made.{IsMade}
use Rattle.jp_node.proofs.path_stack.make.Given as goal

abbrev pub invariant-loop-place : goal.invariant-loop-place
invariant-loop-place l = record {
  made : IsMade l.links l.text.items l.starts.items;
  count : length l.starts.items ≡ l.place;
}
