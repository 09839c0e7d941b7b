use Rattle.std.proofs.Common.{◌≡◌, length}
use Rattle.jp_answer.proofs.ring.new_cells.Given as goal

abbrev pub invariant-loop-cell : goal.invariant-loop-cell
invariant-loop-cell g l = length l.cells.items ≡ l._cell
