use Rattle.std.proofs.Common.{rules}
use Rattle.jp_pattern.proofs.sets.in_element.Goals as goal

pub returns-then-low-c : goal.returns-then-low-c
returns-then-low-c c = search rules
