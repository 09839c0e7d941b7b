use Rattle.std.proofs.Common.{◌≡◌, ◌++◌, drop}
use Rattle.std.specs.List.{flat_map}
use Rattle.jp_node.specs.Appended.{Extends}
use Rattle.jp_node.specs.Path.{escaped}
use Rattle.jp_node.proofs.step.append_escaped.Given as goal

abbrev pub invariant-loop-byte : goal.invariant-loop-byte
invariant-loop-byte l = record {
  rest : l.out.items ++ flat_map escaped (drop l.byte-index l.byte-items) ≡ l.initial.out.items ++ flat_map
      escaped l.name;
  kept : Extends l.initial.out.items l.out.items;
}
