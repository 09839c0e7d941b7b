use Rattle.std.proofs.Common.{◌≡◌, ◌++◌, drop}
use Rattle.std.specs.Str.{IsUtf8}
use Rattle.jp_node.specs.Appended.{Extends}
use Rattle.jp_output.proofs.PathBytes.{steps_bytes}
use Rattle.jp_output.proofs.path.append_path.Given as goal

abbrev pub invariant-loop-step : goal.invariant-loop-step
invariant-loop-step l = record {
  rest : l.out.items ++ steps_bytes (drop l.step-index l.step-items) ≡ l.initial.out.items ++ steps_bytes
      l.step-items;
  text : IsUtf8 l.initial.out.items → IsUtf8 l.out.items;
  kept : Extends l.initial.out.items l.out.items;
}
