use Rattle.std.proofs.Common.{◌≡◌, drop, map}
use Rattle.jp_node.specs.Part.{part_value}
use Rattle.jp_output.specs.Rows.{field_value, step_of}
use Rattle.jp_output.proofs.field.Field.value_in.Given as goal

-- what is left of the steps leads from the last value where all of them lead from the first
abbrev pub invariant-loop-step : goal.invariant-loop-step
invariant-loop-step l = field_value (map step_of l.self.steps.items) (part_value l.value)
    ≡ field_value (map step_of (drop l.step-index l.self.steps.items)) (part_value l.last)
