use Rattle.std.proofs.Common.{◌≡◌, ◌++◌, drop, map}
use Rattle.jp_output.specs.Rows.{step_of}
use Rattle.jp_output.proofs.field.Field.copy.Given as goal

-- with the steps that are left there are all of them
abbrev pub invariant-loop-step : goal.invariant-loop-step
invariant-loop-step l = map step_of l.steps.items ++ map step_of (drop l.step-index l.self.steps.items)
    ≡ map step_of l.self.steps.items
