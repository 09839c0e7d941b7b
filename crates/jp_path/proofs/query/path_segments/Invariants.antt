use Rattle.std.proofs.Common.{◌≡◌, ◌++◌, drop, map}
use Rattle.jp_doc.specs.Location.{step_of}
use Rattle.jp_tree.specs.PartViews.{segments_of}
use Rattle.jp_path.specs.PathQuery.{step_segment, AreSteps}
use Rattle.jp_path.proofs.query.path_segments.Given as goal

abbrev pub invariant-loop-step : goal.invariant-loop-step
invariant-loop-step l = record {
  rest : segments_of l.segments.items ++ map step_segment (map step_of (drop l.step-index l.step-items))
      ≡ map step_segment (map step_of l.step-items);
  steps : AreSteps (map step_of (drop l.step-index l.step-items)) → AreSteps (map step_of l.step-items);
}
