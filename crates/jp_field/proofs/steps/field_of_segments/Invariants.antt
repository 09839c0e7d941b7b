use Rattle.std.proofs.Common.{◌≡◌, List, drop}
use Rattle.jp_compiled.specs.Parts.{Wanted, segments_in}
use Rattle.jp_field.specs.FieldText.{path_in}
use Rattle.jp_field.proofs.Segments.{path_behind}
use Rattle.jp_field.proofs.steps.field_of_segments.Given as goal

-- the steps so far, and those of the segments that are left, are those of all
abbrev pub invariant-loop-segment : goal.invariant-loop-segment
invariant-loop-segment l = (roots : List Wanted) → path_in (segments_in roots l.segments)
    ≡ path_behind l.steps.items (path_in (segments_in roots (drop l.segment-index l.segments)))
