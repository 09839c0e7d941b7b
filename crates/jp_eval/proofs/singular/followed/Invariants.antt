use Rattle.std.proofs.Common.{◌≡◌, [], ◌∷◌, drop}
use Rattle.jp_doc.specs.Location.{Location, node}
use Rattle.jp_node.specs.Part.{part_value}
use Rattle.jp_eval.specs.inner.Base.{Base}
use Rattle.jp_eval.specs.inner.Walk.{reached}
use Rattle.jp_eval.proofs.singular.followed.Given as goal

-- what is left of the segments finds at the last value what all of them find at the first
abbrev pub invariant-loop-segment : goal.invariant-loop-segment
invariant-loop-segment l = (base : Base) (at : Location) → (there : Location)
    × (reached base l.segments (node at (part_value l.value) ∷ [])
    ≡ reached base (drop l.segment-index l.segments) (node there (part_value l.last) ∷ []))
