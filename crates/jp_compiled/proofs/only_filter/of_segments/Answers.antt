use Rattle.std.proofs.Common.{◌≡◌, ◌≤◌, length, None, List, [], ◌∷◌, refl, arith}
use Rattle.jp_compiled.specs.Parts.{Wanted, segments_in}
use Rattle.jp_compiled.specs.declared.query.CompiledSegment.{CompiledSegment}
use Rattle.jp_compiled.specs.inner.OnlyFilter.{segments_filter}
use Rattle.jp_compiled.proofs.only_filter.of_segments.Goals as goal

two : (roots : List Wanted) (ss : List CompiledSegment) → 2 ≤ length ss
    → None ≡ segments_filter (segments_in roots ss)
two roots [] h = absurd (omega arith)
two roots (s ∷ []) h = absurd (omega arith)
two roots (s ∷ t ∷ ss) h = refl

pub returns-in-len2-up : goal.returns-in-len2-up
returns-in-len2-up c = λ roots.
    let h : 2 ≤ length c.args.segments.now = omega arith in
    two roots c.args.segments.now h
