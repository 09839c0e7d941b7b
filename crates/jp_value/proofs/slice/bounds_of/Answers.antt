use Rattle.std.proofs.Common.{ap, ap₂, sym, subst, option_map, ◌∙◌}
use Rattle.jp_compiled.specs.Parts.{position_text}
use Rattle.jp_value.specs.Literals.{written_value}
use Rattle.jp_node.specs.Places.{AreWithin}
use Rattle.jp_node.specs.Slice.{slice_bounds}
use Rattle.jp_node.proofs.BoundsWithin.{are_within}
use Rattle.jp_value.proofs.slice.bounds_of.Goals as goal

pub returns-clause-within : goal.returns-clause-within
returns-clause-within c =
    subst (λ b. AreWithin b c.args.len) (sym c.slice_bounds.ensures)
    (are_within c.written-first.result c.written-past.result c.written-step.result c.args.len
    c.written-step.ensures.within)

pub returns-clause-bounds : goal.returns-clause-bounds
returns-clause-bounds c =
    let s = c.args.slice.now in
    c.slice_bounds.ensures
    ∙ ap₂ (λ f p. slice_bounds f p c.written-step.result c.args.len) c.written-first.ensures.value
    c.written-past.ensures.value
    ∙ ap (λ t. slice_bounds (written_value (option_map position_text s.first))
    (written_value (option_map position_text s.past)) t c.args.len) c.written-step.ensures.value
