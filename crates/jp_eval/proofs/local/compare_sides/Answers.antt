use Rattle.std.proofs.Common.{sym, ap₂, ◌∙◌}
use Rattle.jp_doc.specs.Location.{node}
use Rattle.jp_node.specs.Part.{part_value}
use Rattle.jp_value.specs.Comparison.{compared}
use Rattle.jp_eval.proofs.local.compare_sides.Goals as goal

pub returns-in-Some : goal.returns-in-Some
returns-in-Some c = λ at. c.in_ok-compare_ordered.ensures
    ∙ ap₂ (compared c.args.operator) (c.in-Some-side.ensures at)
    (sym (c.in-Some.ensures (node at (part_value c.args.value))))

pub returns-in-Some-ordered : goal.returns-in-Some-ordered
returns-in-Some-ordered c = λ at. c.in_ok-compare_ordered-2.ensures ∙ c.turned.ensures _ _
    ∙ ap₂ (compared c.args.operator) (sym (c.in-Some-ordered.ensures (node at (part_value c.args.value))))
    (c.in-Some-side-2.ensures at)

pub returns : goal.returns
returns c = λ at. c.in_ok-compare_kinds.ensures
    ∙ ap₂ (compared c.args.operator) (c.in-Some-side-3.ensures at) (c.in-Some-side-4.ensures at)
