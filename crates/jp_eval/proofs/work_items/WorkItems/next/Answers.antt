use Rattle.std.proofs.Common.{◌++◌, [], append_assoc, append-nil, sym, ap, ◌∙◌}
use Rattle.std.proofs.lemmas.List.{nil_from_length}
use Rattle.std.specs.List.{flat_map}
use Rattle.jp_doc.specs.Location.{node}
use Rattle.jp_node.specs.ChildNodes.{child_nodes}
use Rattle.jp_node.specs.Part.{part_value}
use Rattle.jp_eval.specs.inner.Along.{done_below}
use Rattle.jp_eval.specs.inner.Walk.{done, picked_by, reached}
use Rattle.jp_eval.specs.declared.walk.Action.TheVariants.{Descend}
use Rattle.jp_eval.proofs.WorkItems.{one_selector, no_selector}
use Rattle.jp_eval.proofs.work_items.WorkItems.next.Goals as goal

pub returns-in-Some-clause-nodes : goal.returns-in-Some-clause-nodes
returns-in-Some-clause-nodes c = λ base at.
    let n = node at (part_value c.args.self.value) in
    let rest = c.args.self.rest.now in
    let below = done_below base c.args.self.rest c.args.self.below n in
    ap (λ l. l ++ below) (one_selector base rest c.args.self.selectors.now c.in-Some.selectors.now
    c.in-Some.selector.now n _ c.in-Some.ensures.cases.0 (c.in_ok-work_item.ensures.nodes base at))
    ∙ append_assoc _ (reached base rest (picked_by base c.in-Some.selectors.now n)) below

pub returns-in_default-below-clause-nodes : goal.returns-in_default-below-clause-nodes
returns-in_default-below-clause-nodes c = λ base at.
    let n = node at (part_value c.args.self.value) in
    let none = nil_from_length c.args.self.selectors.now c.in_default.ensures.cases in
    no_selector base c.args.self.rest.now c.args.self.selectors.now n _ none
    ∙ ap (λ o. done_below base c.args.self.rest o n) c.in_default-below.is

pub returns-clause-nodes : goal.returns-clause-nodes
returns-clause-nodes c = λ base at.
    let n = node at (part_value c.args.self.value) in
    let none = nil_from_length c.args.self.selectors.now c.in_default.ensures.cases in
    let action = Descend c.in-Some-below.selectors c.args.self.rest in
    no_selector base c.args.self.rest.now c.args.self.selectors.now n _ none
    ∙ ap (λ o. done_below base c.args.self.rest o n) c.in-Some-below.is
    ∙ ap (flat_map (done base action)) (sym (c.in_ok-children_of.ensures.nodes at))
    ∙ sym (append-nil _)
    ∙ ap (λ l. flat_map (done base action) (child_nodes at c.in_ok-children_of.field-0) ++ l)
    (sym (no_selector base c.args.self.rest.now c.args.self.selectors.now n [] none))
