use Rattle.std.proofs.Common.{◌++◌, ◌∷◌, [], ◌-◌, ◌<◌, length, Some, ap, sym, ◌∙◌, append-nil, option_map}
use Rattle.std.proofs.Common.{refl, arith}
use Rattle.std.proofs.lemmas.Option.{slice_get-get_or, slice_get_past}
use Rattle.jp_doc.proofs.Below.{item_below}
use Rattle.jp_doc.specs.Height.{height}
use Rattle.jp_doc.specs.Location.{index}
use Rattle.jp_node.specs.Part.{part_value}
use Rattle.jp_node.proofs.Lists.{of_child}
use Rattle.jp_node.specs.ChildNodes.{listed_nodes}
use Rattle.jp_node.specs.Nodes.{node_if_some}
use Rattle.jp_node.proofs.Gathered.{gathered_height, one_more}
use Rattle.jp_node.proofs.slices.add_item.Goals as goal

pub returns-in_ok-push-clause-nodes : goal.returns-in_ok-push-clause-nodes
returns-in_ok-push-clause-nodes c = λ v is at.
    let k = c.args.place - c.args.lowest in
    let lt : k < length c.args.items.now = c.in-Some.ensures.lookup.3.0 in
    let some = ap (option_map part_value) (ap Some c.in-Some.ensures.lookup.1
    ∙ sym (slice_get-get_or c.args.items.now k c.in-Some.part.now lt)) ∙ is in
    one_more at c.args.children.now.items c.push.new.self.items _ _ c.in_ok-push.ensures.items refl
    ∙ ap (λ o. listed_nodes at c.args.children.now.items ++ node_if_some (at ++ index c.args.place ∷ []) o)
    some

pub returns-in_ok-push-clause-height : goal.returns-in_ok-push-clause-height
returns-in_ok-push-clause-height c = λ v is.
    let k = c.args.place - c.args.lowest in
    let lt : k < length c.args.items.now = c.in-Some.ensures.lookup.3.0 in
    let some = ap (option_map part_value) (ap Some c.in-Some.ensures.lookup.1
    ∙ sym (slice_get-get_or c.args.items.now k c.in-Some.part.now lt)) ∙ is in
    let below = of_child _ (part_value c.in-Some.part.now) (height v) some (item_below c.args.place v) in
    gathered_height c.args.children.now.items c.push.new.self.items _ _ c.in_ok-push.ensures.items
    (omega arith) (omega (arith, below))

pub returns-in_default-clause-nodes : goal.returns-in_default-clause-nodes
returns-in_default-clause-nodes c = λ v is at.
    let k = c.args.place - c.args.lowest in
    let none = ap (option_map part_value) (sym (slice_get_past c.args.items.now k
    c.in_default.ensures.lookup.3)) ∙ is in
    sym (ap (λ o. listed_nodes at c.args.children.now.items ++ node_if_some (at ++ index c.args.place ∷ []) o)
    (sym none) ∙ append-nil (listed_nodes at c.args.children.now.items))
