use Rattle.std.proofs.Common.{sym, ap, ◌∙◌, option_to_list, w64, rules}
use mir.Val.{SFits}
use Rattle.std.proofs.lemmas.Int.{to_z-of_z}
use Rattle.jp_doc.specs.Location.{node}
use Rattle.jp_node.specs.Nodes.{items_at}
use Rattle.jp_node.specs.Part.{part_value}
use Rattle.jp_eval.proofs.WalkSteps.{none_at, one_at}
use Rattle.jp_eval.proofs.walk.item_child.Goals as goal

pub returns-clause-some : goal.returns-clause-some
returns-clause-some c = λ at.
    let n = node at (part_value c.args.value) in
    let f : SFits w64 c.args.index = search rules in
    let placed = simp to_z-of_z at (c.place_in.ensures at) in
    sym placed ∙ one_at n c.place_in.result c.in-Some.place _ c.in-Some.is c.in-Some-item.ensures.value

pub returns-in_default-clause-none : goal.returns-in_default-clause-none
returns-in_default-clause-none c = λ at.
    let f : SFits w64 c.args.index = search rules in
    let placed = simp to_z-of_z at (c.place_in.ensures at) in
    sym placed ∙ ap (λ o. items_at (node at (part_value c.args.value)) (option_to_list o)) c.in_default.is

pub returns-in_default-item-clause-none : goal.returns-in_default-item-clause-none
returns-in_default-item-clause-none c = λ at.
    let n = node at (part_value c.args.value) in
    let f : SFits w64 c.args.index = search rules in
    let placed = simp to_z-of_z at (c.place_in.ensures at) in
    sym placed ∙ none_at n c.place_in.result c.in-Some.place c.in-Some.is c.in_default-item.ensures.value
