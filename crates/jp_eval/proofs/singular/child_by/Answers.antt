use Rattle.std.proofs.Common.{rules, sym, ap, ◌∙◌}
use mir.Val.{SFits}
use Rattle.std.proofs.Common.{w64}
use Rattle.std.proofs.lemmas.Int.{to_z-of_z}
use Rattle.std.specs.Str.{chars}
use Rattle.jp_doc.specs.Location.{node, member_of}
use Rattle.jp_node.specs.Part.{part_value}
use Rattle.jp_node.specs.Nodes.{items_at}
use Rattle.jp_node.specs.Selected.{index_places}
use Rattle.jp_eval.specs.inner.Walk.{picked}
use Rattle.jp_eval.proofs.CompiledParts.{picked_name, picked_index}
use Rattle.jp_eval.proofs.OneNode.{one_child, same_one}
use Rattle.jp_eval.proofs.singular.child_by.Goals as goal

pub returns-in-Name : goal.returns-in-Name
returns-in-Name c = λ base at.
    let v = part_value c.args.value in
    one_child _ _ _ _
    (ap (λ x. picked base x (node at v)) c.in-Name.is ∙ picked_name base (node at v) c.in-Name.name)
    (c.member.ensures.value ∙ ap (λ k. member_of (chars k) v) c.as_str.ensures.value)

pub returns-in-Index : goal.returns-in-Index
returns-in-Index c = λ base at.
    let v = part_value c.args.value in
    let f : SFits w64 c.in-Index.index.value = search rules in
    let placed = simp to_z-of_z at (c.place_in.ensures at) in
    same_one _ _ _
    (ap (λ x. picked base x (node at v)) c.in-Index.is
    ∙ picked_index base (node at v) c.in-Index.index
    ∙ sym (placed ∙ ap (λ z. items_at (node at v) (index_places z v)) c.in-Index.index.read))
    (c.item_at.ensures at)
