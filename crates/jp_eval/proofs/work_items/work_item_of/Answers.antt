use Rattle.std.proofs.Common.{ap, ◌∙◌, option_map, w64, rules}
use mir.Val.{SFits}
use Rattle.std.proofs.lemmas.Int.{to_z-of_z}
use Rattle.std.specs.Str.{chars}
use Rattle.jp_doc.specs.Location.{node, name}
use Rattle.jp_compiled.specs.Parts.{position_text}
use Rattle.jp_node.specs.BoundsView.{bounds_value}
use Rattle.jp_node.specs.Nodes.{child, items_at}
use Rattle.jp_value.specs.Literals.{written_value}
use Rattle.jp_node.specs.Part.{part_value}
use Rattle.jp_eval.specs.inner.Walk.{picked, is_true}
use Rattle.jp_node.proofs.Places.{slice_found}
use Rattle.jp_node.specs.Selected.{index_places}
use Rattle.jp_eval.proofs.CompiledParts.{picked_name, picked_wild, picked_index, picked_slice, picked_filter}
use Rattle.jp_eval.proofs.WorkItems.{run_along, test_along}
use Rattle.jp_eval.proofs.work_items.work_item_of.Goals as goal

pub returns-in_ok-named-in-Name-clause-nodes : goal.returns-in_ok-named-in-Name-clause-nodes
returns-in_ok-named-in-Name-clause-nodes c = λ base at.
    let n = node at (part_value c.args.value) in
    run_along base c.args.rest.now c.args.selector.now n _ _
    (c.in_ok-named-in-Name.ensures.nodes at ∙ ap (λ k. child (name (chars k)) n) c.as_str.ensures.value)
    (ap (λ x. picked base x n) c.in-Name.is ∙ picked_name base n c.in-Name.name)

pub returns-in_ok-children-in-Wild-clause-nodes : goal.returns-in_ok-children-in-Wild-clause-nodes
returns-in_ok-children-in-Wild-clause-nodes c = λ base at.
    let n = node at (part_value c.args.value) in
    run_along base c.args.rest.now c.args.selector.now n _ _ (c.in_ok-children-in-Wild.ensures.nodes at)
    (ap (λ x. picked base x n) c.in-Wild.is ∙ picked_wild base n)

pub returns-in_ok-placed-in-Index-clause-nodes : goal.returns-in_ok-placed-in-Index-clause-nodes
returns-in_ok-placed-in-Index-clause-nodes c = λ base at.
    let n = node at (part_value c.args.value) in
    let f : SFits w64 c.in-Index.index.value = search rules in
    let placed = simp to_z-of_z at (c.place_in-place.ensures at) in
    run_along base c.args.rest.now c.args.selector.now n _ _
    (c.in_ok-placed-in-Index.ensures.nodes at ∙ placed
    ∙ ap (λ z. items_at n (index_places z (part_value c.args.value))) c.in-Index.index.read)
    (ap (λ x. picked base x n) c.in-Index.is ∙ picked_index base n c.in-Index.index)

pub returns-in_ok-sliced-in-Slice-clause-nodes : goal.returns-in_ok-sliced-in-Slice-clause-nodes
returns-in_ok-sliced-in-Slice-clause-nodes c = λ base at.
    let n = node at (part_value c.args.value) in
    run_along base c.args.rest.now c.args.selector.now n _ _
    (c.in_ok-sliced-in-Slice.ensures.nodes at ∙ ap (items_at n)
    (slice_found (part_value c.args.value)
    (written_value (option_map position_text c.in-Slice.slice.first))
    (written_value (option_map position_text c.in-Slice.slice.past))
    (written_value (option_map position_text c.in-Slice.slice.step)) c.item_count.result
    (bounds_value c.bounds_of.result) c.item_count.ensures.count c.bounds_of.ensures.bounds))
    (ap (λ x. picked base x n) c.in-Slice.is ∙ picked_slice base n c.in-Slice.slice)

pub returns-in_ok-children-in-Filter-clause-nodes : goal.returns-in_ok-children-in-Filter-clause-nodes
returns-in_ok-children-in-Filter-clause-nodes c = λ base at.
    let n = node at (part_value c.args.value) in
    test_along base c.args.rest.now c.args.selector.now n (is_true base c.in-Filter.test) _ _
    (c.in_ok-children-in-Filter.ensures.nodes at)
    (ap (λ x. picked base x n) c.in-Filter.is ∙ picked_filter base n c.in-Filter.test)
