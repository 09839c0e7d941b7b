use Rattle.std.proofs.Common.{◌≡◌, ◌<◌, [], ◌∷◌, ◌++◌, length, not, true, false}
use Rattle.std.proofs.Common.{w64, Some, None, is_some, option_map, arith}
use Rattle.std.proofs.Common.{sym, ap, ap₂, ◌∙◌}
use Rattle.std.proofs.Common.{rules}
use mir.Val.{SFits}
use Rattle.std.proofs.lemmas.Int.{to_z-of_z}
use Rattle.std.proofs.lemmas.List.{nil_from_length, at_drop_all}
use Rattle.std.proofs.lemmas.Result.{IfOk-weaker, on_ok_weaker}
use Rattle.std.specs.List.{flat_map, list_any, list_all}
use Rattle.std.specs.Str.{chars}
use Rattle.jp_doc.specs.Height.{height}
use Rattle.jp_doc.specs.Json.{text}
use Rattle.jp_doc.specs.Location.{node, name, member_of}
use Rattle.jp_tree.specs.View.{text_of}
use Rattle.jp_compiled.specs.Parts.{position_text, wanted_inside}
use Rattle.jp_compiled.specs.declared.query.Want.TheVariants as want
use Rattle.jp_found.specs.Aggregates.{tells}
use Rattle.jp_eval.specs.inner.Base.{base_of}
use Rattle.jp_node.specs.BoundsView.{bounds_value}
use Rattle.jp_value.specs.Comparison.{compared}
use Rattle.jp_value.specs.Functions.{tested, length_value}
use Rattle.jp_value.specs.Functions.{exactly_one}
use Rattle.jp_node.specs.ChildNodes.{listed_nodes, child_node, structured_nodes}
use Rattle.jp_node.specs.ChildRanges.{range_nodes}
use Rattle.jp_node.specs.Nodes.{children, descendants, items_at, node_if_some}
use Rattle.jp_value.specs.Literals.{written_value}
use Rattle.jp_found.specs.Kept.{kept, put_found, plus}
use Rattle.jp_found.specs.Links.{here}
use Rattle.jp_node.specs.Links.{link_steps}
use Rattle.jp_node.specs.Part.{part_value}
use Rattle.jp_value.specs.RightTests.{tests}
use Rattle.jp_eval.specs.inner.Walk.{picked, picked_by, reached, is_true, value_given, nodes_given, done}
use Rattle.jp_eval.specs.inner.Walk.{sifted}
use Rattle.jp_eval.proofs.Chains.{reached-none, reached-end, reached-each, reached-plain}
use Rattle.jp_eval.proofs.Chains.{reached-deep}
use Rattle.jp_eval.proofs.Gathered.{child_node_done}
use Rattle.jp_found.proofs.Keeping.{plus-one, ended, nothing_found, full_enough, not_taken}
use Rattle.jp_eval.proofs.CompiledParts.{picked_name, picked_wild, picked_index, picked_slice}
use Rattle.jp_eval.proofs.CompiledParts.{true_any, true_all, true_not, true_compare, true_test, true_match}
use Rattle.jp_eval.proofs.CompiledParts.{true_search, true_match_known, true_search_known, given_constant}
use Rattle.jp_eval.proofs.CompiledParts.{given_single, given_length, given_count, given_only, nodes_here}
use Rattle.jp_eval.proofs.CompiledParts.{nodes_root, nodes_distinct, true_xor, true_once}
use Rattle.jp_node.proofs.Places.{slice_found}
use Rattle.jp_eval.proofs.Uniformity.{true_along, false_along, kept_each}
use Rattle.jp_node.specs.Selected.{index_places}
use Rattle.jp_eval.proofs.WalkSteps.{back_up, here_further, link_further, over, applied, descended}
use Rattle.jp_eval.proofs.WalkSteps.{descended_structured}
use Rattle.jp_eval.proofs.WalkSteps.{any_further, any_found, all_further, all_found}
use Rattle.jp_eval.proofs.WalkSteps.{sifted_in, sifted_out}
use Rattle.jp_eval.proofs.Deciding.{some_of}
use Rattle.jp_eval.proofs.walk.+walk.Goals as goal

pub apply-loop-selector-preserved : goal.apply-loop-selector-preserved
apply-loop-selector-preserved g t c =
    let base = base_of c.args.context.now in
    let put = put_found g.V.Visit.put in
    let h : c.loop-selector.selector-index < length c.args.selectors.now = omega arith in
    rw c.in_ok-select.ensures.path (
      c.loop-selector.invariant.0,
      applied put base
          c.args.selectors.now c.loop-selector.selector-index c.selector-item.result c.args.rest.now
          (here c.loop-selector.path c.args.opened.value) _ _ _ _ h c.selector-item.is
          c.in_ok-select.ensures.found
          c.loop-selector.invariant.1,
    )

pub apply-returns-clause-found : goal.apply-returns-clause-found
apply-returns-clause-found g t c =
    let base = base_of c.args.context.now in
    let put = put_found g.V.Visit.put in
    over put (λ xs. reached base c.args.rest.now
    (picked_by base xs (here c.loop-selector.path c.args.opened.value)))
    c.args.selectors.now c.loop-selector.selector-index _ _ _ (omega arith)
    (reached-none base c.args.rest.now) c.loop-selector.invariant.1

pub each_member-loop-child-preserved : goal.each_member-loop-child-preserved
each_member-loop-child-preserved g t c =
    let base = base_of c.args.context.now in
    let put = put_found g.V.Visit.put in
    rw c.in_ok-at_child.ensures.path (
      c.loop-child.invariant.0,
      omega (arith, c.in-Some.ensures.height, c.loop-child.invariant.1),
      child_node_done put (done base c.args.action) _ _ _ _ _ _ _
          (c.in-Some.ensures.nodes (link_steps c.loop-child.path)) c.in_ok-at_child.ensures.found
          c.loop-child.invariant.2,
    )

pub each_member-returns-then-is_full-clause-found : goal.each_member-returns-then-is_full-clause-found
each_member-returns-then-is_full-clause-found g t c =
    let put = put_found g.V.Visit.put in
    full_enough put _ _ _ _ (c.is_full.ensures c.if-is_full.true) c.loop-child.invariant.2

pub each_member-returns-clause-found : goal.each_member-returns-clause-found
each_member-returns-clause-found g t c =
    let base = base_of c.args.context.now in
    let put = put_found g.V.Visit.put in
    ended put _ _ _ (ap (λ ns. plus put (kept g.V.Visit.kept c.loop-child.found)
    (flat_map (done base c.args.action) ns))
    (sym (c.in_default.ensures.nodes (link_steps c.loop-child.path))) ∙ c.loop-child.invariant.2)

pub each_item-loop-child-preserved : goal.each_item-loop-child-preserved
each_item-loop-child-preserved g t c =
    let base = base_of c.args.context.now in
    let put = put_found g.V.Visit.put in
    rw c.in_ok-at_child.ensures.path (
      c.loop-child.invariant.0,
      omega (arith, c.in-Some.ensures.height, c.loop-child.invariant.1),
      child_node_done put (done base c.args.action) _ _ _ _ _ _ _
          (c.in-Some.ensures.nodes (link_steps c.loop-child.path)) c.in_ok-at_child.ensures.found
          c.loop-child.invariant.2,
    )

pub each_item-returns-then-is_full-clause-found : goal.each_item-returns-then-is_full-clause-found
each_item-returns-then-is_full-clause-found g t c =
    let put = put_found g.V.Visit.put in
    full_enough put _ _ _ _ (c.is_full.ensures c.if-is_full.true) c.loop-child.invariant.2

pub each_item-returns-clause-found : goal.each_item-returns-clause-found
each_item-returns-clause-found g t c =
    let base = base_of c.args.context.now in
    let put = put_found g.V.Visit.put in
    ended put _ _ _ (ap (λ ns. plus put (kept g.V.Visit.kept c.loop-child.found)
    (flat_map (done base c.args.action) ns))
    (sym (c.in_default.ensures.nodes (link_steps c.loop-child.path))) ∙ c.loop-child.invariant.2)

pub each_in-loop-child-preserved : goal.each_in-loop-child-preserved
each_in-loop-child-preserved g t c =
    let base = base_of c.args.context.now in
    let put = put_found g.V.Visit.put in
    rw c.in_ok-at_child.ensures.path (
      c.loop-child.invariant.0,
      omega (arith, c.in-Some.ensures.height, c.loop-child.invariant.1),
      child_node_done put (done base c.args.action) _ _ _ _ _ _ _
          (c.in-Some.ensures.nodes (link_steps c.loop-child.path)) c.in_ok-at_child.ensures.found
          c.loop-child.invariant.2,
    )

pub each_in-returns-then-is_full-clause-found : goal.each_in-returns-then-is_full-clause-found
each_in-returns-then-is_full-clause-found g t c =
    let put = put_found g.V.Visit.put in
    full_enough put _ _ _ _ (c.is_full.ensures c.if-is_full.true) c.loop-child.invariant.2

pub each_in-returns-clause-found : goal.each_in-returns-clause-found
each_in-returns-clause-found g t c =
    let base = base_of c.args.context.now in
    let put = put_found g.V.Visit.put in
    ended put _ _ _ (ap (λ ns. plus put (kept g.V.Visit.kept c.loop-child.found)
    (flat_map (done base c.args.action) ns))
    (sym (c.in_default.ensures.nodes (link_steps c.loop-child.path))) ∙ c.loop-child.invariant.2)

pub sift-loop-child-preserved : goal.sift-loop-child-preserved
sift-loop-child-preserved g t c =
    let base = base_of c.args.context.now in
    let put = put_found g.V.Visit.put in
    rw c.in_ok-at_sifted.ensures.path (
      c.loop-child.invariant.0,
      omega (arith, c.in-Some.ensures.height, c.loop-child.invariant.1),
      child_node_done put (sifted base c.args.test.now c.args.rest.now) _ _ _ _ _ _ _
          (c.in-Some.ensures.nodes (link_steps c.loop-child.path)) c.in_ok-at_sifted.ensures.found
          c.loop-child.invariant.2,
    )

pub sift-returns-then-is_full-clause-found : goal.sift-returns-then-is_full-clause-found
sift-returns-then-is_full-clause-found g t c =
    let put = put_found g.V.Visit.put in
    full_enough put _ _ _ _ (c.is_full.ensures c.if-is_full.true) c.loop-child.invariant.2

pub sift-returns-clause-found : goal.sift-returns-clause-found
sift-returns-clause-found g t c =
    let base = base_of c.args.context.now in
    let put = put_found g.V.Visit.put in
    ended put _ _ _ (ap (λ ns. plus put (kept g.V.Visit.kept c.loop-child.found)
    (flat_map (sifted base c.args.test.now c.args.rest.now) ns))
    (sym (c.in_default.ensures.nodes (link_steps c.loop-child.path))) ∙ c.loop-child.invariant.2)

pub at_sifted-returns-in_ok-run-clause-found : goal.at_sifted-returns-in_ok-run-clause-found
at_sifted-returns-in_ok-run-clause-found g t c =
    let base = base_of c.args.context.now in
    let put = put_found g.V.Visit.put in
    let had = kept g.V.Visit.kept c.args.found.now in
    let n = child_node (link_steps c.args.path.now) c.args.child in
    let truth : is_true base c.args.test.now n ≡ true =
    sym (some_of _ _ _ c.in-Some.is c.in_ok-truth.ensures _) ∙ c.if-truth.true in
    c.in_ok-run.ensures.found ∙ ap (λ s. plus put had
    (reached base c.args.rest.now (node s (part_value c.args.child.part) ∷ [])))
    (link_further c.args.path.now c.push.new.self _ c.in_ok-push.ensures.ok)
    ∙ ap (plus put had) (sym (sifted_in base c.args.test.now c.args.rest.now n truth))

pub at_sifted-returns-in_ok-run-clause-path : goal.at_sifted-returns-in_ok-run-clause-path
at_sifted-returns-in_ok-run-clause-path g t c =
    back_up _ _ _ _ _ c.in_ok-push.ensures.ok c.in_ok-run.ensures.path c.pop.ensures

pub at_sifted-returns-else-truth-clause-found : goal.at_sifted-returns-else-truth-clause-found
at_sifted-returns-else-truth-clause-found g t c =
    let base = base_of c.args.context.now in
    let put = put_found g.V.Visit.put in
    let n = child_node (link_steps c.args.path.now) c.args.child in
    let truth : is_true base c.args.test.now n ≡ false =
    sym (some_of _ _ _ c.in-Some.is c.in_ok-truth.ensures _) ∙ c.if-truth.false in
    nothing_found put _ _ (sifted_out base c.args.test.now c.args.rest.now n truth)

pub at_child-returns-then-is_idle-clause-found : goal.at_child-returns-then-is_idle-clause-found
at_child-returns-then-is_idle-clause-found g t c =
    let base = base_of c.args.context.now in
    let put = put_found g.V.Visit.put in
    nothing_found put _ _ (c.is_idle.ensures c.if-is_idle.true base _)

pub at_child-returns-clause-found : goal.at_child-returns-clause-found
at_child-returns-clause-found g t c =
    let base = base_of c.args.context.now in
    let put = put_found g.V.Visit.put in
    let had = kept g.V.Visit.kept c.args.found.now in
    c.in_ok-go.ensures.found ∙ ap (λ s. plus put had
    (done base c.args.action (node s (part_value c.args.child.part))))
    (link_further c.args.path.now c.push.new.self _ c.in_ok-push.ensures.ok)

pub at_child-returns-clause-path : goal.at_child-returns-clause-path
at_child-returns-clause-path g t c =
    back_up _ _ _ _ _ c.in_ok-push.ensures.ok c.in_ok-go.ensures.path c.pop.ensures

pub go-returns-in-Run-clause-found : goal.go-returns-in-Run-clause-found
go-returns-in-Run-clause-found g t c = rw c.in-Run.is c.run.ensures.found

pub go-returns-in_ok-run-in-Test-clause-found : goal.go-returns-in_ok-run-in-Test-clause-found
go-returns-in_ok-run-in-Test-clause-found g t c =
    let base = base_of c.args.context.now in
    let n = here c.args.path.now c.args.value in
    let truth : is_true base c.in-Test.test.now n ≡ true =
    sym c.in_ok-holds-in-Test.ensures.truth ∙ c.if-branch.true in
    rw (c.in-Test.is, truth) (rw c.in_ok-holds-in-Test.ensures.path at c.in_ok-run-in-Test.ensures.found)

pub go-returns-else-branch-clause-found : goal.go-returns-else-branch-clause-found
go-returns-else-branch-clause-found g t c =
    let base = base_of c.args.context.now in
    let n = here c.args.path.now c.args.value in
    let put = put_found g.V.Visit.put in
    let truth : is_true base c.in-Test.test.now n ≡ false =
    sym c.in_ok-holds-in-Test.ensures.truth ∙ c.if-branch.false in
    rw (c.in-Test.is, truth) (nothing_found put _ _ (reached-none base c.in-Test.rest.now))

pub holds-returns-in-Any-clause-truth : goal.holds-returns-in-Any-clause-truth
holds-returns-in-Any-clause-truth g t c =
    let base = base_of c.args.context.now in
    let n = here c.args.path.now c.args.value in
    IfOk-weaker c.any.result _ _ (λ b e. e ∙ ap (list_any (λ l. is_true base l n))
    c.as_slice.ensures.value ∙ sym (ap (λ l. is_true base l n) c.in-Any.is ∙ true_any base n
    c.in-Any.parts)) c.any.ensures.truth

pub holds-returns-in-All-clause-truth : goal.holds-returns-in-All-clause-truth
holds-returns-in-All-clause-truth g t c =
    let base = base_of c.args.context.now in
    let n = here c.args.path.now c.args.value in
    IfOk-weaker c.all.result _ _ (λ b e. e ∙ ap (list_all (λ l. is_true base l n))
    c.as_slice-in-All.ensures.value ∙ sym (ap (λ l. is_true base l n) c.in-All.is ∙ true_all base n
    c.in-All.parts)) c.all.ensures.truth

pub holds-returns-in_ok-holds-in-Not-clause-truth : goal.holds-returns-in_ok-holds-in-Not-clause-truth
holds-returns-in_ok-holds-in-Not-clause-truth g t c =
    let base = base_of c.args.context.now in
    let n = here c.args.path.now c.args.value in
    ap not (c.in_ok-holds-in-Not.ensures.truth ∙ ap (λ l. is_true base l n) c.deref.ensures) ∙ sym
    (ap (λ l. is_true base l n) c.in-Not.is ∙ true_not base n c.in-Not.part)

pub run-returns-in-None-clause-found : goal.run-returns-in-None-clause-found
run-returns-in-None-clause-found g t c =
    let base = base_of c.args.context.now in
    let n = here c.args.path.now c.args.value in
    let put = put_found g.V.Visit.put in
    let had = kept g.V.Visit.kept c.args.found.now in
    on_ok_weaker c.add.result (λ e. e ∙ sym (plus-one put had n) ∙ ap (plus put had)
    (sym (ap (λ ss. reached base ss (n ∷ []))
    (nil_from_length c.args.segments.now c.in-None.ensures.cases) ∙ reached-end base (n ∷ []))))
    c.add.ensures.found

pub run-returns-then-segment-clause-found : goal.run-returns-then-segment-clause-found
run-returns-then-segment-clause-found g t c =
    let base = base_of c.args.context.now in
    let n = here c.args.path.now c.args.value in
    let put = put_found g.V.Visit.put in
    let had = kept g.V.Visit.kept c.args.found.now in
    on_ok_weaker c.go.result (λ e. e ∙ ap (plus put had) (ap (λ xs. reached base c.in-Some.rest.now
    (flat_map (picked_by base xs) (descendants n))) c.as_slice-selectors.ensures.value
    ∙ sym (ap (λ ss. reached base ss (n ∷ []))
    c.in-Some.ensures.cases.0 ∙ reached-deep base c.in-Some.segment.now
    c.in-Some.rest.now n c.if-segment.true))) c.go.ensures.found

pub run-returns-else-segment-clause-found : goal.run-returns-else-segment-clause-found
run-returns-else-segment-clause-found g t c =
    let base = base_of c.args.context.now in
    let n = here c.args.path.now c.args.value in
    let put = put_found g.V.Visit.put in
    let had = kept g.V.Visit.kept c.args.found.now in
    on_ok_weaker c.apply.result (λ e. e ∙ ap (plus put had) (ap (λ xs. reached base c.in-Some.rest.now
    (picked_by base xs n)) c.as_slice-selectors.ensures.value ∙ sym (ap (λ ss. reached base ss (n ∷ []))
    c.in-Some.ensures.cases.0 ∙ reached-plain base c.in-Some.segment.now
    c.in-Some.rest.now n c.if-segment.false))) c.apply.ensures.found

pub select-run-requires : goal.select-run-requires
select-run-requires g t c =
    let below : height (part_value c.in-Some.child) < height (part_value c.args.opened.value) =
    c.in-Some.ensures.below in
    search rules

pub select-returns-in_default-clause-found : goal.select-returns-in_default-clause-found
select-returns-in_default-clause-found g t c =
    let base = base_of c.args.context.now in
    let n = here c.args.path.now c.args.opened.value in
    let put = put_found g.V.Visit.put in
    let none : None ≡ member_of (text_of c.in-Name.name) (part_value c.args.opened.value) =
    c.in_default.ensures.value ∙ ap (λ k. member_of (chars k) (part_value c.args.opened.value))
    c.as_str.ensures.value in
    nothing_found put _ _ (ap (reached base c.args.rest.now) (ap (λ x. picked base x n) c.in-Name.is
    ∙ picked_name base n c.in-Name.name
    ∙ ap (node_if_some _) (sym none)) ∙ reached-none base c.args.rest.now)

pub select-returns-in_ok-run-in-Name-clause-found : goal.select-returns-in_ok-run-in-Name-clause-found
select-returns-in_ok-run-in-Name-clause-found g t c =
    let base = base_of c.args.context.now in
    let put = put_found g.V.Visit.put in
    let had = kept g.V.Visit.kept c.args.found.now in
    let some = c.in-Some.ensures.value ∙ ap (λ k. member_of (chars k) (part_value c.args.opened.value))
    c.as_str.ensures.value in
    c.in_ok-run-in-Name.ensures.found ∙ ap (λ ns. plus put had (reached base c.args.rest.now ns))
    (ap (λ n. n ∷ []) (here_further c.args.path.now c.push.new.self _ c.in-Some.child
    c.in_ok-push-in-Name.ensures.ok
    ∙ ap (λ k. node (link_steps c.args.path.now ++ name (chars k) ∷ []) (part_value c.in-Some.child))
    c.as_str-in-Some.ensures.value)
    ∙ sym (ap (λ x. picked base x (here c.args.path.now c.args.opened.value)) c.in-Name.is
    ∙ picked_name base (here c.args.path.now c.args.opened.value) c.in-Name.name
    ∙ ap (node_if_some _) (sym some)))

pub select-returns-in-Wild-clause-found : goal.select-returns-in-Wild-clause-found
select-returns-in-Wild-clause-found g t c =
    let base = base_of c.args.context.now in
    let n = here c.args.path.now c.args.opened.value in
    let put = put_found g.V.Visit.put in
    let had = kept g.V.Visit.kept c.args.found.now in
    on_ok_weaker c.each_child.result (λ e. e ∙ ap (plus put had) (sym (ap (reached base c.args.rest.now)
    (ap (λ x. picked base x n) c.in-Wild.is ∙ picked_wild base n) ∙ reached-each base c.args.rest.now
    (children n)))) c.each_child.ensures.found

pub select-returns-in-Some-item_child-clause-found : goal.select-returns-in-Some-item_child-clause-found
select-returns-in-Some-item_child-clause-found g t c =
    let base = base_of c.args.context.now in
    let n = here c.args.path.now c.args.opened.value in
    let put = put_found g.V.Visit.put in
    let had = kept g.V.Visit.kept c.args.found.now in
    let f : SFits w64 c.in-Index.index.value = search rules in
    let one = simp to_z-of_z at (c.in-Some-item_child.ensures.some (link_steps c.args.path.now)) in
    on_ok_weaker c.at_child.result (λ e. e ∙ ap (λ ns. plus put had (reached base c.args.rest.now ns))
    (sym one ∙ ap (λ z. items_at n (index_places z (part_value c.args.opened.value))) c.in-Index.index.read
    ∙ sym (ap (λ x. picked base x n) c.in-Index.is ∙ picked_index base n c.in-Index.index)))
    c.at_child.ensures.found

pub select-returns-in-None-clause-found : goal.select-returns-in-None-clause-found
select-returns-in-None-clause-found g t c =
    let base = base_of c.args.context.now in
    let n = here c.args.path.now c.args.opened.value in
    let put = put_found g.V.Visit.put in
    let f : SFits w64 c.in-Index.index.value = search rules in
    let none = simp to_z-of_z at (c.in-None.ensures.none (link_steps c.args.path.now)) in
    nothing_found put _ _ (ap (reached base c.args.rest.now) (ap (λ x. picked base x n) c.in-Index.is
    ∙ picked_index base n c.in-Index.index
    ∙ sym (ap (λ z. items_at n (index_places z (part_value c.args.opened.value))) c.in-Index.index.read)
    ∙ none) ∙ reached-none base c.args.rest.now)

pub select-returns-in_ok-children-in-Slice-clause-found :
    goal.select-returns-in_ok-children-in-Slice-clause-found
select-returns-in_ok-children-in-Slice-clause-found g t c =
    let base = base_of c.args.context.now in
    let n = here c.args.path.now c.args.opened.value in
    let put = put_found g.V.Visit.put in
    let had = kept g.V.Visit.kept c.args.found.now in
    let picks = slice_found (part_value c.args.opened.value)
    (written_value (option_map position_text c.in-Slice.slice.first))
    (written_value (option_map position_text c.in-Slice.slice.past))
    (written_value (option_map position_text c.in-Slice.slice.step)) c.item_count.result
    (bounds_value c.bounds_of-bounds.result) c.item_count.ensures.count
    c.bounds_of-bounds.ensures.bounds in
    on_ok_weaker c.each_of.result (λ e. e ∙ ap (plus put had)
    (ap (flat_map (λ k. reached base c.args.rest.now (k ∷ [])))
    (ap (listed_nodes (link_steps c.args.path.now)) c.as_slice.ensures.value
    ∙ c.in_ok-children-in-Slice.ensures.nodes (link_steps c.args.path.now) ∙ ap (items_at n) picks)
    ∙ sym (reached-each base c.args.rest.now _) ∙ ap (reached base c.args.rest.now)
    (sym (ap (λ x. picked base x n) c.in-Slice.is ∙ picked_slice base n c.in-Slice.slice))))
    c.each_of.ensures.found

pub select-returns-in-Some-true-clause-found : goal.select-returns-in-Some-true-clause-found
select-returns-in-Some-true-clause-found g t c =
    let base = base_of c.args.context.now in
    let n = here c.args.path.now c.args.opened.value in
    let put = put_found g.V.Visit.put in
    let had = kept g.V.Visit.kept c.args.found.now in
    let rest = c.args.rest.now in
    let l = c.in-Filter.test in
    let on = rw (c.in-Some-true.is, c.in-Some-true.field-0-test) at c.known_truth.ensures in
    on_ok_weaker c.each_child-in-Some-true.result (λ e. e ∙ ap (plus put had)
    (true_along base l rest on (children n)
    ∙ sym (kept_each base rest n c.args.selector.now l c.in-Filter.is)))
    c.each_child-in-Some-true.ensures.found

pub select-returns-in-Some-false-clause-found : goal.select-returns-in-Some-false-clause-found
select-returns-in-Some-false-clause-found g t c =
    let base = base_of c.args.context.now in
    let n = here c.args.path.now c.args.opened.value in
    let put = put_found g.V.Visit.put in
    let rest = c.args.rest.now in
    let l = c.in-Filter.test in
    let off = rw (c.in-Some-false.is, c.in-Some-false.field-0-test) at c.known_truth.ensures in
    nothing_found put _ _
    (kept_each base rest n c.args.selector.now l c.in-Filter.is ∙ false_along base l rest off (children n))

pub select-returns-in-None-known_truth-clause-found : goal.select-returns-in-None-known_truth-clause-found
select-returns-in-None-known_truth-clause-found g t c =
    let base = base_of c.args.context.now in
    let n = here c.args.path.now c.args.opened.value in
    let put = put_found g.V.Visit.put in
    let had = kept g.V.Visit.kept c.args.found.now in
    on_ok_weaker c.sift_children.result (λ e. e ∙ ap (plus put had)
    (sym (kept_each base c.args.rest.now n c.args.selector.now c.in-Filter.test c.in-Filter.is)))
    c.sift_children.ensures.found

pub holds-returns-in-Some-clause-truth : goal.holds-returns-in-Some-clause-truth
holds-returns-in-Some-clause-truth g t c =
    let base = base_of c.args.context.now in
    let n = here c.args.path.now c.args.value in
    IfOk-weaker c.matches_read.result _ _ (λ b e. e
    ∙ ap₂ (tested tests.is_match) c.in_ok-given-in-Match.ensures.value (sym (c.in-Some.ensures n))
    ∙ sym (ap (λ l. is_true base l n) c.in-Match.is ∙ true_match base n c.in-Match.text c.in-Match.pattern))
    c.matches_read.ensures

pub holds-returns-in-Some-pattern-clause-truth : goal.holds-returns-in-Some-pattern-clause-truth
holds-returns-in-Some-pattern-clause-truth g t c =
    let base = base_of c.args.context.now in
    let n = here c.args.path.now c.args.value in
    IfOk-weaker c.searches_read.result _ _ (λ b e. e
    ∙ ap₂ (tested tests.is_found) c.in_ok-given-in-Search.ensures.value (sym (c.in-Some-pattern.ensures n))
    ∙ sym (ap (λ l. is_true base l n) c.in-Search.is
    ∙ true_search base n c.in-Search.text c.in-Search.pattern)) c.searches_read.ensures

pub holds-returns-in-Once-clause-truth : goal.holds-returns-in-Once-clause-truth
holds-returns-in-Once-clause-truth g t c =
    let base = base_of c.args.context.now in
    let n = here c.args.path.now c.args.value in
    c.truth.ensures n ∙ sym (ap (λ l. is_true base l n) c.in-Once.is ∙ true_once base n c.in-Once.slot)

pub all-loop-part-preserved : goal.all-loop-part-preserved
all-loop-part-preserved g t c =
    let base = base_of c.args.context.now in
    let n = here c.args.path.now c.args.value in
    let h : c.loop-part.part-index < length c.args.parts.now = omega arith in
    let truth = c.in_ok-holds.ensures.truth in
    let on : is_true base c.part-item.result n
    ≡ true = sym (rw c.loop-part.invariant.0 at truth) ∙ c.if-not-branch.false in (
      c.in_ok-holds.ensures.path
          ∙ c.loop-part.invariant.0,
      all_further (λ l. is_true base l n) c.args.parts.now c.loop-part.part-index c.part-item.result h
          c.part-item.is on ∙ c.loop-part.invariant.1,
    )

pub all-returns-clause-truth : goal.all-returns-clause-truth
all-returns-clause-truth g t c =
    let base = base_of c.args.context.now in
    let n = here c.args.path.now c.args.value in
    sym (at_drop_all (list_all (λ l. is_true base l
    n)) c.args.parts.now c.loop-part.part-index (omega arith)) ∙ c.loop-part.invariant.1

pub all-returns-then-not-branch-clause-truth : goal.all-returns-then-not-branch-clause-truth
all-returns-then-not-branch-clause-truth g t c =
    let base = base_of c.args.context.now in
    let n = here c.args.path.now c.args.value in
    let h : c.loop-part.part-index < length c.args.parts.now = omega arith in
    let truth = c.in_ok-holds.ensures.truth in
    let off : is_true base c.part-item.result n
    ≡ false = sym (rw c.loop-part.invariant.0 at truth) ∙ c.if-not-branch.true in
    sym (all_found (λ l. is_true base l n)
    c.args.parts.now c.loop-part.part-index c.part-item.result h c.part-item.is off)
    ∙ c.loop-part.invariant.1

pub any-loop-part-preserved : goal.any-loop-part-preserved
any-loop-part-preserved g t c =
    let base = base_of c.args.context.now in
    let n = here c.args.path.now c.args.value in
    let h : c.loop-part.part-index < length c.args.parts.now = omega arith in
    let truth = c.in_ok-holds.ensures.truth in
    let off : is_true base c.part-item.result n
    ≡ false = sym (rw c.loop-part.invariant.0 at truth) ∙ c.if-branch.false in (
      c.in_ok-holds.ensures.path
          ∙ c.loop-part.invariant.0,
      any_further (λ l. is_true base l n) c.args.parts.now c.loop-part.part-index c.part-item.result h
          c.part-item.is off ∙ c.loop-part.invariant.1,
    )

pub any-returns-clause-truth : goal.any-returns-clause-truth
any-returns-clause-truth g t c =
    let base = base_of c.args.context.now in
    let n = here c.args.path.now c.args.value in
    sym (at_drop_all (list_any (λ l. is_true base l
    n)) c.args.parts.now c.loop-part.part-index (omega arith)) ∙ c.loop-part.invariant.1

pub any-returns-then-branch-clause-truth : goal.any-returns-then-branch-clause-truth
any-returns-then-branch-clause-truth g t c =
    let base = base_of c.args.context.now in
    let n = here c.args.path.now c.args.value in
    let h : c.loop-part.part-index < length c.args.parts.now = omega arith in
    let truth = c.in_ok-holds.ensures.truth in
    let on : is_true base c.part-item.result n
    ≡ true = sym (rw c.loop-part.invariant.0 at truth) ∙ c.if-branch.true in
    sym (any_found (λ l. is_true base l n)
    c.args.parts.now c.loop-part.part-index c.part-item.result h c.part-item.is on)
    ∙ c.loop-part.invariant.1

pub apply-returns-then-is_full-clause-found : goal.apply-returns-then-is_full-clause-found
apply-returns-then-is_full-clause-found g t c =
    let put = put_found g.V.Visit.put in
    full_enough put _ _ _ _ (c.is_full.ensures c.if-is_full.true) c.loop-selector.invariant.1

pub holds-returns-in_ok-text-in-Match-clause-truth : goal.holds-returns-in_ok-text-in-Match-clause-truth
holds-returns-in_ok-text-in-Match-clause-truth g t c =
    let base = base_of c.args.context.now in
    let n = here c.args.path.now c.args.value in
    IfOk-weaker c.matches.result _ _ (λ b e. e
    ∙ ap₂ (tested tests.is_match) c.in_ok-text-in-Match.ensures.left c.in_ok-text-in-Match.ensures.right
    ∙ sym (ap (λ l. is_true base l n) c.in-Match.is ∙ true_match base n c.in-Match.text c.in-Match.pattern))
    c.matches.ensures

pub holds-returns-in_ok-text-in-Search-clause-truth : goal.holds-returns-in_ok-text-in-Search-clause-truth
holds-returns-in_ok-text-in-Search-clause-truth g t c =
    let base = base_of c.args.context.now in
    let n = here c.args.path.now c.args.value in
    IfOk-weaker c.searches.result _ _ (λ b e. e
    ∙ ap₂ (tested tests.is_found) c.in_ok-text-in-Search.ensures.left c.in_ok-text-in-Search.ensures.right
    ∙ sym (ap (λ l. is_true base l n) c.in-Search.is
    ∙ true_search base n c.in-Search.text c.in-Search.pattern)) c.searches.ensures

pub holds-returns-in-Compare-clause-truth : goal.holds-returns-in-Compare-clause-truth
holds-returns-in-Compare-clause-truth g t c =
    let base = base_of c.args.context.now in
    let n = here c.args.path.now c.args.value in
    IfOk-weaker c.compare.result _ _ (λ b e. e
    ∙ sym (ap (λ l. is_true base l n) c.in-Compare.is
    ∙ true_compare base n c.in-Compare.left c.in-Compare.operator c.in-Compare.right))
    c.compare.ensures.truth

pub holds-returns-in_ok-text-in-MatchRead-clause-truth
    : goal.holds-returns-in_ok-text-in-MatchRead-clause-truth
holds-returns-in_ok-text-in-MatchRead-clause-truth g t c =
    let base = base_of c.args.context.now in
    let n = here c.args.path.now c.args.value in
    IfOk-weaker c.matches_known.result _ _ (λ b e. e
    ∙ ap (λ o. tested tests.is_match o (Some (text (text_of c.in-MatchRead.known.text))))
    c.in_ok-text-in-MatchRead.ensures.value ∙ sym (ap (λ l. is_true base l n)
    c.in-MatchRead.is ∙ true_match_known base n
    c.in-MatchRead.text c.in-MatchRead.known)) c.matches_known.ensures

pub holds-returns-in_ok-text-in-SearchRead-clause-truth
    : goal.holds-returns-in_ok-text-in-SearchRead-clause-truth
holds-returns-in_ok-text-in-SearchRead-clause-truth g t c =
    let base = base_of c.args.context.now in
    let n = here c.args.path.now c.args.value in
    IfOk-weaker c.searches_known.result _ _ (λ b e. e
    ∙ ap (λ o. tested tests.is_found o (Some (text (text_of c.in-SearchRead.known.text))))
    c.in_ok-text-in-SearchRead.ensures.value ∙ sym (ap (λ l. is_true base l n)
    c.in-SearchRead.is ∙ true_search_known base n c.in-SearchRead.text c.in-SearchRead.known))
    c.searches_known.ensures

pub holds-returns-in_ok-right-in-Xor-clause-truth : goal.holds-returns-in_ok-right-in-Xor-clause-truth
holds-returns-in_ok-right-in-Xor-clause-truth g t c =
    let base = base_of c.args.context.now in
    let n = here c.args.path.now c.args.value in
    let second = rw c.in_ok-left-in-Xor.ensures.path at c.in_ok-right-in-Xor.ensures.truth in
    c.exactly_one.ensures ∙ ap₂ exactly_one (c.in_ok-left-in-Xor.ensures.truth
    ∙ ap (λ l. is_true base l n) c.deref-in-Xor.ensures)
    (second ∙ ap (λ l. is_true base l n) c.deref-in-Xor-2.ensures)
    ∙ sym (ap (λ l. is_true base l n) c.in-Xor.is
    ∙ true_xor base n c.in-Xor.field-0 c.in-Xor.left c.in-Xor.field-2 c.in-Xor.right)

pub give-returns-in-Constant-clause-value : goal.give-returns-in-Constant-clause-value
give-returns-in-Constant-clause-value g t c =
    let base = base_of c.args.context.now in
    let n = here c.args.path.now c.args.value in
    ap Some c.literal.ensures ∙ sym (ap (λ v. value_given base v n)
    c.in-Constant.is ∙ given_constant base n c.in-Constant.constant)

pub give-returns-in_ok-give-in-Length-clause-value : goal.give-returns-in_ok-give-in-Length-clause-value
give-returns-in_ok-give-in-Length-clause-value g t c =
    let base = base_of c.args.context.now in
    let n = here c.args.path.now c.args.value in
    IfOk-weaker c.length.result _ _ (λ k e. e ∙ ap length_value (c.in_ok-give-in-Length.ensures.value
    ∙ ap (λ v. value_given base v n) c.deref.ensures)
    ∙ sym (ap (λ v. value_given base v n) c.in-Length.is ∙ given_length base n c.in-Length.of))
    c.length.ensures

pub holds-returns-in_ok-answer-in-Test-clause-truth : goal.holds-returns-in_ok-answer-in-Test-clause-truth
holds-returns-in_ok-answer-in-Test-clause-truth g t c =
    let base = base_of c.args.context.now in
    let n = here c.args.path.now c.args.value in
    c.has_first.ensures (nodes_given base c.in-Test.nodes want.First n) c.in_ok-answer-in-Test.ensures.answer
    ∙ sym (ap (λ l. is_true base l n) c.in-Test.is ∙ true_test base n c.in-Test.nodes)

pub give-returns-in_ok-ask-in-Single-clause-value : goal.give-returns-in_ok-ask-in-Single-clause-value
give-returns-in_ok-ask-in-Single-clause-value g t c =
    let base = base_of c.args.context.now in
    let n = here c.args.path.now c.args.value in
    c.operand.ensures.first (nodes_given base c.in-Single.nodes want.First n)
    c.in_ok-ask-in-Single.ensures.answer
    ∙ sym (ap (λ v. value_given base v n) c.in-Single.is ∙ given_single base n c.in-Single.nodes)

pub give-returns-in_ok-ask-in-Count-clause-value : goal.give-returns-in_ok-ask-in-Count-clause-value
give-returns-in_ok-ask-in-Count-clause-value g t c =
    let base = base_of c.args.context.now in
    let n = here c.args.path.now c.args.value in
    c.operand-in-Count.ensures.count (nodes_given base c.in-Count.nodes want.Count n)
    c.in_ok-ask-in-Count.ensures.answer
    ∙ sym (ap (λ v. value_given base v n) c.in-Count.is ∙ given_count base n c.in-Count.nodes)

pub give-returns-in_ok-ask-in-Only-clause-value : goal.give-returns-in_ok-ask-in-Only-clause-value
give-returns-in_ok-ask-in-Only-clause-value g t c =
    let base = base_of c.args.context.now in
    let n = here c.args.path.now c.args.value in
    c.operand-in-Only.ensures.only (nodes_given base c.in-Only.nodes want.Only n)
    c.in_ok-ask-in-Only.ensures.answer
    ∙ sym (ap (λ v. value_given base v n) c.in-Only.is ∙ given_only base n c.in-Only.nodes)

pub ask-returns-in-Some-clause-answer : goal.ask-returns-in-Some-clause-answer
ask-returns-in-Some-clause-answer g t c =
    let base = base_of c.args.context.now in
    let n = here c.args.path.now c.args.value in
    let want = c.args.want in
    let nodes = nodes_here base n c.in-Here.segments c.as_slice-segments.result.now want
    c.as_slice-segments.ensures.value ∙ sym (ap (λ q. nodes_given base q want n) c.in-Here.is) in
    ap (λ ns. tells want ns c.in-Some.answer) (sym nodes)
    ∙ c.in-Some.ensures base (link_steps c.args.path.now)

pub ask-returns-in-Some-into_aggregate-clause-answer
    : goal.ask-returns-in-Some-into_aggregate-clause-answer
ask-returns-in-Some-into_aggregate-clause-answer g t c =
    let base = base_of c.args.context.now in
    let n = here c.args.path.now c.args.value in
    let put = put_found g.V.Visit.put in
    let want = c.args.want in
    let nodes = nodes_here base n c.in-Here.segments c.as_slice-segments.result.now want
    c.as_slice-segments.ensures.value ∙ sym (ap (λ q. nodes_given base q want n) c.in-Here.is) in
    let held = c.in_ok-run-in-Here.ensures.found ∙ ap₂ (plus put) c.none_found-found.ensures nodes in
    c.in-Some-into_aggregate.ensures.answer want (nodes_given base c.args.nodes.now want n) held

pub ask-unreachable-requires : goal.ask-unreachable-requires
ask-unreachable-requires g t c =
    not_taken g.V.Visit.put c.args.want _ _ _ c.in_ok-run-in-Here.ensures.found c.none_found-found.ensures
    (c.into_aggregate.ensures.other.0 (ap is_some c.in-None.is))

pub ask-returns-in-Root-clause-answer : goal.ask-returns-in-Root-clause-answer
ask-returns-in-Root-clause-answer g t c =
    let base = base_of c.args.context.now in
    let n = here c.args.path.now c.args.value in
    ap (λ ns. tells c.args.want ns c.answer.result)
    (ap (λ q. nodes_given base q c.args.want n) c.in-Root.is
    ∙ sym (nodes_root base n c.in-Root.slot c.args.want)) ∙ c.answer.ensures n

pub ask-returns-in_ok-answer-in-Distinct-clause-answer
    : goal.ask-returns-in_ok-answer-in-Distinct-clause-answer
ask-returns-in_ok-answer-in-Distinct-clause-answer g t c =
    let base = base_of c.args.context.now in
    let n = here c.args.path.now c.args.value in
    let want = c.args.want in
    let a = c.in_ok-answer-in-Distinct.answer in
    let nodes = c.in-Distinct.nodes in
    let inner = ap₂ (λ w q. tells w (nodes_given base q w n) a) (sym c.inside.ensures)
    (sym c.deref.ensures) ∙ c.in_ok-answer-in-Distinct.ensures.answer in
    ap (λ ns. tells want ns c.of_distinct.result)
    (ap (λ q. nodes_given base q want n) c.in-Distinct.is ∙ sym (nodes_distinct base n nodes want))
    ∙ c.of_distinct.ensures (nodes_given base nodes.value (wanted_inside want) n) inner

pub go-returns-then-list_nothing-clause-found : goal.go-returns-then-list_nothing-clause-found
go-returns-then-list_nothing-clause-found g t c =
    let base = base_of c.args.context.now in
    let n = here c.args.path.now c.args.value in
    let put = put_found g.V.Visit.put in
    let xs = c.in-Descend.selectors.now in
    let rest = c.in-Descend.rest.now in
    let at = link_steps c.args.path.now in
    let listed = range_nodes at c.all.result in
    let same : structured_nodes listed ≡ structured_nodes (children n) =
    ap structured_nodes (c.all.ensures.nodes at) ∙ c.in_ok-children-in-Descend.ensures.nodes at in
    on_ok_weaker c.each_of.result (λ e. rw c.in-Descend.is (descended_structured put base xs
    rest n listed _ _ _ c.in_ok-apply-in-Descend.ensures.found same
    (rw (c.in_ok-apply-in-Descend.ensures.path, c.in-Descend.is) at e)))
    c.each_of.ensures.found

pub go-returns-in_ok-apply-in-Descend-2-clause-found
    : goal.go-returns-in_ok-apply-in-Descend-2-clause-found
go-returns-in_ok-apply-in-Descend-2-clause-found g t c =
    let base = base_of c.args.context.now in
    let n = here c.args.path.now c.args.value in
    let put = put_found g.V.Visit.put in
    let xs = c.in-Descend.selectors.now in
    let rest = c.in-Descend.rest.now in
    let at = link_steps c.args.path.now in
    let range : range_nodes at c.all-range.result ≡ children n =
    c.all-range.ensures.nodes at ∙ c.in_ok-children-in-Descend-2.ensures.nodes at in
    on_ok_weaker c.each_of-in-Descend.result (λ e. rw c.in-Descend.is (descended put base xs
    rest n _ _ _ c.in_ok-apply-in-Descend-2.ensures.found
    (rw range at (rw (c.in_ok-apply-in-Descend-2.ensures.path, c.in-Descend.is) at e))))
    c.each_of-in-Descend.ensures.found

pub give-returns-in-Some-clause-value : goal.give-returns-in-Some-clause-value
give-returns-in-Some-clause-value g t c =
    let n = here c.args.path.now c.args.value in
    c.in-Some.ensures n

pub compare-returns-in-Some-clause-truth : goal.compare-returns-in-Some-clause-truth
compare-returns-in-Some-clause-truth g t c =
    let n = here c.args.path.now c.args.value in
    IfOk-weaker c.compare_ordered.result _ _ (λ b e. e
    ∙ ap₂ (compared c.args.operator) c.in_ok-given.ensures.value (sym (c.in-Some.ensures n)))
    c.compare_ordered.ensures

pub compare-returns-in-Some-ordered-clause-truth : goal.compare-returns-in-Some-ordered-clause-truth
compare-returns-in-Some-ordered-clause-truth g t c =
    let n = here c.args.path.now c.args.value in
    IfOk-weaker c.compare_ordered-in-Some-ordered.result _ _ (λ b e. e ∙ c.turned.ensures _ _
    ∙ ap₂ (compared c.args.operator) (sym (c.in-Some-ordered.ensures n)) c.in_ok-given-2.ensures.value)
    c.compare_ordered-in-Some-ordered.ensures
