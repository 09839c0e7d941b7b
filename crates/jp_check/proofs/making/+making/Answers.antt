use Rattle.std.proofs.Common.{Some, option_map, ◌≡◌, ◌∙◌, ap, ap₂, sym, map, codes, refl, arith}
use Rattle.std.proofs.Common.{length, rules, subst, inl, inr, [], ◌∷◌}
use Rattle.std.proofs.lemmas.Grind.{common_steps}
use Rattle.std.proofs.lemmas.Result.{IfOk-weaker, on_ok_weaker}
use Rattle.jp_tree.specs.Tree as tree
use Rattle.jp_tree.specs.PartViews.{argument_of, comparable_of, logical_of, selector_of, segment_of}
use Rattle.jp_tree.proofs.Views.{filter_made, any_made, all_made, not_made, compare_made, test_made}
use Rattle.jp_tree.proofs.Views.{test_call_made, single_made, value_call_made, query_argument_made}
use Rattle.jp_tree.proofs.Views.{call_argument_made, logical_argument_made}
use Rattle.jp_tree.specs.declared.tree.Start.TheVariants as start
use Rattle.jp_tree.specs.declared.tree.Query.{out-Query}
use Rattle.jp_tree.specs.declared.tree.Segment.{the_lemmas}
use Rattle.std.specs.Str.{chars}
use Rattle.jp_types.specs.Functions.{function_named, length_function, count_function, value_function}
use Rattle.jp_types.specs.Functions.{xor_function, distinct_function, match_function, search_function}
use Rattle.jp_types.specs.Functions.{logical_type, value_type}
use Rattle.jp_types.specs.Kinds.{function_of}
use Rattle.jp_compiled.specs.Parts.{segment_in, selector_in, logical_in, value_in, as_argument}
use Rattle.jp_compiled.specs.Parts.{text_argument, form_of, truth_argument, call_of_one, call_of_two}
use Rattle.jp_compiled.specs.Parts.{nodes_in, queried, source_argument, source_test, source_side}
use Rattle.jp_types.proofs.Levels.{query_level, segment_level, comparison_level}
use Rattle.jp_check.proofs.CallsMade.{called_one, called, given_two, text_is, query_written}
use Rattle.jp_check.proofs.CallsMade.{call_written, logical_written, called_test}
use Rattle.jp_check.proofs.Naming.{named}
use Rattle.jp_check.specs.Known.{known_texts}
use Rattle.jp_check.proofs.MakingSteps.{begins_itself, begins_on, later, made_more, made_all}
use Rattle.jp_compiled.proofs.CompiledViews.{filter_read, any_read, all_read, not_read}
use Rattle.jp_compiled.proofs.CompiledViews.{compare_read, test_read}
use Rattle.jp_compiled.proofs.CompiledViews.{single_read, length_read, count_read, only_read, here_read}
use Rattle.jp_compiled.proofs.CompiledViews.{root_read, segment_read, xor_read, distinct_read}
use Rattle.jp_tree.specs.PartViews.{logicals_of, selectors_of, segments_of}
use Rattle.jp_types.specs.Numbers.{logicals_numbers, logical_numbers, selectors_numbers, selector_numbers}
use Rattle.jp_types.specs.Numbers.{segments_numbers, segment_numbers}
use Rattle.jp_types.specs.Typing.{logicals_typed, logical_typed, selectors_typed, selector_typed}
use Rattle.jp_types.specs.Typing.{segments_typed, segment_typed}
use Rattle.jp_check.specs.inner.Making.{IsSound}
use Rattle.jp_check.proofs.Sound.{sound_at, argument_sound, first_fits, second_fits, two_fit}
use Rattle.jp_check.proofs.Sound.{value_of_one, nodes_of_one, fitting}
use Rattle.jp_types.specs.Numbers.{call_numbers}
use Rattle.jp_types.specs.Typing.{call_typed}
use Rattle.jp_check.specs.LiteralPatterns.{segments_patterns, segment_patterns, selectors_patterns}
use Rattle.jp_check.specs.LiteralPatterns.{logicals_patterns, literal_patterns, comparison_patterns}
use Rattle.jp_check.proofs.TextLists.{texts_end, texts_next}
use Rattle.jp_check.proofs.PatternsListed.{listed_same, listed_on, two_patterns, read_patterns}
use Rattle.jp_check.proofs.PatternsListed.{other_patterns, called_patterns, one_patterns}
use Rattle.jp_check.proofs.making.+making.Goals as goal

pub make_segments-loop-segment-preserved : goal.make_segments-loop-segment-preserved
make_segments-loop-segment-preserved t c = (
  made_more segment_in segment_of c.args.segments.now c.loop-segment.segment-index c.segment-item.result
      (record { deep = c.segment-item.result.deep; selectors = c.in_ok-selectors.selectors }) _ _ _ _
      c.loop-segment-test.true c.segment-item.is c.in_ok-push.ensures.items c.in_ok-selectors.ensures.roots
      (λ all h. segment_read all c.segment-item.result.deep c.in_ok-selectors.selectors
      ∙ ap (λ xs. tree.segment c.segment-item.result.deep (tree.selectors xs))
      (c.in_ok-selectors.ensures.made all h ∙ ap (map selector_of) c.as_slice.ensures.value)
      ∙ sym (segment_level c.segment-item.result))
      c.loop-segment.invariant.0,
  begins_on _ _ _ c.loop-segment.invariant.1 c.in_ok-selectors.ensures.roots,
  texts_next (λ xs. segments_patterns (tree.segments (segments_of xs))) c.args.segments.now
      c.loop-segment.segment-index c.segment-item.result _ _ _ _ refl c.loop-segment-test.true
      c.segment-item.is (listed_same _ _ _ _ c.in_ok-selectors.ensures.patterns
      (ap (λ xs. selectors_patterns (tree.selectors (selectors_of xs))) c.as_slice.ensures.value
      ∙ sym (ap segment_patterns (segment_level c.segment-item.result)))) c.loop-segment.invariant.2,
)

pub make_segments-returns-clause-made : goal.make_segments-returns-clause-made
make_segments-returns-clause-made t c =
    made_all segment_in segment_of c.args.segments.now c.loop-segment.segment-index _ _
    c.loop-segment-test.false c.loop-segment.invariant.0

pub make_segments-returns-clause-patterns : goal.make_segments-returns-clause-patterns
make_segments-returns-clause-patterns t c =
    texts_end (λ xs. segments_patterns (tree.segments (segments_of xs))) c.args.segments.now
    c.loop-segment.segment-index _ _ refl c.loop-segment-test.false c.loop-segment.invariant.2

pub make_selectors-loop-selector-preserved : goal.make_selectors-loop-selector-preserved
make_selectors-loop-selector-preserved t c = (
  made_more selector_in selector_of c.args.selectors.now c.loop-selector.selector-index
      c.selector-item.result c.in_ok-make_selector.field-0 _ _ _ _ c.loop-selector-test.true
      c.selector-item.is c.in_ok-push.ensures.items c.in_ok-make_selector.ensures.roots
      c.in_ok-make_selector.ensures.made c.loop-selector.invariant.0,
  begins_on _ _ _ c.loop-selector.invariant.1 c.in_ok-make_selector.ensures.roots,
  texts_next (λ xs. selectors_patterns (tree.selectors (selectors_of xs))) c.args.selectors.now
      c.loop-selector.selector-index c.selector-item.result _ _ _ _ refl c.loop-selector-test.true
      c.selector-item.is c.in_ok-make_selector.ensures.patterns c.loop-selector.invariant.2,
)

pub make_selectors-returns-clause-made : goal.make_selectors-returns-clause-made
make_selectors-returns-clause-made t c =
    made_all selector_in selector_of c.args.selectors.now c.loop-selector.selector-index _ _
    c.loop-selector-test.false c.loop-selector.invariant.0

pub make_selectors-returns-clause-patterns : goal.make_selectors-returns-clause-patterns
make_selectors-returns-clause-patterns t c =
    texts_end (λ xs. selectors_patterns (tree.selectors (selectors_of xs))) c.args.selectors.now
    c.loop-selector.selector-index _ _ refl c.loop-selector-test.false c.loop-selector.invariant.2

pub make_parts-loop-part-preserved : goal.make_parts-loop-part-preserved
make_parts-loop-part-preserved t c = (
  made_more logical_in logical_of c.args.parts.now c.loop-part.part-index c.part-item.result
      c.in_ok-make_logical.field-0 _ _ _ _ c.loop-part-test.true c.part-item.is c.in_ok-push.ensures.items
      c.in_ok-make_logical.ensures.roots c.in_ok-make_logical.ensures.made c.loop-part.invariant.0,
  begins_on _ _ _ c.loop-part.invariant.1 c.in_ok-make_logical.ensures.roots,
  texts_next (λ xs. logicals_patterns (tree.logicals (logicals_of xs))) c.args.parts.now
      c.loop-part.part-index c.part-item.result _ _ _ _ refl c.loop-part-test.true c.part-item.is
      c.in_ok-make_logical.ensures.patterns c.loop-part.invariant.2,
)

pub make_parts-returns-clause-made : goal.make_parts-returns-clause-made
make_parts-returns-clause-made t c =
    made_all logical_in logical_of c.args.parts.now c.loop-part.part-index _ _ c.loop-part-test.false
    c.loop-part.invariant.0

pub make_parts-returns-clause-patterns : goal.make_parts-returns-clause-patterns
make_parts-returns-clause-patterns t c =
    texts_end (λ xs. logicals_patterns (tree.logicals (logicals_of xs))) c.args.parts.now
    c.loop-part.part-index _ _ refl c.loop-part-test.false c.loop-part.invariant.2

pub make_argument_nodes-returns-in-Query-clause-made
    : goal.make_argument_nodes-returns-in-Query-clause-made
make_argument_nodes-returns-in-Query-clause-made t c =
    IfOk-weaker c.make_nodes.result _ _ (λ q r all h. ap source_argument (r all h)
    ∙ sym (ap argument_of c.in-Query.is ∙ query_argument_made c.in-Query.query))
    c.make_nodes.ensures.made

pub make_logical-returns-in_ok-apart-in-Any-clause-made
    : goal.make_logical-returns-in_ok-apart-in-Any-clause-made
make_logical-returns-in_ok-apart-in-Any-clause-made t c = λ all h.
    any_read all c.in_ok-apart-in-Any.field-0
    ∙ ap (λ ls. tree.any (tree.logicals ls)) (c.in_ok-apart-in-Any.ensures.made _
    c.in_ok-made-in-Any.ensures.made all h ∙ ap (map logical_of) c.deref.ensures.value)
    ∙ sym (ap logical_of c.in-Any.is ∙ any_made c.in-Any.parts)

pub make_logical-returns-in_ok-apart-in-All-clause-made
    : goal.make_logical-returns-in_ok-apart-in-All-clause-made
make_logical-returns-in_ok-apart-in-All-clause-made t c = λ all h.
    all_read all c.in_ok-apart-in-All.field-0
    ∙ ap (λ ls. tree.all (tree.logicals ls)) (c.in_ok-apart-in-All.ensures.made _
    c.in_ok-made-in-All.ensures.made all h ∙ ap (map logical_of) c.deref-in-All.ensures.value)
    ∙ sym (ap logical_of c.in-All.is ∙ all_made c.in-All.parts)

pub make_negation-returns-clause-made : goal.make_negation-returns-clause-made
make_negation-returns-clause-made t c = λ all h.
    not_read all c.in_ok-new.field-0
    ∙ ap tree.negation (ap (logical_in all) c.in_ok-new.ensures.ok ∙ c.in_ok-part.ensures.made all h)

pub make_comparison-returns-clause-made : goal.make_comparison-returns-clause-made
make_comparison-returns-clause-made t c = λ all h.
    let sides = c.args.comparison.now in
    compare_read all c.in_ok-left.left sides.op c.in_ok-right.right
    ∙ ap₂ (λ l r. tree.comparing (tree.comparison l sides.op r))
    (c.in_ok-left.ensures.made all (begins_on _ _ _ c.in_ok-right.ensures.roots h))
    (c.in_ok-right.ensures.made all h)
    ∙ sym (ap tree.comparing (comparison_level sides))

pub make_logical-returns-in-Not-clause-made : goal.make_logical-returns-in-Not-clause-made
make_logical-returns-in-Not-clause-made t c =
    IfOk-weaker c.make_negation.result _ _
    (λ l r all h. r all h ∙ ap (λ x. tree.negation (logical_of x)) c.deref-in-Not.ensures
    ∙ sym (ap logical_of c.in-Not.is ∙ not_made c.in-Not.part))
    c.make_negation.ensures.made

pub make_logical-returns-in-Compare-clause-made : goal.make_logical-returns-in-Compare-clause-made
make_logical-returns-in-Compare-clause-made t c =
    IfOk-weaker c.make_comparison.result _ _
    (λ l r all h. r all h ∙ sym (ap logical_of c.in-Compare.is ∙ compare_made c.in-Compare.comparison))
    c.make_comparison.ensures.made

pub make_logical-returns-in_ok-make_nodes-in-Test-clause-made
    : goal.make_logical-returns-in_ok-make_nodes-in-Test-clause-made
make_logical-returns-in_ok-make_nodes-in-Test-clause-made t c = λ all h.
    test_read all c.in_ok-make_nodes-in-Test.field-0
    ∙ ap source_test (c.in_ok-make_nodes-in-Test.ensures.made all h)
    ∙ sym (ap logical_of c.in-Test.is ∙ test_made c.in-Test.query)

pub make_logical-returns-in-Call-clause-made : goal.make_logical-returns-in-Call-clause-made
make_logical-returns-in-Call-clause-made t c =
    IfOk-weaker c.make_test_call.result _ _ (λ l r all h. r all h
    ∙ sym (ap logical_of c.in-Call.is ∙ test_call_made c.in-Call.call)) c.make_test_call.ensures.made

pub make_nodes-returns-in-Current-clause-made : goal.make_nodes-returns-in-Current-clause-made
make_nodes-returns-in-Current-clause-made t c = λ all h.
    here_read all c.in_ok-segments.segments c.args.want
    ∙ ap (λ ss. queried (tree.query start.Current (tree.segments ss))) (c.in_ok-segments.ensures.made all h
    ∙ ap (map segment_of) c.as_slice.ensures.value)
    ∙ sym (ap queried (query_level c.args.query.now
    ∙ ap (λ s. tree.query s
    (tree.segments (map segment_of (out-Query c.args.query.now).segments.items))) c.in-Current.is))

pub make_nodes-returns-in_ok-slot-in-Root-clause-made
    : goal.make_nodes-returns-in_ok-slot-in-Root-clause-made
make_nodes-returns-in_ok-slot-in-Root-clause-made t c = λ all h.
    root_read all c.in_ok-slot-in-Root.slot c.args.want
    ∙ ap queried (c.in_ok-slot-in-Root.ensures.root all h
    ∙ ap (λ ss. tree.query start.Root (tree.segments ss))
    (c.in_ok-segments.ensures.made _ (begins_itself _) ∙ ap (map segment_of) c.as_slice.ensures.value)
    ∙ sym (query_level c.args.query.now
    ∙ ap (λ s. tree.query s
    (tree.segments (map segment_of (out-Query c.args.query.now).segments.items))) c.in-Root.is))

pub make_selector-returns-in_ok-once-in-Filter-clause-made
    : goal.make_selector-returns-in_ok-once-in-Filter-clause-made
make_selector-returns-in_ok-once-in-Filter-clause-made t c = λ all h.
    filter_read all c.in_ok-once-in-Filter.field-0
    ∙ ap tree.filter (c.in_ok-once-in-Filter.ensures.made _ c.in_ok-test-in-Filter.ensures.made all h)
    ∙ sym (ap selector_of c.in-Filter.is ∙ filter_made c.in-Filter.logical)

pub make_side-returns-in_ok-make_nodes-in-Single-clause-made
    : goal.make_side-returns-in_ok-make_nodes-in-Single-clause-made
make_side-returns-in_ok-make_nodes-in-Single-clause-made t c = λ all h.
    single_read all c.in_ok-make_nodes-in-Single.field-0
    ∙ ap source_side (c.in_ok-make_nodes-in-Single.ensures.made all h)
    ∙ sym (ap comparable_of c.in-Single.is ∙ single_made c.in-Single.query)

pub make_side-returns-in-Call-clause-made : goal.make_side-returns-in-Call-clause-made
make_side-returns-in-Call-clause-made t c =
    IfOk-weaker c.make_value_call.result _ _ (λ v r all h. r all h
    ∙ sym (ap comparable_of c.in-Call.is ∙ value_call_made c.in-Call.call))
    c.make_value_call.ensures.made

pub make_value-returns-in_ok-make_nodes-in-Query-clause-made
    : goal.make_value-returns-in_ok-make_nodes-in-Query-clause-made
make_value-returns-in_ok-make_nodes-in-Query-clause-made t c = λ all h.
    ap as_argument (single_read all c.in_ok-make_nodes-in-Query.field-0)
    ∙ ap (λ s. as_argument (source_side s)) (c.in_ok-make_nodes-in-Query.ensures.made all h)
    ∙ sym (ap argument_of c.in-Query.is ∙ query_argument_made c.in-Query.query)

pub make_value-returns-in-Call-clause-made : goal.make_value-returns-in-Call-clause-made
make_value-returns-in-Call-clause-made t c =
    IfOk-weaker c.make_value_call.result _ _ (λ v r all h. ap as_argument (r all h)
    ∙ sym (ap argument_of c.in-Call.is ∙ call_argument_made c.in-Call.call))
    c.make_value_call.ensures.made

pub make_value_call-returns-in_ok-new-in-Some-Length-clause-made
    : goal.make_value_call-returns-in_ok-new-in-Some-Length-clause-made
make_value_call-returns-in_ok-new-in-Some-Length-clause-made t c = λ all h.
    let known : function_named (chars c.as_str.result.now) ≡ Some length_function =
    sym (ap (option_map function_of) (sym c.in-Some-Length.is) ∙ c.function_named.ensures)
    ∙ ap (λ f. Some (function_of f)) c.in-Some-Length.field-0-is in
    length_read all c.in_ok-new-in-Some-Length.field-0
    ∙ ap (λ a. tree.value_call (call_of_one (codes "length") a))
    (ap (λ v. as_argument (value_in all v)) c.in_ok-new-in-Some-Length.ensures.ok
    ∙ c.in_ok-value-in-Some-Length.ensures.made all h)
    ∙ sym (ap tree.value_call (called_one c.args.call.now c.as_str.result.now (codes "length")
    c.as_slice.result.now c.argument-item.result c.as_str.ensures.value (named _ length_function known)
    c.as_slice.ensures.value c.in-len1.len_at_least c.in-len1.len_below c.argument-item.is))

pub make_value_call-returns-in_ok-make_argument_nodes-in-Some-Count-clause-made
    : goal.make_value_call-returns-in_ok-make_argument_nodes-in-Some-Count-clause-made
make_value_call-returns-in_ok-make_argument_nodes-in-Some-Count-clause-made t c = λ all h.
    let known : function_named (chars c.as_str.result.now) ≡ Some count_function =
    sym (ap (option_map function_of) (sym c.in-Some-Count.is) ∙ c.function_named.ensures)
    ∙ ap (λ f. Some (function_of f)) c.in-Some-Count.field-0-is in
    count_read all c.in_ok-make_argument_nodes-in-Some-Count.field-0
    ∙ ap (λ a. tree.value_call (call_of_one (codes "count") a))
    (c.in_ok-make_argument_nodes-in-Some-Count.ensures.made all h)
    ∙ sym (ap tree.value_call (called_one c.args.call.now c.as_str.result.now (codes "count")
    c.as_slice.result.now c.argument-item.result c.as_str.ensures.value (named _ count_function known)
    c.as_slice.ensures.value c.in-len1.len_at_least c.in-len1.len_below c.argument-item.is))

pub make_value_call-returns-in_ok-make_argument_nodes-in-Some-Value-clause-made
    : goal.make_value_call-returns-in_ok-make_argument_nodes-in-Some-Value-clause-made
make_value_call-returns-in_ok-make_argument_nodes-in-Some-Value-clause-made t c = λ all h.
    let known : function_named (chars c.as_str.result.now) ≡ Some value_function =
    sym (ap (option_map function_of) (sym c.in-Some-Value.is) ∙ c.function_named.ensures)
    ∙ ap (λ f. Some (function_of f)) c.in-Some-Value.field-0-is in
    only_read all c.in_ok-make_argument_nodes-in-Some-Value.field-0
    ∙ ap (λ a. tree.value_call (call_of_one (codes "value") a))
    (c.in_ok-make_argument_nodes-in-Some-Value.ensures.made all h)
    ∙ sym (ap tree.value_call (called_one c.args.call.now c.as_str.result.now (codes "value")
    c.as_slice.result.now c.argument-item.result c.as_str.ensures.value (named _ value_function known)
    c.as_slice.ensures.value c.in-len1.len_at_least c.in-len1.len_below c.argument-item.is))

pub make_test_call-returns-in-Some-Xor-clause-made : goal.make_test_call-returns-in-Some-Xor-clause-made
make_test_call-returns-in-Some-Xor-clause-made t c =
    let told = c.in-Some-Xor.field-0-is in
    let known : function_named (chars c.as_str.result.now) ≡ Some xor_function =
    sym c.function_named-function.ensures ∙ ap (option_map function_of) c.in-Some-Xor.is
    ∙ ap (λ f. Some (function_of f)) (rw c.in-Some-Xor.is at told) in
    IfOk-weaker c.make_xor.result _ _ (λ l r all h. r all h
    ∙ sym (ap tree.test_call (called c.args.call.now c.as_str.result.now (codes "xor")
    c.as_slice-arguments.result.now c.as_str.ensures.value (named _ xor_function known)
    c.as_slice-arguments.ensures.value))) c.make_xor.ensures.made

pub make_test_call-returns-in-Some-Match-clause-made : goal.make_test_call-returns-in-Some-Match-clause-made
make_test_call-returns-in-Some-Match-clause-made t c =
    let name = chars c.as_str.result.now in
    IfOk-weaker c.make_text_test.result _ _ (λ l r all h. r name c.function_named-function.ensures all h
    ∙ sym (ap tree.test_call (called c.args.call.now c.as_str.result.now name
    c.as_slice-arguments.result.now c.as_str.ensures.value refl c.as_slice-arguments.ensures.value)))
    c.make_text_test.ensures.made

pub make_test_call-returns-in-Some-Search-clause-made : goal.make_test_call-returns-in-Some-Search-clause-made
make_test_call-returns-in-Some-Search-clause-made t c =
    let name = chars c.as_str.result.now in
    IfOk-weaker c.make_text_test-in-Some-Search.result _ _
    (λ l r all h. r name c.function_named-function.ensures all h
    ∙ sym (ap tree.test_call (called c.args.call.now c.as_str.result.now name
    c.as_slice-arguments.result.now c.as_str.ensures.value refl c.as_slice-arguments.ensures.value)))
    c.make_text_test-in-Some-Search.ensures.made

pub make_test_call-returns-in_ok-make_distinct-in-Some-Distinct-clause-made
    : goal.make_test_call-returns-in_ok-make_distinct-in-Some-Distinct-clause-made
make_test_call-returns-in_ok-make_distinct-in-Some-Distinct-clause-made t c = λ all h.
    test_read all c.in_ok-make_distinct-in-Some-Distinct.field-0
    ∙ called_test _ _ (c.in_ok-make_distinct-in-Some-Distinct.ensures.made all h)

pub make_argument_nodes-returns-in-Call-clause-made : goal.make_argument_nodes-returns-in-Call-clause-made
make_argument_nodes-returns-in-Call-clause-made t c =
    IfOk-weaker c.make_distinct.result _ _ (λ q r all h. r all h
    ∙ sym (ap argument_of c.in-Call.is ∙ call_argument_made c.in-Call.call)) c.make_distinct.ensures.made

pub make_distinct-returns-clause-made : goal.make_distinct-returns-clause-made
make_distinct-returns-clause-made t c = λ all h.
    let known : function_named (chars c.as_str.result.now) ≡ Some distinct_function =
    sym (ap (option_map function_of) (sym c.in-Some-Distinct.is) ∙ c.function_named.ensures)
    ∙ ap (λ f. Some (function_of f)) c.in-Some-Distinct.field-0-is in
    ap source_argument (distinct_read all c.in_ok-new.field-0 c.args.want)
    ∙ ap (λ a. tree.call_argument (call_of_one (codes "distinct") a))
    (ap₂ (λ q w. source_argument (nodes_in all q w)) c.in_ok-new.ensures.ok (sym c.inside.ensures)
    ∙ c.in_ok-nodes.ensures.made all h)
    ∙ sym (ap tree.call_argument (called_one c.args.call.now c.as_str.result.now (codes "distinct")
    c.as_slice.result.now c.argument-item.result c.as_str.ensures.value (named _ distinct_function known)
    c.as_slice.ensures.value c.in-len1.len_at_least c.in-len1.len_below c.argument-item.is))

pub make_xor-returns-clause-made : goal.make_xor-returns-clause-made
make_xor-returns-clause-made t c = λ all h.
    xor_read all c.form_of.result c.in_ok-first.first c.form_of-2.result c.in_ok-second.second
    ∙ ap₂ (λ a b. tree.test_call (call_of_two (codes "xor") a b))
    (ap (λ f. truth_argument f (logical_in all c.in_ok-first.first.value)) c.form_of.ensures
    ∙ c.in_ok-first.ensures.made _ _ (later _ _ _ _ c.in_ok-other.ensures.roots c.in_ok-one.ensures.made)
    all (begins_on _ _ _ c.in_ok-second.ensures.roots h))
    (ap (λ f. truth_argument f (logical_in all c.in_ok-second.second.value)) c.form_of-2.ensures
    ∙ c.in_ok-second.ensures.made _ _ (later _ _ _ _ c.in_ok-first.ensures.roots c.in_ok-other.ensures.made)
    all h)
    ∙ sym (ap tree.test_call (given_two (codes "xor") c.args.arguments.now c.left-item.result
    c.right-item.result c.in-len2.len_at_least c.in-len2.len_below c.left-item.is c.right-item.is))

pub make_text_test-returns-clause-made : goal.make_text_test-returns-clause-made
make_text_test-returns-clause-made t c =
    λ name known all h. c.given_test.ensures all name known
    ∙ ap₂ (λ s p. tree.test_call (call_of_two name s p))
    (c.in_ok-text-2.ensures.made all (begins_on _ _ _ c.in_ok-pattern-2.ensures.roots h))
    (c.in_ok-pattern-2.ensures.made all h)
    ∙ sym (ap tree.test_call (given_two name c.args.arguments.now c.text-item.result
    c.pattern-item.result c.in-len2.len_at_least c.in-len2.len_below c.text-item.is c.pattern-item.is))

pub make_text_test-returns-in-Some-clause-made : goal.make_text_test-returns-in-Some-clause-made
make_text_test-returns-in-Some-clause-made t c =
    let literal : argument_of c.pattern-item.result ≡ text_argument (chars c.in-Some.pattern.now) =
    text_is (argument_of c.pattern-item.result) (chars c.in-Some.pattern.now) c.in-Some.ensures in
    λ name known all h. c.read_test.ensures all name known
    ∙ ap₂ (λ s p. tree.test_call (call_of_two name s p)) (c.in_ok-text.ensures.made all h)
    (ap text_argument c.in_ok-pattern.ensures.read ∙ sym literal)
    ∙ sym (ap tree.test_call (given_two name c.args.arguments.now c.text-item.result
    c.pattern-item.result c.in-len2.len_at_least c.in-len2.len_below c.text-item.is c.pattern-item.is))

pub make_truth-returns-in_ok-new-in-Query-clause-made
    : goal.make_truth-returns-in_ok-new-in-Query-clause-made
make_truth-returns-in_ok-new-in-Query-clause-made t c = λ all h.
    let a = argument_of c.args.argument.now in
    ap (truth_argument (form_of a)) (ap (logical_in all) c.in_ok-new-in-Query.ensures.ok
    ∙ test_read all c.in_ok-nodes-in-Query.nodes ∙ ap source_test (c.in_ok-nodes-in-Query.ensures.made all h))
    ∙ query_written a _ (ap argument_of c.in-Query.is ∙ query_argument_made c.in-Query.query)

pub make_truth-returns-in_ok-new-in-Logical-clause-made
    : goal.make_truth-returns-in_ok-new-in-Logical-clause-made
make_truth-returns-in_ok-new-in-Logical-clause-made t c = λ all h.
    let a = argument_of c.args.argument.now in
    ap (truth_argument (form_of a)) (ap (logical_in all) c.in_ok-new-in-Logical.ensures.ok
    ∙ c.in_ok-made-in-Logical.ensures.made all h)
    ∙ logical_written a _ (ap argument_of c.in-Logical.is ∙ logical_argument_made c.in-Logical.logical)

pub make_truth-returns-in_ok-new-in-Call-clause-made
    : goal.make_truth-returns-in_ok-new-in-Call-clause-made
make_truth-returns-in_ok-new-in-Call-clause-made t c = λ all h.
    let a = argument_of c.args.argument.now in
    ap (truth_argument (form_of a)) (ap (logical_in all) c.in_ok-new-in-Call.ensures.ok
    ∙ c.in_ok-made-in-Call.ensures.made all h)
    ∙ call_written a _ (ap argument_of c.in-Call.is ∙ call_argument_made c.in-Call.call)

pub make_xor-returns-clause-roots : goal.make_xor-returns-clause-roots
make_xor-returns-clause-roots c = grind (arith, common_steps)

pub make_comparison-returns-clause-roots : goal.make_comparison-returns-clause-roots
make_comparison-returns-clause-roots c = grind (arith, common_steps)

pub make_text_test-returns-clause-roots : goal.make_text_test-returns-clause-roots
make_text_test-returns-clause-roots c = grind (arith, common_steps)

pub make_text_test-make_value-requires : goal.make_text_test-make_value-requires
make_text_test-make_value-requires t c = (
  grind (arith, common_steps),
  (
    argument_sound c.args.arguments.now 0 c.text-item.result (omega (arith, c.in-len2.len_at_least))
        c.text-item.is c.requires.sound,
    first_fits value_type (value_type ∷ []) c.args.arguments.now c.text-item.result
        (omega (arith, c.in-len2.len_at_least)) c.text-item.is c.requires.fit,
  ),
)

pub make_xor-make_truth-requires : goal.make_xor-make_truth-requires
make_xor-make_truth-requires t c = (
  grind (arith, common_steps),
  (
    argument_sound c.args.arguments.now 0 c.left-item.result (omega (arith, c.in-len2.len_at_least))
        c.left-item.is c.requires.sound,
    first_fits logical_type (logical_type ∷ []) c.args.arguments.now c.left-item.result
        (omega (arith, c.in-len2.len_at_least)) c.left-item.is c.requires.fit,
  ),
)

pub make_text_test-make_value-requires-2 : goal.make_text_test-make_value-requires-2
make_text_test-make_value-requires-2 t c = (
  grind (arith, common_steps),
  (
    argument_sound c.args.arguments.now 0 c.text-item.result (omega (arith, c.in-len2.len_at_least))
        c.text-item.is c.requires.sound,
    first_fits value_type (value_type ∷ []) c.args.arguments.now c.text-item.result
        (omega (arith, c.in-len2.len_at_least)) c.text-item.is c.requires.fit,
  ),
)

pub make_text_test-make_value-requires-3 : goal.make_text_test-make_value-requires-3
make_text_test-make_value-requires-3 t c = (
  grind (arith, common_steps),
  (
    argument_sound c.args.arguments.now 1 c.pattern-item.result (omega (arith, c.in-len2.len_at_least))
        c.pattern-item.is c.requires.sound,
    second_fits value_type value_type [] c.args.arguments.now c.pattern-item.result
        (omega (arith, c.in-len2.len_at_least)) c.pattern-item.is c.requires.fit,
  ),
)

pub make_xor-make_truth-requires-2 : goal.make_xor-make_truth-requires-2
make_xor-make_truth-requires-2 t c = (
  grind (arith, common_steps),
  (
    argument_sound c.args.arguments.now 1 c.right-item.result (omega (arith, c.in-len2.len_at_least))
        c.right-item.is c.requires.sound,
    second_fits logical_type logical_type [] c.args.arguments.now c.right-item.result
        (omega (arith, c.in-len2.len_at_least)) c.right-item.is c.requires.fit,
  ),
)

pub make_parts-make_logical-requires : goal.make_parts-make_logical-requires
make_parts-make_logical-requires t c = (
  search (rules, the_lemmas),
  sound_at (λ xs. logicals_numbers (tree.logicals (logicals_of xs)))
      (λ xs. logicals_typed (tree.logicals (logicals_of xs))) (λ x. logical_numbers (logical_of x))
      (λ x. logical_typed (logical_of x)) (λ x xs. refl) (λ x xs. refl) c.args.parts.now
      c.loop-part.part-index c.part-item.result c.loop-part-test.true c.part-item.is c.requires.sound,
)

pub make_selectors-make_selector-requires : goal.make_selectors-make_selector-requires
make_selectors-make_selector-requires t c = (
  search (rules, the_lemmas),
  sound_at (λ xs. selectors_numbers (tree.selectors (selectors_of xs)))
      (λ xs. selectors_typed (tree.selectors (selectors_of xs))) (λ x. selector_numbers (selector_of x))
      (λ x. selector_typed (selector_of x)) (λ x xs. refl) (λ x xs. refl) c.args.selectors.now
      c.loop-selector.selector-index c.selector-item.result c.loop-selector-test.true c.selector-item.is
      c.requires.sound,
)

pub make_segments-make_selectors-requires : goal.make_segments-make_selectors-requires
make_segments-make_selectors-requires t c =
    let one = sound_at (λ xs. segments_numbers (tree.segments (segments_of xs)))
    (λ xs. segments_typed (tree.segments (segments_of xs))) (λ x. segment_numbers (segment_of x))
    (λ x. segment_typed (segment_of x)) (λ x xs. refl) (λ x xs. refl) c.args.segments.now
    c.loop-segment.segment-index c.segment-item.result c.loop-segment-test.true c.segment-item.is
    c.requires.sound in (
      search (rules, the_lemmas),
      subst (λ xs. IsSound (selectors_numbers (tree.selectors (selectors_of xs)))
          (selectors_typed (tree.selectors (selectors_of xs)))) (sym c.as_slice.ensures.value)
          (subst (λ x. IsSound (segment_numbers x) (segment_typed x)) (segment_level c.segment-item.result)
          one),
    )

pub make_distinct-unreachable-requires : goal.make_distinct-unreachable-requires
make_distinct-unreachable-requires t c =
    let one : length c.as_slice.result.now ≡ 1 = ap length c.as_slice.ensures.value
    ∙ nodes_of_one c.args.call.now c.requires.sound.1 c.requires.serves in
    grind (arith, one)

pub make_value_call-unreachable-requires : goal.make_value_call-unreachable-requires
make_value_call-unreachable-requires t c =
    let one : length c.as_slice.result.now ≡ 1 = ap length c.as_slice.ensures.value
    ∙ value_of_one c.args.call.now c.requires.sound.1 c.requires.serves in
    grind (arith, one)

pub make_xor-unreachable-requires : goal.make_xor-unreachable-requires
make_xor-unreachable-requires t c =
    let two : length c.args.arguments.now ≡ 2 = two_fit logical_type logical_type c.args.arguments.now
    c.requires.fit in
    grind (arith, two)

pub make_text_test-unreachable-requires : goal.make_text_test-unreachable-requires
make_text_test-unreachable-requires t c =
    let two : length c.args.arguments.now ≡ 2 = two_fit value_type value_type c.args.arguments.now
    c.requires.fit in
    grind (arith, two)

pub make_test_call-make_text_test-requires : goal.make_test_call-make_text_test-requires
make_test_call-make_text_test-requires t c =
    let told = c.in-Some-Match.field-0-is in
    let known : function_named (chars c.as_str.result.now) ≡ Some match_function =
    sym c.function_named-function.ensures ∙ ap (option_map function_of) c.in-Some-Match.is
    ∙ ap (λ f. Some (function_of f)) (rw c.in-Some-Match.is at told) in
    let same = called c.args.call.now c.as_str.result.now (chars c.as_str.result.now)
    c.as_slice-arguments.result.now c.as_str.ensures.value refl c.as_slice-arguments.ensures.value in
    let fit = fitting (chars c.as_str.result.now) c.as_slice-arguments.result.now match_function known
    (subst (λ x. IsSound (call_numbers x) (call_typed x)) same c.requires.sound) in (
      search (rules, the_lemmas),
      (fit.0, (fit.1, inl (c.function_named-function.ensures ∙ known))),
    )

pub make_test_call-make_text_test-requires-in-Some-Search
    : goal.make_test_call-make_text_test-requires-in-Some-Search
make_test_call-make_text_test-requires-in-Some-Search t c =
    let told = c.in-Some-Search.field-0-is in
    let known : function_named (chars c.as_str.result.now) ≡ Some search_function =
    sym c.function_named-function.ensures ∙ ap (option_map function_of) c.in-Some-Search.is
    ∙ ap (λ f. Some (function_of f)) (rw c.in-Some-Search.is at told) in
    let same = called c.args.call.now c.as_str.result.now (chars c.as_str.result.now)
    c.as_slice-arguments.result.now c.as_str.ensures.value refl c.as_slice-arguments.ensures.value in
    let fit = fitting (chars c.as_str.result.now) c.as_slice-arguments.result.now search_function known
    (subst (λ x. IsSound (call_numbers x) (call_typed x)) same c.requires.sound) in (
      search (rules, the_lemmas),
      (fit.0, (fit.1, inr (c.function_named-function.ensures ∙ known))),
    )

-- the literal patterns
pub make_comparison-returns-clause-patterns : goal.make_comparison-returns-clause-patterns
make_comparison-returns-clause-patterns t c =
    listed_same _ _ _ _
    (listed_on _ _ _ _ _ c.in_ok-left.ensures.patterns c.in_ok-right.ensures.patterns)
    (sym (ap comparison_patterns (comparison_level c.args.comparison.now)))

pub make_nodes-returns-in-Current-clause-patterns : goal.make_nodes-returns-in-Current-clause-patterns
make_nodes-returns-in-Current-clause-patterns t c =
    listed_same _ _ _ _ c.in_ok-segments.ensures.patterns
    (ap (λ ss. segments_patterns (tree.segments (segments_of ss))) c.as_slice.ensures.value
    ∙ sym (ap literal_patterns (query_level c.args.query.now)))

pub make_nodes-returns-in_ok-slot-in-Root-clause-patterns
    : goal.make_nodes-returns-in_ok-slot-in-Root-clause-patterns
make_nodes-returns-in_ok-slot-in-Root-clause-patterns t c =
    listed_same _ _ _ _ (ap known_texts c.in_ok-slot-in-Root.ensures.patterns
    ∙ c.in_ok-segments.ensures.patterns)
    (ap (λ ss. segments_patterns (tree.segments (segments_of ss))) c.as_slice.ensures.value
    ∙ sym (ap literal_patterns (query_level c.args.query.now)))

pub make_value_call-returns-in_ok-new-in-Some-Length-clause-patterns
    : goal.make_value_call-returns-in_ok-new-in-Some-Length-clause-patterns
make_value_call-returns-in_ok-new-in-Some-Length-clause-patterns t c =
    let known : function_named (chars c.as_str.result.now) ≡ Some length_function =
    sym (ap (option_map function_of) (sym c.in-Some-Length.is) ∙ c.function_named.ensures)
    ∙ ap (λ f. Some (function_of f)) c.in-Some-Length.field-0-is in
    listed_same _ _ _ _ c.in_ok-value-in-Some-Length.ensures.patterns
    (one_patterns c.args.call.now c.as_str.result.now (codes "length") c.as_slice.result.now
    c.argument-item.result refl c.as_str.ensures.value (named _ length_function known)
    c.as_slice.ensures.value c.in-len1.len_at_least c.in-len1.len_below c.argument-item.is)

pub make_value_call-returns-in_ok-make_argument_nodes-in-Some-Count-clause-patterns
    : goal.make_value_call-returns-in_ok-make_argument_nodes-in-Some-Count-clause-patterns
make_value_call-returns-in_ok-make_argument_nodes-in-Some-Count-clause-patterns t c =
    let known : function_named (chars c.as_str.result.now) ≡ Some count_function =
    sym (ap (option_map function_of) (sym c.in-Some-Count.is) ∙ c.function_named.ensures)
    ∙ ap (λ f. Some (function_of f)) c.in-Some-Count.field-0-is in
    listed_same _ _ _ _ c.in_ok-make_argument_nodes-in-Some-Count.ensures.patterns
    (one_patterns c.args.call.now c.as_str.result.now (codes "count") c.as_slice.result.now
    c.argument-item.result refl c.as_str.ensures.value (named _ count_function known)
    c.as_slice.ensures.value c.in-len1.len_at_least c.in-len1.len_below c.argument-item.is)

pub make_value_call-returns-in_ok-make_argument_nodes-in-Some-Value-clause-patterns
    : goal.make_value_call-returns-in_ok-make_argument_nodes-in-Some-Value-clause-patterns
make_value_call-returns-in_ok-make_argument_nodes-in-Some-Value-clause-patterns t c =
    let known : function_named (chars c.as_str.result.now) ≡ Some value_function =
    sym (ap (option_map function_of) (sym c.in-Some-Value.is) ∙ c.function_named.ensures)
    ∙ ap (λ f. Some (function_of f)) c.in-Some-Value.field-0-is in
    listed_same _ _ _ _ c.in_ok-make_argument_nodes-in-Some-Value.ensures.patterns
    (one_patterns c.args.call.now c.as_str.result.now (codes "value") c.as_slice.result.now
    c.argument-item.result refl c.as_str.ensures.value (named _ value_function known)
    c.as_slice.ensures.value c.in-len1.len_at_least c.in-len1.len_below c.argument-item.is)

pub make_distinct-returns-clause-patterns : goal.make_distinct-returns-clause-patterns
make_distinct-returns-clause-patterns t c =
    let known : function_named (chars c.as_str.result.now) ≡ Some distinct_function =
    sym (ap (option_map function_of) (sym c.in-Some-Distinct.is) ∙ c.function_named.ensures)
    ∙ ap (λ f. Some (function_of f)) c.in-Some-Distinct.field-0-is in
    listed_same _ _ _ _ c.in_ok-nodes.ensures.patterns
    (one_patterns c.args.call.now c.as_str.result.now (codes "distinct") c.as_slice.result.now
    c.argument-item.result refl c.as_str.ensures.value (named _ distinct_function known)
    c.as_slice.ensures.value c.in-len1.len_at_least c.in-len1.len_below c.argument-item.is)

pub make_test_call-returns-in-Some-Xor-clause-patterns
    : goal.make_test_call-returns-in-Some-Xor-clause-patterns
make_test_call-returns-in-Some-Xor-clause-patterns t c =
    let told = c.in-Some-Xor.field-0-is in
    let name = chars c.as_str.result.now in
    let known : function_named name ≡ Some xor_function = sym c.function_named-function.ensures
    ∙ ap (option_map function_of) c.in-Some-Xor.is
    ∙ ap (λ f. Some (function_of f)) (rw c.in-Some-Xor.is at told) in
    on_ok_weaker c.make_xor.result (λ h. listed_same _ _ _ _ h
    (called_patterns c.args.call.now c.as_str.result.now name c.as_slice-arguments.result.now
    (Some xor_function) known c.as_str.ensures.value refl c.as_slice-arguments.ensures.value))
    c.make_xor.ensures.patterns

pub make_test_call-returns-in-Some-Match-clause-patterns
    : goal.make_test_call-returns-in-Some-Match-clause-patterns
make_test_call-returns-in-Some-Match-clause-patterns t c =
    let told = c.in-Some-Match.field-0-is in
    let name = chars c.as_str.result.now in
    let known : function_named name ≡ Some match_function = sym c.function_named-function.ensures
    ∙ ap (option_map function_of) c.in-Some-Match.is
    ∙ ap (λ f. Some (function_of f)) (rw c.in-Some-Match.is at told) in
    on_ok_weaker c.make_text_test.result (λ h. listed_same _ _ _ _ h
    (called_patterns c.args.call.now c.as_str.result.now name c.as_slice-arguments.result.now
    (Some match_function) known c.as_str.ensures.value refl c.as_slice-arguments.ensures.value))
    c.make_text_test.ensures.patterns

pub make_test_call-returns-in-Some-Search-clause-patterns
    : goal.make_test_call-returns-in-Some-Search-clause-patterns
make_test_call-returns-in-Some-Search-clause-patterns t c =
    let told = c.in-Some-Search.field-0-is in
    let name = chars c.as_str.result.now in
    let known : function_named name ≡ Some search_function = sym c.function_named-function.ensures
    ∙ ap (option_map function_of) c.in-Some-Search.is
    ∙ ap (λ f. Some (function_of f)) (rw c.in-Some-Search.is at told) in
    on_ok_weaker c.make_text_test-in-Some-Search.result (λ h. listed_same _ _ _ _ h
    (called_patterns c.args.call.now c.as_str.result.now name c.as_slice-arguments.result.now
    (Some search_function) known c.as_str.ensures.value refl c.as_slice-arguments.ensures.value))
    c.make_text_test-in-Some-Search.ensures.patterns

pub make_xor-returns-clause-patterns : goal.make_xor-returns-clause-patterns
make_xor-returns-clause-patterns t c =
    listed_same _ _ _ _
    (ap known_texts (c.in_ok-second.ensures.patterns ∙ c.in_ok-first.ensures.patterns)
    ∙ listed_on _ _ _ _ _ c.in_ok-one.ensures.patterns c.in_ok-other.ensures.patterns)
    (two_patterns c.args.arguments.now c.left-item.result c.right-item.result c.in-len2.len_at_least
    c.in-len2.len_below c.left-item.is c.right-item.is)

pub make_text_test-returns-clause-patterns : goal.make_text_test-returns-clause-patterns
make_text_test-returns-clause-patterns t c =
    listed_same _ _ _ _
    (listed_on _ _ _ _ _ c.in_ok-text-2.ensures.patterns c.in_ok-pattern-2.ensures.patterns)
    (other_patterns c.args.arguments.now c.text-item.result c.pattern-item.result
    c.in-len2.len_at_least c.in-len2.len_below c.text-item.is c.pattern-item.is
    c.in_default-literal_text.ensures)

pub make_text_test-returns-in-Some-clause-patterns : goal.make_text_test-returns-in-Some-clause-patterns
make_text_test-returns-in-Some-clause-patterns t c =
    listed_same _ _ _ _
    (listed_on _ _ _ _ _ c.in_ok-pattern.ensures.listed c.in_ok-text.ensures.patterns)
    (read_patterns c.args.arguments.now c.text-item.result c.pattern-item.result
    c.in-len2.len_at_least c.in-len2.len_below c.text-item.is c.pattern-item.is
    (chars c.in-Some.pattern.now) c.in-Some.ensures)
