use Rattle.std.proofs.Common.{◌∙◌, [], refl, ap, sym}
use Rattle.jp_tree.specs.Tree.{segments, selectors, logicals, arguments}
use Rattle.jp_tree.specs.View.{text_of}
use Rattle.jp_tree.specs.PartViews.{comparable_of, call_of, logical_of, segments_of, selectors_of}
use Rattle.jp_tree.specs.PartViews.{logicals_of, arguments_of}
use Rattle.jp_tree.proofs.Views.{value_call_made, test_call_made}
use Rattle.jp_types.specs.Numbers.{call_numbers, comparable_numbers, segments_numbers, selectors_numbers}
use Rattle.jp_types.specs.Numbers.{logical_numbers, logicals_numbers, arguments_numbers}
use Rattle.jp_types.specs.Faults.{faults_of}
use Rattle.jp_types.specs.Functions.{function_named, logical_type, value_type}
use Rattle.jp_types.specs.Typing.{fits_parameters, call_typed, comparable_typed, segments_typed}
use Rattle.jp_types.specs.Typing.{selectors_typed, logical_typed, logicals_typed, arguments_typed}
use Rattle.jp_types.specs.Typing.{serves_as, type_of_call}
use Rattle.jp_types.proofs.Levels.{comparison_level, query_level, segment_level, call_level}
use Rattle.jp_types.proofs.FaultLaws.{joined_faults, joined_use, parts_end, parts_next}
use Rattle.jp_types.proofs.walk.+walk.Goals as goal

pub query_faults-loop-segment-preserved : goal.query_faults-loop-segment-preserved
query_faults-loop-segment-preserved t c =
    parts_next (λ xs. segments_numbers (segments (segments_of xs)))
    (λ xs. segments_typed (segments (segments_of xs))) c.deref-segment-items.result.now
    c.loop-segment.segment-index c.segment-item.result c.loop-segment.faults c.segment_faults.result
    c.with-faults.result _ _ _ refl refl c.loop-segment-test.true c.segment-item.is
    c.segment_faults.ensures c.with-faults.ensures c.loop-segment.invariant

pub query_faults-returns : goal.query_faults-returns
query_faults-returns t c =
    rw (query_level, ← c.deref-segment-items.ensures.value)
    (parts_end (λ xs. segments_numbers (segments (segments_of xs)))
    (λ xs. segments_typed (segments (segments_of xs))) c.deref-segment-items.result.now
    c.loop-segment.segment-index c.loop-segment.faults _ refl refl c.loop-segment-test.false
    c.loop-segment.invariant)

pub segment_faults-loop-selector-preserved : goal.segment_faults-loop-selector-preserved
segment_faults-loop-selector-preserved t c =
    parts_next (λ xs. selectors_numbers (selectors (selectors_of xs)))
    (λ xs. selectors_typed (selectors (selectors_of xs))) c.deref-selector-items.result.now
    c.loop-selector.selector-index c.selector-item.result c.loop-selector.faults
    c.selector_faults.result c.with-faults.result _ _ _ refl refl c.loop-selector-test.true
    c.selector-item.is c.selector_faults.ensures c.with-faults.ensures c.loop-selector.invariant

pub segment_faults-returns : goal.segment_faults-returns
segment_faults-returns t c =
    rw (segment_level, ← c.deref-selector-items.ensures.value)
    (parts_end (λ xs. selectors_numbers (selectors (selectors_of xs)))
    (λ xs. selectors_typed (selectors (selectors_of xs))) c.deref-selector-items.result.now
    c.loop-selector.selector-index c.loop-selector.faults _ refl refl c.loop-selector-test.false
    c.loop-selector.invariant)

pub parts_faults-loop-part-preserved : goal.parts_faults-loop-part-preserved
parts_faults-loop-part-preserved t c =
    parts_next (λ xs. logicals_numbers (logicals (logicals_of xs)))
    (λ xs. logicals_typed (logicals (logicals_of xs))) c.args.parts.now c.loop-part.part-index
    c.part-item.result c.loop-part.faults c.logical_faults.result c.with-faults.result _ _ _ refl refl
    c.loop-part-test.true c.part-item.is c.logical_faults.ensures c.with-faults.ensures
    c.loop-part.invariant

pub comparison_faults-returns : goal.comparison_faults-returns
comparison_faults-returns t c =
    let sides = c.args.comparison.now in
    rw comparison_level (c.with.ensures ∙ rw (c.comparable_faults.ensures, c.comparable_faults-2.ensures)
    (joined_faults (comparable_numbers (comparable_of sides.left))
    (comparable_numbers (comparable_of sides.right)) (comparable_typed (comparable_of sides.left))
    (comparable_typed (comparable_of sides.right))))

pub comparable_faults-returns-in-Call : goal.comparable_faults-returns-in-Call
comparable_faults-returns-in-Call t c =
    let call = call_of c.in-Call.call in
    c.with.ensures ∙ rw (c.call_faults.ensures, c.of_use.ensures, c.serves_as.ensures)
    (joined_use (call_numbers call) (call_typed call) (serves_as value_type (type_of_call call))
    ∙ ap (λ x. faults_of (comparable_numbers x) (comparable_typed x))
    (sym (ap comparable_of c.in-Call.is ∙ value_call_made c.in-Call.call)))

pub logical_faults-returns-in-Call : goal.logical_faults-returns-in-Call
logical_faults-returns-in-Call t c =
    let call = call_of c.in-Call.call in
    c.with.ensures ∙ rw (c.call_faults.ensures, c.of_use.ensures, c.serves_as.ensures)
    (joined_use (call_numbers call) (call_typed call) (serves_as logical_type (type_of_call call))
    ∙ ap (λ x. faults_of (logical_numbers x) (logical_typed x))
    (sym (ap logical_of c.in-Call.is ∙ test_call_made c.in-Call.call)))

pub call_faults-loop-argument-preserved : goal.call_faults-loop-argument-preserved
call_faults-loop-argument-preserved t c =
    parts_next (λ xs. arguments_numbers (arguments (arguments_of xs)))
    (λ xs. arguments_typed (arguments (arguments_of xs))) c.deref-argument-items.result.now
    c.loop-argument.argument-index c.argument-item.result c.loop-argument.faults
    c.argument_faults.result c.with-faults.result _ _ _ refl refl c.loop-argument-test.true
    c.argument-item.is c.argument_faults.ensures c.with-faults.ensures c.loop-argument.invariant

pub call_faults-returns : goal.call_faults-returns
call_faults-returns t c =
    let given = arguments (arguments_of c.deref-argument-items.result.now) in
    rw (call_level, ← c.deref-argument-items.ensures.value)
    (parts_end (λ xs. arguments_numbers (arguments (arguments_of xs)))
    (λ xs. arguments_typed (arguments (arguments_of xs))) c.deref-argument-items.result.now
    c.loop-argument.argument-index c.loop-argument.faults _ refl refl c.loop-argument-test.false
    c.loop-argument.invariant
    ∙ rw (
      c.of_use-faults.ensures,
      c.fits_parameters-fits.ensures,
      c.function_named-function.ensures,
      c.as_str.ensures.value,
      c.as_slice.ensures.value,
      ← c.deref-argument-items.ensures.value,
    )
    (joined_faults [] (arguments_numbers given)
    (fits_parameters (function_named (text_of c.args.call.now.name)) given) (arguments_typed given)))
