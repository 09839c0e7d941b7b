use Rattle.std.proofs.Common.{◌≡◌, drop}
use Rattle.jp_tree.specs.Tree.{segments, selectors, logicals, arguments}
use Rattle.jp_tree.specs.PartViews.{segments_of, selectors_of, logicals_of, arguments_of}
use Rattle.jp_types.specs.Faults.{faults_of, joined}
use Rattle.jp_types.specs.Numbers.{segments_numbers, selectors_numbers, logicals_numbers}
use Rattle.jp_types.specs.Numbers.{arguments_numbers}
use Rattle.jp_types.specs.Typing.{segments_typed, selectors_typed, logicals_typed, arguments_typed}
use Rattle.jp_types.proofs.walk.+walk.Given as goal

abbrev pub invariant-query_faults-loop-segment : goal.invariant-query_faults-loop-segment
invariant-query_faults-loop-segment l =
    let rest = segments (segments_of (drop l.segment-index l.segment-items)) in
    let all = segments (segments_of l.segment-items) in
    joined l.faults (faults_of (segments_numbers rest) (segments_typed rest))
    ≡ faults_of (segments_numbers all) (segments_typed all)

abbrev pub invariant-segment_faults-loop-selector : goal.invariant-segment_faults-loop-selector
invariant-segment_faults-loop-selector l =
    let rest = selectors (selectors_of (drop l.selector-index l.selector-items)) in
    let all = selectors (selectors_of l.selector-items) in
    joined l.faults (faults_of (selectors_numbers rest) (selectors_typed rest))
    ≡ faults_of (selectors_numbers all) (selectors_typed all)

abbrev pub invariant-parts_faults-loop-part : goal.invariant-parts_faults-loop-part
invariant-parts_faults-loop-part l =
    let rest = logicals (logicals_of (drop l.part-index l.parts)) in
    let all = logicals (logicals_of l.parts) in
    joined l.faults (faults_of (logicals_numbers rest) (logicals_typed rest))
    ≡ faults_of (logicals_numbers all) (logicals_typed all)

abbrev pub invariant-call_faults-loop-argument : goal.invariant-call_faults-loop-argument
invariant-call_faults-loop-argument l =
    let rest = arguments (arguments_of (drop l.argument-index l.argument-items)) in
    let all = arguments (arguments_of l.argument-items) in
    joined l.faults (faults_of (arguments_numbers rest) (arguments_typed rest))
    ≡ joined l.initial.faults (faults_of (arguments_numbers all) (arguments_typed all))
