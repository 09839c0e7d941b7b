use Rattle.std.proofs.Common.{◌≡◌, ℕ, ◌+◌, ◌*◌, length}
use Rattle.std.specs.Str.{chars}
use denote.Text.{Utf8}
use denote.Shadow.{shadow}
use Rattle.jp_tokens.specs.Reading.{skip, all_of}
use Rattle.jp_syntax.specs.declared.connective.Connective.{Connective}
use Rattle.jp_syntax.specs.declared.connective.Connective.TheVariants.{And, Or}
use Rattle.jp_syntax.specs.inner.Reading.{logical_at, part_at, parts_behind, segment_behind, next_item}
use Rattle.jp_syntax.specs.inner.Reading.{selector_at}
use Rattle.jp_syntax.specs.inner.Reading.{argument_at}
use Rattle.jp_tree.specs.PartViews.{selectors_of, segments_of, arguments_of, logicals_of}
use Rattle.jp_syntax.proofs.reader.+reader.Given as goal

-- what stands between parts that `&&` joins goes above those
abbrev above : Connective → ℕ
above And = 0
above Or = 5

abbrev pub decreases-joined_behind : goal.decreases-joined_behind
decreases-joined_behind l = 50 * l.left + 37 + above l.connective

abbrev pub decreases-parts_from : goal.decreases-parts_from
decreases-parts_from l = 50 * l.left + 36 + above l.connective

abbrev pub decreases-next_part : goal.decreases-next_part
decreases-next_part l = 50 * l.left + 35 + above l.connective

abbrev pub decreases-part_at : goal.decreases-part_at
decreases-part_at l = 50 * l.left + 34 + above l.connective

abbrev pub decreases-and_at : goal.decreases-and_at
decreases-and_at l = 50 * l.left + 38

abbrev pub decreases-basic_at : goal.decreases-basic_at
decreases-basic_at l = 50 * l.left + 33

abbrev pub decreases-right_at : goal.decreases-right_at
decreases-right_at l = 50 * l.left + 32

abbrev pub decreases-plain_at : goal.decreases-plain_at
decreases-plain_at l = 50 * l.left + 31

abbrev pub decreases-grouped_at : goal.decreases-grouped_at
decreases-grouped_at l = 50 * l.left + 30

abbrev pub decreases-operand_at : goal.decreases-operand_at
decreases-operand_at l = 50 * l.left + 29

abbrev pub decreases-call_at : goal.decreases-call_at
decreases-call_at l = 50 * l.left + 28

abbrev pub decreases-arguments_at : goal.decreases-arguments_at
decreases-arguments_at l = 50 * l.left + 27

abbrev pub decreases-arguments_from : goal.decreases-arguments_from
decreases-arguments_from l = 50 * l.left + 25

abbrev pub decreases-next_argument : goal.decreases-next_argument
decreases-next_argument l = 50 * l.left + 24

abbrev pub decreases-argument_at : goal.decreases-argument_at
decreases-argument_at l = 50 * l.left + 23

abbrev pub decreases-query_at : goal.decreases-query_at
decreases-query_at l = 50 * l.left + 22

abbrev pub decreases-segments_from : goal.decreases-segments_from
decreases-segments_from l = 50 * l.left + 20

abbrev pub decreases-segment_behind : goal.decreases-segment_behind
decreases-segment_behind l = 50 * l.left + 19

abbrev pub decreases-dotted_at : goal.decreases-dotted_at
decreases-dotted_at l = 50 * l.left + 18

abbrev pub decreases-descendant_at : goal.decreases-descendant_at
decreases-descendant_at l = 50 * l.left + 17

abbrev pub decreases-bracketed_at : goal.decreases-bracketed_at
decreases-bracketed_at l = 50 * l.left + 16

abbrev pub decreases-selectors_from : goal.decreases-selectors_from
decreases-selectors_from l = 50 * l.left + 15

abbrev pub decreases-next_selector : goal.decreases-next_selector
decreases-next_selector l = 50 * l.left + 14

abbrev pub decreases-selector_at : goal.decreases-selector_at
decreases-selector_at l = 50 * l.left + 13

abbrev pub decreases-compared_behind : goal.decreases-compared_behind
decreases-compared_behind l = 50 * l.left + 1

abbrev pub decreases-logical_at : goal.decreases-logical_at
decreases-logical_at l = 50 * l.left + 0

abbrev pub invariant-selectors_from-loop-found : goal.invariant-selectors_from-loop-found
invariant-selectors_from-loop-found l = shadow (Utf8 l.rest)
    × (all_of (λ u. next_item 93 (selector_at (logical_at l.left)) (skip u)) (selectors_of l.fn.found.items)
    (chars l.fn.text) ≡ all_of (λ u. next_item 93 (selector_at (logical_at l.left)) (skip u))
    (selectors_of l.found.items) (chars l.rest))

abbrev pub invariant-arguments_from-loop-found : goal.invariant-arguments_from-loop-found
invariant-arguments_from-loop-found l = shadow (Utf8 l.rest)
    × (all_of (λ u. next_item 41 (argument_at (logical_at l.left)) (skip u)) (arguments_of l.fn.found.items)
    (chars l.fn.text) ≡ all_of (λ u. next_item 41 (argument_at (logical_at l.left)) (skip u))
    (arguments_of l.found.items) (chars l.rest))

abbrev pub invariant-segments_from-loop-found : goal.invariant-segments_from-loop-found
invariant-segments_from-loop-found l = shadow (Utf8 l.rest)
    × (all_of (λ u. segment_behind (logical_at l.left) u (skip u)) (segments_of l.fn.found.items)
    (chars l.fn.text) ≡ all_of (λ u. segment_behind (logical_at l.left) u (skip u))
    (segments_of l.found.items) (chars l.rest))

abbrev pub invariant-parts_from-loop-found : goal.invariant-parts_from-loop-found
invariant-parts_from-loop-found l = shadow (Utf8 l.rest)
    × (parts_behind l.connective (part_at (logical_at l.left) l.connective) (logicals_of l.fn.found.items)
    (chars l.fn.text) ≡ parts_behind l.connective (part_at (logical_at l.left) l.connective)
    (logicals_of l.found.items) (chars l.rest))

abbrev pub decreases-selectors_from-loop-found : goal.decreases-selectors_from-loop-found
decreases-selectors_from-loop-found l = length (chars l.rest)

abbrev pub decreases-arguments_from-loop-found : goal.decreases-arguments_from-loop-found
decreases-arguments_from-loop-found l = length (chars l.rest)

abbrev pub decreases-segments_from-loop-found : goal.decreases-segments_from-loop-found
decreases-segments_from-loop-found l = length (chars l.rest)

abbrev pub decreases-parts_from-loop-found : goal.decreases-parts_from-loop-found
decreases-parts_from-loop-found l = length (chars l.rest)
