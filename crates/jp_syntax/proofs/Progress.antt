-- The loops of the reader get on.
use Rattle.std.proofs.Common.{ℕ, [], ◌∷◌}
use Rattle.jp_tree.specs.Parts.{Behind, After}
use Rattle.jp_tree.specs.Spelling.{SelectorIs, SegmentIs, ArgumentIs, BasicIs, AndIs, LogicalIs}
use Rattle.jp_tokens.specs.Reading.{skip}
use Rattle.jp_syntax.specs.declared.connective.Connective.{Connective}
use Rattle.jp_syntax.specs.declared.connective.Connective.TheVariants.{And, Or}
use Rattle.jp_syntax.specs.inner.Reading.{next_item, next_part, selector_at, argument_at, segment_behind}
use Rattle.jp_syntax.specs.inner.Reading.{mark_of, part_at, basic_at, and_at, logical_at}
use Rattle.jp_syntax.proofs.NotEmpty.{after_some, segment_some}
use Rattle.jp_syntax.proofs.Operands.{logical_firm}
use Rattle.jp_syntax.proofs.PartsSound.{Closing, Nothing, next_sound, selector_sound, segment_sound}
use Rattle.jp_syntax.proofs.ReadSound.{argument_sound, basic_sound, and_sound, turn_sound, logical_sound}
use Rattle.jp_tokens.proofs.Turns.{GetsOn, gets_on}

module _ (n : ℕ) where
  pub selectors_get_on : GetsOn (λ u. next_item 93 (selector_at (logical_at n)) (skip u))
  selectors_get_on =
      gets_on (λ u. next_item 93 (selector_at (logical_at n)) (skip u))
      (After (44 ∷ []) (SelectorIs (LogicalIs n))) (Closing 93)
      (next_sound 93 (selector_at (logical_at n)) (SelectorIs (LogicalIs n))
      (selector_sound (logical_at n) (LogicalIs n) (logical_sound n)))
      (after_some 44 [] (SelectorIs (LogicalIs n)))

  pub arguments_get_on : GetsOn (λ u. next_item 41 (argument_at (logical_at n)) (skip u))
  arguments_get_on =
      gets_on (λ u. next_item 41 (argument_at (logical_at n)) (skip u))
      (After (44 ∷ []) (ArgumentIs (LogicalIs n))) (Closing 41)
      (next_sound 41 (argument_at (logical_at n)) (ArgumentIs (LogicalIs n))
      (argument_sound (logical_at n) (LogicalIs n) (logical_sound n) (logical_firm n)))
      (after_some 44 [] (ArgumentIs (LogicalIs n)))

  pub segments_get_on : GetsOn (λ u. segment_behind (logical_at n) u (skip u))
  segments_get_on =
      gets_on (λ u. segment_behind (logical_at n) u (skip u)) (Behind (SegmentIs (LogicalIs n))) Nothing
      (segment_sound (logical_at n) (LogicalIs n) (logical_sound n))
      (segment_some (LogicalIs n))

  pub parts_get_on : (by : Connective)
      → GetsOn (λ u. next_part (mark_of by) (part_at (logical_at n) by) u (skip u))
  parts_get_on And =
      gets_on (λ u. next_part 38 (basic_at (logical_at n)) u (skip u))
      (After (38 ∷ 38 ∷ []) (BasicIs (LogicalIs n))) Nothing
      (turn_sound (logical_at n) (LogicalIs n) (logical_sound n) (logical_firm n) 38 (basic_at (logical_at n))
      (BasicIs (LogicalIs n)) (basic_sound (logical_at n) (LogicalIs n) (logical_sound n) (logical_firm n)))
      (after_some 38 (38 ∷ []) (BasicIs (LogicalIs n)))
  parts_get_on Or =
      gets_on (λ u. next_part 124 (and_at (logical_at n)) u (skip u))
      (After (124 ∷ 124 ∷ []) (AndIs (LogicalIs n))) Nothing
      (turn_sound (logical_at n) (LogicalIs n) (logical_sound n) (logical_firm n) 124 (and_at (logical_at n))
      (AndIs (LogicalIs n)) (and_sound (logical_at n) (LogicalIs n) (logical_sound n) (logical_firm n)))
      (after_some 124 (124 ∷ []) (AndIs (LogicalIs n)))
