use Rattle.std.proofs.Common.{refl}
use Rattle.jp_syntax.proofs.Computed.{spelled}
use Rattle.jp_tokens.specs.Reading.{run_at, mark_at, many, all_of, int_at, minus_at, whole_at, fraction_at}
use Rattle.jp_tokens.specs.Reading.{exponent_at, number_at, hex_at, pair_at, unicode_at, escape_at, piece_at}
use Rattle.jp_tokens.specs.Reading.{word_at, literal_at, bound_at, step_at, slice_at, index_or_slice}
use Rattle.jp_tokens.specs.Reading.{numbers_at, operator_at, named_at}
use Rattle.jp_syntax.specs.inner.Reading.{next_item, items_at, lone_literal_at, next_part, tested_at}
use Rattle.jp_syntax.specs.inner.Reading.{selector_at}
use Rattle.jp_syntax.specs.inner.Reading.{descendant_at, dotted_at, segment_behind, query_at, argument_at}
use Rattle.jp_syntax.specs.inner.Reading.{arguments_at, call_at, operand_at, grouped_at, plain_at, right_at}
use Rattle.jp_syntax.specs.inner.Reading.{basic_at, and_at, or_at, logical_at, compared_behind, read}
use Rattle.jp_syntax.proofs.examples.spelled_calls.Goals as goal

pub returns : goal.returns
unfolding run_at mark_at many all_of next_item items_at int_at minus_at whole_at fraction_at exponent_at
    number_at hex_at pair_at unicode_at escape_at piece_at word_at literal_at bound_at step_at slice_at
    index_or_slice numbers_at operator_at lone_literal_at next_part named_at tested_at selector_at
    descendant_at dotted_at segment_behind query_at argument_at arguments_at call_at operand_at grouped_at
    plain_at right_at basic_at and_at or_at logical_at compared_behind read
returns c = record {
  no_argument = spelled _ _ refl;
  blank_and_no_argument = spelled _ _ refl;
  function_name = spelled _ _ refl;
  call_named_true = spelled _ _ refl;
  true_compared = spelled _ _ refl;
  two_arguments = spelled _ _ refl;
  blanks_around_arguments = spelled _ _ refl;
}
