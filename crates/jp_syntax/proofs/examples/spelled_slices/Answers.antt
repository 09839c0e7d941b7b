use Rattle.std.proofs.Common.{refl}
use Rattle.jp_syntax.proofs.Computed.{spelled}
use Rattle.jp_tokens.specs.Reading.{run_at, mark_at, many, all_of, int_at, minus_at, whole_at, fraction_at}
use Rattle.jp_tokens.specs.Reading.{exponent_at, number_at, hex_at, pair_at, unicode_at, escape_at, piece_at}
use Rattle.jp_tokens.specs.Reading.{word_at, literal_at, bound_at, step_at, slice_at, index_or_slice}
use Rattle.jp_tokens.specs.Reading.{numbers_at, operator_at, named_at}
use Rattle.jp_syntax.specs.inner.Reading.{next_item, items_at, lone_literal_at, next_part, tested_at}
use Rattle.jp_syntax.specs.inner.Reading.{selector_at}
use Rattle.jp_syntax.specs.inner.Reading.{descendant_at, dotted_at, segment_behind, query_at, argument_at}
use Rattle.jp_syntax.specs.inner.Reading.{arguments_at, call_at, operand_at, grouped_at, plain_at, right_at}
use Rattle.jp_syntax.specs.inner.Reading.{basic_at, and_at, or_at, logical_at, compared_behind, read}
use Rattle.jp_syntax.proofs.examples.spelled_slices.Goals as goal

pub returns : goal.returns
unfolding run_at mark_at many all_of next_item items_at int_at minus_at whole_at fraction_at exponent_at
    number_at hex_at pair_at unicode_at escape_at piece_at word_at literal_at bound_at step_at slice_at
    index_or_slice numbers_at operator_at lone_literal_at next_part named_at tested_at selector_at
    descendant_at dotted_at segment_behind query_at argument_at arguments_at call_at operand_at grouped_at
    plain_at right_at basic_at and_at or_at logical_at compared_behind read
returns c = record {
  whole = spelled _ _ refl;
  blanks_between = spelled _ _ refl;
  blanks_around = spelled _ _ refl;
  first_alone = spelled _ _ refl;
  past_alone = spelled _ _ refl;
  step_alone = spelled _ _ refl;
  nothing = spelled _ _ refl;
  two_colons = spelled _ _ refl;
  then_an_index = spelled _ _ refl;
}
