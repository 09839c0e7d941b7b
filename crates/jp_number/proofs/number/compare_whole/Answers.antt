use Rattle.std.proofs.Common.{ap, ◌∙◌}
use Rattle.std.specs.Prelude.{FitsSigned, unsigned_abs}
use Rattle.std.specs.Int.{w128}
use Rattle.std.proofs.lemmas.Int.{to_z-of_z}
use Rattle.jp_number.proofs.Signs.{order_is, of_text, of_whole, wide_digits}
use Rattle.jp_number.proofs.number.compare_whole.Goals as goal

pub whole_size-left_size-requires-clause-all : goal.whole_size-left_size-requires-clause-all
whole_size-left_size-requires-clause-all c =
    wide_digits c.unsigned_abs.result c.as_bytes.result.now (c.as_bytes.ensures.value ∙ c.format.ensures.text)
    c.unsigned_abs.ensures.bound

pub returns : goal.returns
returns c =
    let size = c.whole_size-left_size.ensures in
    let fits : FitsSigned w128 c.args.left = c.ranges.left in
    let z = to_z-of_z w128 c.args.left fits in
    order_is _ _ _ _ _ _ c.compare_signed.result
    (of_whole c.args.left c.unsigned_abs.result c.whole_size-left_size.result
    (c.unsigned_abs.ensures.value ∙ ap unsigned_abs z)
    (size.digits ∙ c.as_bytes.ensures.value ∙ c.format.ensures.text) c.unsigned_abs.ensures.bound
    size.no_powers.0 size.no_powers.1)
    (of_text _ _ _ _ c.as_bytes-2.ensures.value c.read_size-right_negative.ensures.sign
    c.read_size-right_negative.ensures.size)
    (simp to_z-of_z at c.compare_signed.ensures)
