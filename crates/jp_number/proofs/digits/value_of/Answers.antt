use Rattle.std.proofs.Common.{◌<◌, ◌^◌, take, arith}
use Rattle.std.specs.Str.Parse.{digits_value}
use Rattle.jp_number.proofs.Fronts.{at_range, few_value, next_value}
use Rattle.jp_number.proofs.digits.value_of.Goals as goal

pub overflow_mul-value : goal.overflow_mul-value
overflow_mul-value c =
    let h : digits_value 10 (take c.loop-digit.digit-index c.args.digits.now) < 10 ^ 9 =
    few_value c.args.digits.now c.loop-digit.digit-index c.requires.all c.requires.few in
    omega (arith, h, c.loop-digit.invariant)

pub overflow_sub-value : goal.overflow_sub-value
overflow_sub-value c = (at_range c.args.digits.now c.loop-digit.digit-index 0 c.requires.all (omega arith)).0

pub overflow_add-value : goal.overflow_add-value
overflow_add-value c =
    let h : digits_value 10 (take c.loop-digit.digit-index c.args.digits.now) < 10 ^ 9 =
    few_value c.args.digits.now c.loop-digit.digit-index c.requires.all c.requires.few in
    let r = at_range c.args.digits.now c.loop-digit.digit-index 0 c.requires.all (omega arith) in
    omega (arith, h, c.loop-digit.invariant, r.1)

pub loop-digit-preserved : goal.loop-digit-preserved
loop-digit-preserved c =
    next_value c.args.digits.now c.loop-digit.digit-index c.loop-digit.value c.requires.all
    (omega arith) c.loop-digit.invariant
