use Rattle.jp_number.proofs.Fronts.{byte_left, byte_right, byte_none}
use Rattle.jp_number.proofs.digits.digit_at.Goals as goal

pub overflow_sub-result : goal.overflow_sub-result
overflow_sub-result c =
    (byte_left c.args.whole.now c.args.fraction.now c.args.at c.requires c.if-at-whole.true).0

pub returns-then-at-whole : goal.returns-then-at-whole
returns-then-at-whole c =
    (byte_left c.args.whole.now c.args.fraction.now c.args.at c.requires c.if-at-whole.true).1

pub overflow_sub-result-then-behind-fraction : goal.overflow_sub-result-then-behind-fraction
overflow_sub-result-then-behind-fraction c =
    (byte_right c.args.whole.now c.args.fraction.now c.args.at c.requires c.if-at-whole.false
    c.if-behind-fraction.true).0

pub returns-then-behind-fraction : goal.returns-then-behind-fraction
returns-then-behind-fraction c =
    (byte_right c.args.whole.now c.args.fraction.now c.args.at c.requires c.if-at-whole.false
    c.if-behind-fraction.true).1

pub returns-else-behind-fraction : goal.returns-else-behind-fraction
returns-else-behind-fraction c =
    byte_none c.args.whole.now c.args.fraction.now c.args.at c.if-at-whole.false c.if-behind-fraction.false
