use Rattle.std.proofs.Common.{◌+◌, ap, sym, ◌∙◌, arith}
use Rattle.std.specs.Ordering.{nat_cmp}
use Rattle.jp_number.specs.inner.Front.{digit}
use Rattle.jp_number.specs.inner.Sizes.{digits}
use Rattle.jp_number.proofs.Fronts.{decided, both_more}
use Rattle.jp_number.proofs.size.compare_digits.Goals as goal

pub returns-then-left_digit-right_digit : goal.returns-then-left_digit-right_digit
returns-then-left_digit-right_digit c =
    let a = digits c.args.left.now in
    let b = digits c.args.right.now in
    let x = c.digit-left_digit.ensures in
    let y = c.digit-right_digit.ensures in
    decided a b c.args.left.now.zeros c.args.right.now.zeros c.loop-at.at c.args.count c.cmp.result
    c.requires.left.all c.requires.right.all c.loop-at.invariant (omega arith)
    (c.cmp.ensures ∙ ap (λ k. nat_cmp k c.digit-right_digit.result) x
    ∙ ap (λ k. nat_cmp (digit a (c.args.left.now.zeros + c.loop-at.at)) k) y)
    (λ e. c.if-left_digit-right_digit.true (x ∙ e ∙ sym y))

pub loop-at-preserved : goal.loop-at-preserved
loop-at-preserved c =
    both_more (digits c.args.left.now)
    (digits c.args.right.now) c.args.left.now.zeros c.args.right.now.zeros c.loop-at.at
    c.loop-at.invariant
    (sym c.digit-left_digit.ensures ∙ c.if-left_digit-right_digit.false ∙ c.digit-right_digit.ensures)
