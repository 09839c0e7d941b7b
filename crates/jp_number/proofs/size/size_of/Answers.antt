use Rattle.std.proofs.Common.{length, ap, sym, subst, ◌∙◌, arith}
use Rattle.std.specs.Str.Parse.{digits_value}
use Rattle.jp_number.specs.Number.{HasFewDigits}
use Rattle.jp_number.proofs.Signs.{sized, few, up_of, down_of}
use Rattle.jp_number.proofs.size.size_of.Goals as goal

pub overflow_add-result : goal.overflow_add-result
overflow_add-result c =
    let p = c.scan-numeral.result in
    let sh : HasFewDigits p = subst HasFewDigits (sym c.scan-numeral.ensures.parts) c.requires in
    let v = few p.exponent c.scan-numeral.ensures.digits.2 sh.exponent in
    let e = c.value_of-exponent.ensures ∙ ap (digits_value 10) c.exponent.ensures.value in
    let total = sh.all in
    let less = c.powers-up.ensures.few.1 in
    omega (arith, v, e, less, ap length c.fraction-fraction.ensures.value)

pub returns : goal.returns
returns c =
    let p = c.scan-numeral.result in
    let n = c.is_exponent_negative.result in
    let v = c.value_of-exponent.result in
    let e = c.value_of-exponent.ensures ∙ ap (digits_value 10) c.exponent.ensures.value in
    let s = c.is_exponent_negative.ensures in
    let d = c.scan-numeral.ensures.digits in
    let w = c.powers-up.ensures in
    let most = w.few.0 in
    let more = w.few.1 in
    sized p _ _ v c.scan-numeral.ensures.parts c.requires c.whole-whole.ensures.value
    c.fraction-fraction.ensures.value d.0 d.1 d.2 c.count_zeros.ensures e (omega arith) (omega arith)
    (up_of p n v _ s e w.up) (down_of p n _ v _ s e (ap length c.fraction-fraction.ensures.value) w.down)
