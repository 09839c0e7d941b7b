use Rattle.std.proofs.Common.{rules, ◌≡◌, ◌∙◌, nat_eq, of_z, ap, ap₂, sym}
use Rattle.std.specs.Int.{w128}
use Rattle.std.specs.Ordering.{int_eq}
use Rattle.jp_doc.specs.Json.{number, value_of}
use Rattle.jp_number.specs.Number.{whole}
use Rattle.jp_number.proofs.Order.{whole_equal}
use Rattle.jp_value.specs.Comparison as spec
use Rattle.jp_value.proofs.Lent.{number_value}
use Rattle.jp_value.proofs.comparison.+same.Goals as goal

pub same-returns-in-Number-Number : goal.same-returns-in-Number-Number
same-returns-in-Number-Number t c =
    let x = c.whole_of.result in
    let y = c.whole_of-in-Number-Number.result in
    let left : value_of c.args.left.now ≡ number (whole x) =
    number_value c.args.left.now c.in-Number-Number.x c.in-Number-Number.is-0
    ∙ ap (λ z. number (whole z)) (sym c.whole_of.ensures) in
    let right : value_of c.args.right.now ≡ number (whole y) =
    number_value c.args.right.now c.in-Number-Number.y c.in-Number-Number.is-1
    ∙ ap (λ z. number (whole z)) (sym c.whole_of-in-Number-Number.ensures) in
    let same : nat_eq (of_z w128 x) (of_z w128 y) ≡ int_eq x y = search rules in
    same ∙ sym (whole_equal x y) ∙ sym (ap₂ spec.same left right)
