use Rattle.std.proofs.Common.{rules}
use Rattle.std.specs.Prelude.{FitsSigned}
use Rattle.std.specs.Int.{w128}
use Rattle.std.proofs.lemmas.Int.{to_z-of_z}
use Rattle.jp_number.specs.Number.{whole, written}
use Rattle.jp_number.proofs.Order.{compared, turned_round}
use Rattle.jp_number.proofs.number.Number.compare.Goals as goal

pub returns-in-Whole-Whole : goal.returns-in-Whole-Whole
returns-in-Whole-Whole c =
    let l : FitsSigned w128 c.in-Whole-Whole.left = search rules in
    let r : FitsSigned w128 c.in-Whole-Whole.right = search rules in
    let h = simp to_z-of_z at c.cmp.ensures in
    rw (c.in-Whole-Whole.is-0, c.in-Whole-Whole.is-1)
    (compared c.in-Whole-Whole.left c.in-Whole-Whole.right c.cmp.result h)

pub returns-in-Written-Whole : goal.returns-in-Written-Whole
returns-in-Written-Whole c =
    let r : FitsSigned w128 c.in-Written-Whole.right = search rules in
    let h = simp to_z-of_z at c.compare_whole-in-Written-Whole.ensures in
    rw (c.in-Written-Whole.is-0, c.in-Written-Whole.is-1)
    (turned_round (whole c.in-Written-Whole.right) (written c.in-Written-Whole.left.text.now)
    c.compare_whole-in-Written-Whole.result c.reverse.result h c.reverse.ensures)
