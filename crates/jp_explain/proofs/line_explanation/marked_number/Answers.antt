use Rattle.std.proofs.Common.{◌≡◌, true, refl, subst, arith}
use Rattle.std.proofs.lemmas.Grind.{common_steps}
use Rattle.std.specs.List.{list_all}
use Rattle.jp_line_scan.specs.NumberBytes.{is_of_number}
use Rattle.jp_explain.proofs.LineMarks.{from_mark}
use Rattle.jp_explain.proofs.line_explanation.marked_number.Goals as goal

pub returns : goal.returns
returns c = (
  _,
  refl,
  omega (arith, c.if-length-eq0.false),
  grind (arith, common_steps),
  subst (λ t. list_all is_of_number t ≡ true)
      (from_mark c.args.line.now c.min-mark.result c.number_length-length.result)
      c.number_length-length.ensures.number,
)
