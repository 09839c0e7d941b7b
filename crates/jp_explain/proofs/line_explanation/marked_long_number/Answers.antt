use Rattle.std.proofs.Common.{◌≡◌, true, refl, subst, arith}
use Rattle.std.proofs.lemmas.Grind.{common_steps}
use Rattle.std.specs.List.{list_all}
use Rattle.jp_number.specs.Number.{written, IsShort}
use Rattle.jp_line_scan.specs.NumberBytes.{is_of_number}
use Rattle.jp_explain.proofs.LineMarks.{from_mark}
use Rattle.jp_explain.proofs.line_explanation.marked_long_number.Goals as goal

pub returns : goal.returns
returns c =
    let bytes = from_mark c.args.line.now c.min-mark.result c.in-Some.length in
    let some = c.in-Some.ensures.some in
    let within = c.in-Some.ensures.within in (
      _,
      refl,
      omega (arith, some),
      grind (arith, common_steps),
      subst (λ t. list_all is_of_number t ≡ true) bytes c.in-Some.ensures.number,
      subst (λ t. ¬ IsShort (written t)) bytes c.in-Some.ensures.long,
    )
