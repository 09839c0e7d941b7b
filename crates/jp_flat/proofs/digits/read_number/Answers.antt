use Rattle.std.proofs.Common.{sym, ap, ◌∙◌, to_z, of_z}
use Rattle.std.proofs.lemmas.Int.{to_z-of_z}
use Rattle.std.specs.Int.{w128}
use Rattle.jp_number.specs.Number.{whole}
use Rattle.jp_flat.specs.Digits.{whole_value}
use Rattle.jp_flat.proofs.Fit.{written_number, written_short}
use Rattle.jp_flat.proofs.Numbers.{fits_wide}
use Rattle.jp_flat.proofs.WholeTexts.{number_is}
use Rattle.jp_flat.proofs.digits.read_number.Goals as goal

pub written_number-requires : goal.written_number-requires
written_number-requires c = written_short c.args.text.now c.requires c.in-None.ensures

pub returns-in-Some : goal.returns-in-Some
returns-in-Some c =
    let text = c.args.text.now in
    let is = c.in-Some.ensures.0 in
    ap (λ z. whole (to_z w128 (of_z w128 z))) c.in-Some.ensures.1
    ∙ ap whole (to_z-of_z w128 (whole_value text) (fits_wide text is)) ∙ sym (number_is text is)

pub returns-in-None : goal.returns-in-None
returns-in-None c =
    c.written_number.ensures ∙ sym (written_number c.args.text.now c.requires c.in-None.ensures)
