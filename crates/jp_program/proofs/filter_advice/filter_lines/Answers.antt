use Rattle.std.proofs.Common.{◌∙◌, ap, inl, subst}
use Rattle.std.specs.Str.{chars}
use Rattle.jp_tree.specs.View.{text_of}
use Rattle.jp_explain.specs.Picture.{IsPicture}
use Rattle.jp_program.proofs.filter_advice.filter_lines.Goals as goal

pub returns-in-Some : goal.returns-in-Some
returns-in-Some c = inl (subst (λ t. IsPicture t (text_of c.in-Some.lines))
    (ap chars c.as_str.ensures.value ∙ c.in_ok-query.ensures)
    (rw c.in-Some.is at c.in_ok-lines.ensures.shown))
