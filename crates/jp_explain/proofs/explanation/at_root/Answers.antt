use Rattle.std.proofs.Common.{◌∷◌, ap, ◌∙◌}
use Rattle.std.specs.Str.{chars}
use Rattle.jp_explain.proofs.Marks.{root_goes_on, nothing_goes_on}
use Rattle.jp_explain.proofs.explanation.at_root.Goals as goal

pub returns-in-Some-eq36-default : goal.returns-in-Some-eq36-default
returns-in-Some-eq36-default c =
    let rest = chars c.in-Some-eq36-default._rest.now in
    λ numbers. root_goes_on numbers (chars c.args.text.now) rest
    (c.in-Some-eq36-default.ensures ∙ ap (λ n. n ∷ rest) c.in-Some-eq36-default.field-0-0-test)

pub returns-in_default : goal.returns-in_default
returns-in_default c = λ numbers. nothing_goes_on numbers _

pub returns-in_default-2 : goal.returns-in_default-2
returns-in_default-2 c = λ numbers. nothing_goes_on numbers _
