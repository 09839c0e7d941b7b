use Rattle.std.proofs.Common.{ap, ◌∙◌}
use Rattle.std.specs.Str.{chars}
use Rattle.jp_explain.proofs.Pictures.{worded, worded_alone}
use Rattle.jp_explain.proofs.picture.words.Goals as goal

pub returns-clause-shown : goal.returns-clause-shown
returns-clause-shown c =
    worded c.above.result _ _ _ (ap chars c.as_str-2.ensures.value) c.above.ensures.shown
    c.in_ok-help.ensures.shown c.above.ensures.value

pub returns-clause-within : goal.returns-clause-within
returns-clause-within c = λ beyond.
    worded_alone c.above.result _ _ (ap chars c.as_str-2.ensures.value ∙ c.in_ok-help.ensures.within beyond)
    c.above.ensures.shown c.above.ensures.value
