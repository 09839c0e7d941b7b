use Rattle.std.proofs.Common.{ap}
use Rattle.std.specs.Str.{chars}
use Rattle.jp_explain.proofs.Pictures.{query_pictured, pictured_alone}
use Rattle.jp_explain.proofs.picture.write_mark.Goals as goal

pub returns-clause-shown : goal.returns-clause-shown
returns-clause-shown c =
    query_pictured c.with_caret.result (chars c.args.query.now) _ _ _ _ (ap chars c.as_str.ensures.value)
    c.in_ok-shown.ensures c.with_caret.ensures.line c.in_ok-words.ensures.shown c.with_caret.ensures.value

pub returns-clause-within : goal.returns-clause-within
returns-clause-within c = λ beyond.
    pictured_alone c.with_caret.result _ _ _ _ (ap chars c.as_str.ensures.value) c.with_caret.ensures.line
    (c.in_ok-words.ensures.within beyond) c.with_caret.ensures.value
