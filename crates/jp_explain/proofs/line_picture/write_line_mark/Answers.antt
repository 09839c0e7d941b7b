use Rattle.std.proofs.Common.{ap, sym, subst, ◌∙◌}
use Rattle.std.specs.Str.{chars}
use Rattle.jp_tree.specs.View.{text_of}
use Rattle.jp_explain.specs.Picture.{IsHelp}
use Rattle.jp_explain.proofs.Pictures.{line_pictured, line_helped, line_bare}
use Rattle.jp_explain.proofs.line_picture.write_line_mark.Goals as goal

pub returns-clause-shown : goal.returns-clause-shown
returns-clause-shown c =
    line_helped c.above.result (chars c.as_str.result.now)
    (subst IsHelp (sym (ap chars c.as_str.ensures.value)) c.in_ok-help.ensures.shown)
    (line_pictured c.above.result _ _ (text_of c.in_ok-picture.picture) _
    (ap chars c.as_str-2.ensures.value) c.above.ensures.shown c.in_ok-picture.ensures c.above.ensures.value)

pub returns-clause-bare : goal.returns-clause-bare
returns-clause-bare c = λ none.
    line_bare c.above.result (chars c.as_str.result.now) (ap chars c.as_str.ensures.value
    ∙ c.in_ok-help.ensures.none (c.line_help.ensures ∙ none))
    (line_pictured c.above.result _ _ (text_of c.in_ok-picture.picture) _
    (ap chars c.as_str-2.ensures.value) c.above.ensures.shown c.in_ok-picture.ensures c.above.ensures.value)
