use Rattle.std.proofs.Common.{inl, ap, ◌∙◌}
use Rattle.std.specs.Str.{chars}
use Rattle.std.proofs.lemmas.Str.{chars-nil}
use Rattle.jp_explain.proofs.Pictures.{helped}
use Rattle.jp_explain.proofs.line_helping.line_of_help.Goals as goal

pub returns-in_ok-push_text-in-Some-clause-shown : goal.returns-in_ok-push_text-in-Some-clause-shown
returns-in_ok-push_text-in-Some-clause-shown c =
    helped c.above.result _ _ chars-nil c.above.ensures.shown c.above.ensures.value

pub returns-in-None-clause-shown : goal.returns-in-None-clause-shown
returns-in-None-clause-shown c = inl (ap chars c.new.ensures.bytes ∙ chars-nil)

pub returns-in-None-clause-none : goal.returns-in-None-clause-none
returns-in-None-clause-none c = λ none. ap chars c.new.ensures.bytes ∙ chars-nil
