use Rattle.std.proofs.Common.{◌∙◌, ap, ap₂}
use Rattle.std.proofs.lemmas.Result.{IfOk-weaker}
use Rattle.clap.specs.Words.{app_of, with_rule}
use Rattle.jp_program.proofs.command_line.with_filter.Goals as goal

pub returns : goal.returns
returns c = IfOk-weaker c.arg-2.result _ _ (λ r h. h.shape c.filter.ensures.local
    ∙ ap₂ with_rule (c.in_ok-command.ensures.shape c.field.ensures.local
    ∙ ap (with_rule (app_of c.args.command)) c.field.ensures.rule) c.filter.ensures.rule) c.arg-2.ensures
