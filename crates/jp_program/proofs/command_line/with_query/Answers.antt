use Rattle.std.proofs.Common.{◌∙◌, ap, ap₂}
use Rattle.std.proofs.lemmas.Result.{IfOk-weaker}
use Rattle.clap.specs.Words.{app_of, with_rule}
use Rattle.jp_program.proofs.command_line.with_query.Goals as goal

pub returns : goal.returns
returns c = IfOk-weaker c.arg-2.result _ _ (λ r h. h.shape c.files.ensures.local
    ∙ ap₂ with_rule (c.in_ok-command.ensures.shape c.query.ensures.local
    ∙ ap (with_rule (app_of c.args.command)) c.query.ensures.rule) c.files.ensures.rule) c.arg-2.ensures
