use Rattle.std.proofs.Common.{◌∙◌, ap, ap₂}
use Rattle.std.proofs.lemmas.Result.{IfOk-weaker}
use Rattle.clap.specs.Words.{app_of, with_rule}
use Rattle.jp_program.proofs.command_line.with_flags.Goals as goal

pub returns : goal.returns
returns c = IfOk-weaker c.arg-9.result _ _ (λ r h. h.shape c.lettered-5.ensures.local
    ∙ ap₂ with_rule (c.in_ok-command-8.ensures.shape c.lettered-4.ensures.local
    ∙ ap₂ with_rule (c.in_ok-command-7.ensures.shape c.flag-4.ensures.local
    ∙ ap₂ with_rule (c.in_ok-command-6.ensures.shape c.flag-3.ensures.local
    ∙ ap₂ with_rule (c.in_ok-command-5.ensures.shape c.lettered-3.ensures.local
    ∙ ap₂ with_rule (c.in_ok-command-4.ensures.shape c.flag-2.ensures.local
    ∙ ap₂ with_rule (c.in_ok-command-3.ensures.shape c.lettered-2.ensures.local
    ∙ ap₂ with_rule (c.in_ok-command-2.ensures.shape c.lettered.ensures.local
    ∙ ap₂ with_rule (c.in_ok-command.ensures.shape c.flag.ensures.local
    ∙ ap (with_rule (app_of c.args.command)) c.flag.ensures.rule) c.lettered.ensures.rule)
    c.lettered-2.ensures.rule) c.flag-2.ensures.rule) c.lettered-3.ensures.rule)
    c.flag-3.ensures.rule) c.flag-4.ensures.rule) c.lettered-4.ensures.rule) c.lettered-5.ensures.rule)
    c.arg-9.ensures
