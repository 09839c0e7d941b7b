use Rattle.std.proofs.Common.{◌++◌, sym, ap, ◌∙◌}
use Rattle.std.proofs.lemmas.Result.{on_ok_weaker}
use Rattle.std.specs.Str.{chars}
use Rattle.jp_node.specs.Part.{part_value}
use Rattle.jp_output.proofs.UnquotedTexts.{text_unquoted}
use Rattle.jp_output.proofs.unquoted_text.append_unquoted.Goals as goal

pub returns-in-Some : goal.returns-in-Some
returns-in-Some c =
    on_ok_weaker c.append_text.result (λ appended.
    appended ∙ ap (λ t. c.args.out.now.items ++ t)
    (sym (text_unquoted (part_value c.args.value) (chars c.in-Some.text.now) c.in-Some.ensures)))
    c.append_text.ensures
