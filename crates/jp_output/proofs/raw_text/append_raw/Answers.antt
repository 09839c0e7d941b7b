use Rattle.std.proofs.Common.{◌++◌, sym, ap, ◌∙◌}
use Rattle.std.proofs.lemmas.Result.{on_ok_weaker}
use Rattle.std.specs.Str.{chars}
use Rattle.jp_node.specs.Part.{part_value}
use Rattle.jp_output.proofs.UnquotedTexts.{text_raw}
use Rattle.jp_output.proofs.raw_text.append_raw.Goals as goal

pub returns-in-Some : goal.returns-in-Some
returns-in-Some c =
    on_ok_weaker c.append_bytes.result (λ appended.
    appended ∙ ap (λ t. c.args.out.now.items ++ t)
    (sym (text_raw (part_value c.args.value) (chars c.in-Some.text.now) c.in-Some.ensures)))
    c.append_bytes.ensures
