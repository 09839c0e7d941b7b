use Rattle.std.proofs.Common.{arith}
use Rattle.std.proofs.lemmas.Grind.{common_steps}
use Rattle.std.proofs.Common.{◌∙◌}
use Rattle.jp_doc.specs.Json.{value_of}
use Rattle.jp_doc.specs.Location.{location_of}
use Rattle.jp_output.proofs.PathBytes.{line_appended}
use Rattle.jp_output.proofs.Texts.{view_text}
use Rattle.jp_output.proofs.output_line.write_line.Goals as goal

pub returns-in-Ok-clause-ok : goal.returns-in-Ok-clause-ok
returns-in-Ok-clause-ok c =
    line_appended c.args.out.now.items _ c.as_str.result.now c.args.number (location_of c.args.location.now)
    (value_of c.args.value.now)
    (c.as_str.ensures.value ∙ c.in_ok-text.ensures.text c.requires
    ∙ view_text c.args.value.now c.requires)
    c.in-Ok.ensures.ok

pub returns-clause-err : goal.returns-clause-err
returns-clause-err c = grind (arith, common_steps)
