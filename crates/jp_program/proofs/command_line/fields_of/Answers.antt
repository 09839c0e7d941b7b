use Rattle.std.proofs.Common.{◌≡◌, ◌≢◌, ◌≤◌, ◌<◌, ◌∙◌, ap, sym, rules, arith, length, map, ◌==◌}
use Rattle.clap.specs.Walk.{texts}
use Rattle.jp_output.specs.Rows.{field_of}
use Rattle.jp_program.proofs.SaidFields.{are_read, given_length, not_so, some_so, too_many}
use Rattle.jp_program.proofs.command_line.fields_of.Goals as goal
use Rattle.jp_program.proofs.command_line.fields_of.Goals.{then-is_empty-has_fields-via-then-is_empty-has_fields}
use Rattle.jp_program.proofs.command_line.fields_of.Goals.{}
use Rattle.jp_program.proofs.command_line.fields_of.Goals.{}
use Rattle.jp_program.proofs.command_line.fields_of.Goals.{then-is_empty-has_fields-via-else-is_empty-has_fields+then-given-gt-MAX_FIELDS}
use Rattle.jp_program.proofs.command_line.fields_of.Goals.{}
use Rattle.jp_program.proofs.command_line.fields_of.Goals.{}

pub returns-then-is_empty-has_fields-clause-none : goal.returns-then-is_empty-has_fields-clause-none
returns-then-is_empty-has_fields-clause-none c = λ h fs a.
    let n = given_length c.args.given.now in
    elim c.then-is_empty-has_fields.branch [
      | then-is_empty-has_fields-via-then-is_empty-has_fields w ↦
          let same : c.is_empty.result ≡ c.has_fields.result = search rules in
          not_so (texts c.args.given.now) c.is_empty.result c.has_fields.result c.args.output fs
          (c.is_empty.ensures ∙ ap (λ k. k == 0) (sym n)) same c.has_fields.ensures a
      | then-is_empty-has_fields-via-else-is_empty-has_fields+then-given-gt-MAX_FIELDS w ↦
          let many : 64 < length c.args.given.now = search (rules, arith) in
          too_many (texts c.args.given.now) c.args.output fs (omega (arith, many, n)) a
    ]

pub returns-clause-some : goal.returns-clause-some
returns-clause-some c =
    let n = given_length c.args.given.now in
    let differs : c.is_empty.result ≢ c.has_fields.result = search rules in
    let few : length c.args.given.now ≤ 64 = search (rules, arith) in
    are_read c.fields_in.result (λ fields. map field_of fields.items) (texts c.args.given.now) c.args.output
    (some_so (length (texts c.args.given.now)) c.is_empty.result c.has_fields.result
    (c.is_empty.ensures ∙ ap (λ k. k == 0) (sym n)) differs ∙ c.has_fields.ensures)
    (omega (arith, few, n)) c.fields_in.ensures.some
