use Rattle.std.proofs.Common.{rules, ap, sym, ◌∙◌}
use Rattle.jp_doc.specs.Json.{number}
use Rattle.jp_number.specs.Number.{written}
use Rattle.jp_compiled.specs.Parts.{constant_of}
use Rattle.jp_value.specs.Literals.{literal_value}
use Rattle.jp_value.proofs.LiteralNumbers.{whole_literal, written_literal}
use Rattle.jp_value.proofs.functions.literal.Goals as goal

pub returns-in-Whole : goal.returns-in-Whole
returns-in-Whole c = rw c.in-Whole.is (search (rules, whole_literal c.in-Whole.number))

pub returns-in-Written : goal.returns-in-Written
returns-in-Written c =
    ap (λ s. number (written s)) c.number.ensures
    ∙ (written_literal c.in-Written.number ∙ sym (ap (λ x. literal_value (constant_of x)) c.in-Written.is))
