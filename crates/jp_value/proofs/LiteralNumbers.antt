-- The value of a number literal that is compiled.
use Rattle.std.proofs.Common.{◌≡◌, ap, sym, ◌∙◌}
use Rattle.std.proofs.lemmas.Str.{encodes-chars, IsUtf8-string_bytes}
use Rattle.std.specs.Prelude.{encode_utf8_all, if◌then◌else◌}
use Rattle.std.specs.String.{string_bytes}
use Rattle.jp_doc.specs.Json.{number}
use Rattle.jp_number.specs.Number.{whole, written}
use Rattle.jp_tree.specs.View.{text_of}
use Rattle.jp_types.specs.Numbers.{whole_number}
use Rattle.jp_compiled.specs.Parts.{constant_of}
use Rattle.jp_compiled.specs.declared.query.Constant.TheVariants.{Whole, Written}
use Rattle.jp_compiled.specs.declared.query.WholeNumber.{WholeNumber}
use Rattle.jp_compiled.specs.declared.query.WrittenNumber.{WrittenNumber}
use Rattle.jp_value.specs.Literals.{literal_value}

pub whole_literal : (n : WholeNumber) → number (whole n.value) ≡ literal_value (constant_of (Whole n))
whole_literal n =
    let t = text_of n.text in
    ap (λ z. number (whole z)) n.read
    ∙ sym (ap (λ b. number (if b then whole (whole_number t) else written (encode_utf8_all t))) n.whole)

pub written_literal : (n : WrittenNumber) → number (written (string_bytes n.text))
    ≡ literal_value (constant_of (Written n))
written_literal n =
    let t = text_of n.text in
    sym (ap (λ b. number (if b then whole (whole_number t) else written (encode_utf8_all t))) n.other
    ∙ ap (λ s. number (written s)) (encodes-chars (string_bytes n.text) (IsUtf8-string_bytes n.text)))
