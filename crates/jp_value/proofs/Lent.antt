-- Values of `serde_json` that are lent.
use Rattle.std.proofs.Common.{◌≡◌, rules, ap, ◌∙◌}
use Rattle.serde_json.specs.View.{number_view}
use Rattle.serde_json.specs.declared.number.Number.{Number}
use Rattle.serde_json.specs.declared.value.Value.{Value, the_lemmas}
use Rattle.serde_json.specs.declared.value.Value.TheVariants as variant
use Rattle.jp_doc.specs.Json.{number, value_of, whole_of}
use Rattle.jp_number.specs.Number.{whole}

pub number_value : (v : Value) (n : Number) → v ≡ variant.Number n
    → value_of v ≡ number (whole (whole_of (number_view n)))
number_value v n is = ap value_of is ∙ search (rules, the_lemmas)
