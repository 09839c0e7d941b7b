use Rattle.std.proofs.Common.{rules, ap, sym, ◌∙◌}
use Rattle.std.proofs.lemmas.Str.{encodes-chars}
use Rattle.jp_number.specs.Number.{written, is_short}
use Rattle.jp_number.proofs.Limits.{short_by_test}
use Rattle.jp_types.proofs.numbers.is_within.Goals as goal

pub returns : goal.returns
returns c =
    let bytes = c.args.number.now in
    let same = ap (λ s. is_short (written s)) (encodes-chars bytes c.utf8.number) in
    search (rules, short_by_test (written bytes)) ∙ sym same
