use Rattle.std.proofs.Common.{◌≡◌, false, true, sym, ◌∙◌}
use Rattle.std.specs.Str.{chars}
use Rattle.jp_explain.proofs.Marks.{no_query}
use Rattle.jp_explain.proofs.explanation.is_query.Goals as goal

pub returns-else-eq-clause-no : goal.returns-else-eq-clause-no
returns-else-eq-clause-no c =
    let refused = c.in-Err.ensures.fault (λ m.
    let same : c.eq.result ≡ true = rw m at c.eq.ensures in
    let not_same : false ≡ true = sym c.if-eq.false ∙ same in absurd cc) in
    λ e. no_query c.args.numbers (chars c.args.text.now) c.in-Err.fault refused
