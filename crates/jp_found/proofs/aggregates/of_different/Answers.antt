use Rattle.std.proofs.Common.{sym, ap, ◌∙◌}
use Rattle.jp_compiled.specs.Parts.{wanted_inside}
use Rattle.jp_found.specs.Aggregates.{tells}
use Rattle.jp_value.specs.Functions.{distinct}
use Rattle.jp_found.specs.declared.aggregates.Aggregate.TheVariants.{Distinct}
use Rattle.jp_found.proofs.Telling.{different_of_ones}
use Rattle.jp_found.proofs.aggregates.of_different.Goals as goal

pub returns-in-Distinct : goal.returns-in-Distinct
returns-in-Distinct c = λ ns h.
    let d = c.args.different in
    ap (λ w. tells w (distinct ns) (Distinct d)) c.in-Distinct.is
    ∙ different_of_ones d ns (sym (ap (λ w. tells (wanted_inside w) ns (Distinct d)) c.in-Distinct.is) ∙ h)
