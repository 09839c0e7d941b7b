use Rattle.std.proofs.Common.{length, ap, ◌∙◌}
use Rattle.std.proofs.lemmas.List.Filters.{dedup_is}
use Rattle.jp_value.proofs.FirstOnes.{counted_ones}
use Rattle.jp_found.proofs.different.count_different.Goals as goal

pub returns : goal.returns
returns g c =
    c.len.ensures ∙ c.dedup.new.self.ok.0 ∙ ap length (dedup_is _ _ _ c.dedup.ensures.filtered)
    ∙ counted_ones g.met.T.Eq.laws g.met.T.Ord.total g.met.T.Ord.matches_eq _ _
    c.sort_unstable.ensures.permutation c.sort_unstable.ensures.sorted
