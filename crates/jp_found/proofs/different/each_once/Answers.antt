use Rattle.std.proofs.Common.{length, ap, ◌∙◌}
use Rattle.jp_value.specs.Functions.{first_ones, same_location}
use Rattle.jp_found.proofs.Differing.{count_located}
use Rattle.jp_found.proofs.different.each_once.Goals as goal

pub returns : goal.returns
returns c = λ ns first where_.
    let count = c.count_locations-count.ensures
    ∙ ap (λ ls. length (first_ones same_location ls)) where_ ∙ count_located ns in
    (count, c.only_of-alone.ensures ns first count)
