use Rattle.std.proofs.Common.{rules}
use borrow.Author.Tests.{tests}
use Rattle.std.proofs.lemmas.Iterator.{YieldsList-from_chars}
use Rattle.std.proofs.lemmas.Iterator.Consumers.{count_from_yields_List, YieldsList-from_filter}
use Rattle.std.proofs.lemmas.List.Sums.{length-filter}
use Rattle.jp_types.specs.Numbers.{is_digit}
use Rattle.jp_types.proofs.numbers.is_short.Goals as goal

pub returns : goal.returns
returns c =
    let count = count_from_yields_List c.filter.result c.count.result c.count.ensures.ran
    (YieldsList-from_filter _ is_digit (YieldsList-from_chars c.args.number.now c.utf8.number cc)
    c.filter.ensures.closure (λ x r q k. search (rules, tests))) in
    search (rules, count, length-filter)
