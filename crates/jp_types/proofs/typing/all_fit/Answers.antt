use Rattle.std.proofs.Common.{arith, ◌≡◌, false, eqb, length, rules, ◌∙◌}
use borrow.Author.Tests.{tests}
use Rattle.std.proofs.lemmas.Bool.Decides.{nat_tests}
use Rattle.std.proofs.lemmas.Iterator.{YieldsList-from_slice, YieldsList-from_zip}
use Rattle.std.proofs.lemmas.Iterator.Search.{all_from_yields_List}
use Rattle.jp_types.proofs.Fitting.{fits_beside, all_fit-paired, all_fit-unpaired}
use Rattle.jp_types.proofs.typing.all_fit.Goals as goal

pub returns-then-kinds-arguments : goal.returns-then-kinds-arguments
returns-then-kinds-arguments c =
    let ks = c.args.kinds.now in
    let xs = c.args.arguments.now in
    all_from_yields_List fits_beside c.all.new.self _ c.all.result c.all.ensures.ran
    (YieldsList-from_zip (YieldsList-from_slice ks cc) (YieldsList-from_slice xs (cc)))
    (λ x b q k. search (rules, tests))
    ∙ all_fit-paired ks xs c.if-kinds-arguments.true

pub returns-else-kinds-arguments : goal.returns-else-kinds-arguments
returns-else-kinds-arguments c =
    let ks = c.args.kinds.now in
    let xs = c.args.arguments.now in
    let differ = c.if-kinds-arguments.false in
    let unequal : eqb (length ks) (length xs) ≡ false = grind (arith, nat_tests) in
    unequal ∙ all_fit-unpaired ks xs differ
