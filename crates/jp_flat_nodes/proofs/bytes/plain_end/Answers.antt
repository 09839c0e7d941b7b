use Rattle.std.proofs.Common.{◌∙◌, sym, ap, arith}
use lib.Count.{count_trailing_zeros}
use Rattle.jp_flat_nodes.proofs.Vectors.{none_stops, first_stop, plain_within}
use Rattle.jp_flat_nodes.proofs.bytes.plain_end.Goals as goal

pub returns-then-found-ne0-clause-value : goal.returns-then-found-ne0-clause-value
returns-then-found-ne0-clause-value c =
    let found = c.stops-found.ensures in
    let first = first_stop c.args.line.now c.loop-at.at 16 (omega arith) (omega arith) (omega (arith, found))
    ∙ ap (count_trailing_zeros 64) (sym found) in
    omega (arith, first, c.loop-at.invariant.0)

pub returns-then-found-ne0-clause-within : goal.returns-then-found-ne0-clause-within
returns-then-found-ne0-clause-within c =
    let found = c.stops-found.ensures in
    let first = first_stop c.args.line.now c.loop-at.at 16 (omega arith) (omega arith) (omega (arith, found))
    ∙ ap (count_trailing_zeros 64) (sym found) in
    omega (arith, first, plain_within c.args.line.now c.loop-at.at c.loop-at.invariant.1)

pub loop-at-preserved : goal.loop-at-preserved
loop-at-preserved c =
    let none = none_stops c.args.line.now c.loop-at.at 16 (omega arith) (omega arith)
    (sym c.stops-found.ensures ∙ c.if-found-ne0.false) in
    (omega (arith, none, c.loop-at.invariant.0), omega arith)
