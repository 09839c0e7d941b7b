use Rattle.std.proofs.Common.{◌∙◌, sym, ap, arith}
use lib.Count.{count_trailing_zeros}
use Rattle.jp_documents.specs.inner.Finding.{matters_in_text}
use Rattle.jp_documents.proofs.Vectors.{none_matters, first_matters, run_within}
use Rattle.jp_documents.proofs.runs.text_run.Goals as goal

pub returns-then-found-ne0-clause-value : goal.returns-then-found-ne0-clause-value
returns-then-found-ne0-clause-value c =
    let found = c.text_mask-found.ensures in
    let first = first_matters matters_in_text c.args.bytes.now c.loop-at.at 16 (omega arith) (omega arith)
    (omega (arith, found))
    ∙ ap (count_trailing_zeros 64) (sym found) in
    omega (arith, first, c.loop-at.invariant.0)

pub returns-then-found-ne0-clause-within : goal.returns-then-found-ne0-clause-within
returns-then-found-ne0-clause-within c =
    let found = c.text_mask-found.ensures in
    let first = first_matters matters_in_text c.args.bytes.now c.loop-at.at 16 (omega arith) (omega arith)
    (omega (arith, found))
    ∙ ap (count_trailing_zeros 64) (sym found) in
    omega (arith, first, run_within matters_in_text c.args.bytes.now c.loop-at.at c.loop-at.invariant.1)

pub loop-at-preserved : goal.loop-at-preserved
loop-at-preserved c =
    let none = none_matters matters_in_text c.args.bytes.now c.loop-at.at 16 (omega arith) (omega arith)
    (sym c.text_mask-found.ensures ∙ c.if-found-ne0.false) in
    (omega (arith, none, c.loop-at.invariant.0), omega arith)
