use Rattle.std.proofs.Common.{◌∙◌, sym}
use Rattle.jp_program.specs.Split.{looks_like_query}
use Rattle.jp_program.proofs.Splits.{some_of, none_of}
use Rattle.jp_program.proofs.split.some_looks_so.Goals as goal

pub returns-then-looks_like_query : goal.returns-then-looks_like_query
returns-then-looks_like_query c = some_of looks_like_query c.args.names.now c.loop-name.name-index _
    c.loop-name-test.true (sym c.looks_like_query.ensures ∙ c.if-looks_like_query.true)

pub returns : goal.returns
returns c = none_of looks_like_query c.args.names.now c.loop-name.name-index c.loop-name-test.false
    c.loop-name.invariant
