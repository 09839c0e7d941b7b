use Rattle.std.proofs.Common.{◌++◌, ap, ◌∙◌}
use Rattle.jp_answer.specs.Answer.{answer_by}
use Rattle.jp_doc.specs.Lines.{lines, line_count}
use Rattle.jp_answer.specs.Streams.{line_feeds}
use Rattle.jp_answer.proofs.OnFaults.{formed_joined, nothing_in}
use Rattle.jp_answer.proofs.Streams.{lines_both, count_both, blocks_answered}
use Rattle.jp_answer.proofs.laws.streams.Goals as goal

pub returns-clause-answer : goal.returns-clause-answer
returns-clause-answer c = λ f k t q a b h. ap (answer_by f k t q) (lines_both a b h)
    ∙ formed_joined f t q k (lines a) (lines (line_feeds (line_count a) ++ b))

pub returns-clause-blocks : goal.returns-clause-blocks
returns-clause-blocks c =
    λ f k t q bs h. blocks_answered (answer_by f k t q) (nothing_in f t q k) (formed_joined f t q k) bs h

pub returns-clause-count : goal.returns-clause-count
returns-clause-count c = count_both
