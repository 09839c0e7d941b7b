use Rattle.jp_answer.proofs.AnswerFields.{answer_fields}
use Rattle.jp_output.proofs.Fields.{nodes_counted}
use Rattle.jp_answer.proofs.Chosen.{selected_numbers}
use Rattle.jp_answer.specs.FilteredQuery.{selected_nodes}
use Rattle.jp_answer.proofs.laws.three_fields.Goals as goal

pub returns-clause-answer : goal.returns-clause-answer
returns-clause-answer c = λ k t q ls. answer_fields t q k ls

pub returns-clause-one_each : goal.returns-clause-one_each
returns-clause-one_each c = λ t q number root h.
    nodes_counted number (selected_nodes t root q) (selected_numbers t q root h)
