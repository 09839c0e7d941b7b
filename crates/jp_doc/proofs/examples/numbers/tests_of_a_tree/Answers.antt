use Rattle.jp_doc.proofs.ReadingInLaws.{long_list, number_in_a_list}
use Rattle.jp_doc.proofs.examples.numbers.tests_of_a_tree.Goals as goal

pub returns-clause-long_array : goal.returns-clause-long_array
returns-clause-long_array c = long_list

pub returns-clause-numbers_first : goal.returns-clause-numbers_first
returns-clause-numbers_first c = number_in_a_list
