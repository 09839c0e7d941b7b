use Rattle.jp_doc.proofs.ReadingInLaws.{value_by_tree, fault_by_tree}
use Rattle.jp_doc.proofs.laws.read_by_the_grammar.Goals as goal

pub returns-clause-value : goal.returns-clause-value
returns-clause-value c = value_by_tree

pub returns-clause-fault : goal.returns-clause-fault
returns-clause-fault c = fault_by_tree
