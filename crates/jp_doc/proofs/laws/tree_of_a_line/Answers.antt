use Rattle.jp_doc.proofs.TreeLaws.{tree_agrees, no_tree_unread}
use Rattle.jp_doc.proofs.TreeNesting.{tree_has_numbers}
use Rattle.jp_doc.proofs.laws.tree_of_a_line.Goals as goal

pub returns-clause-value : goal.returns-clause-value
returns-clause-value c = tree_agrees

pub returns-clause-none : goal.returns-clause-none
returns-clause-none c = no_tree_unread

pub returns-clause-numbers : goal.returns-clause-numbers
returns-clause-numbers c = tree_has_numbers
