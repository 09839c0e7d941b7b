use Rattle.jp_output.proofs.FourFields.{behind_a_name, nodes_behind, fault_behind, counted_behind}
use Rattle.jp_output.proofs.laws.four_fields.Goals as goal

pub returns-clause-behind_a_name : goal.returns-clause-behind_a_name
returns-clause-behind_a_name c = λ name line h k. behind_a_name name h line k

pub returns-clause-nodes : goal.returns-clause-nodes
returns-clause-nodes c = λ name l ns h k. nodes_behind name h l ns k

pub returns-clause-fault : goal.returns-clause-fault
returns-clause-fault c = λ name number f h. fault_behind name h number f

pub returns-clause-one_each : goal.returns-clause-one_each
returns-clause-one_each c = λ name l ns h k. counted_behind name h l ns k
