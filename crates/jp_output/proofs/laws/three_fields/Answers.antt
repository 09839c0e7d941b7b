use Rattle.jp_output.proofs.Fields.{node_fields, fault_fields, nodes_fields, nodes_counted}
use Rattle.jp_output.proofs.laws.three_fields.Goals as goal

pub returns-clause-node : goal.returns-clause-node
returns-clause-node c = node_fields

pub returns-clause-fault : goal.returns-clause-fault
returns-clause-fault c = fault_fields

pub returns-clause-nodes : goal.returns-clause-nodes
returns-clause-nodes c = nodes_fields

pub returns-clause-one_each : goal.returns-clause-one_each
returns-clause-one_each c = nodes_counted
