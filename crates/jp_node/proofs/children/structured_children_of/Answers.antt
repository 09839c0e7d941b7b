use Rattle.std.proofs.Common.{sym, ap, ◌∙◌, arith}
use Rattle.jp_doc.specs.Height.{height, members_height}
use Rattle.jp_node.specs.ChildNodes.{structured_nodes}
use Rattle.jp_node.specs.Inside.{members_in}
use Rattle.jp_node.specs.Nodes.{member_nodes, children_at}
use Rattle.jp_node.proofs.Structured.{nodes_structured, height_structured}
use Rattle.jp_node.proofs.children.structured_children_of.Goals as goal

pub returns-in_ok-gather_structured-in-Members-clause-nodes :
    goal.returns-in_ok-gather_structured-in-Members-clause-nodes
returns-in_ok-gather_structured-in-Members-clause-nodes c = λ at.
    ap (λ ms. structured_nodes (member_nodes at ms)) c.in_ok-gather_structured-in-Members.ensures
    ∙ nodes_structured at (members_in c.in-Members.members)
    ∙ sym (ap (λ v. structured_nodes (children_at at v)) c.in-Members.ensures)

pub returns-in_ok-gather_structured-in-Members-clause-height :
    goal.returns-in_ok-gather_structured-in-Members-clause-height
returns-in_ok-gather_structured-in-Members-clause-height c =
    let all = height_structured (members_in c.in-Members.members) in
    let fewer = ap members_height c.in_ok-gather_structured-in-Members.ensures in
    let value = ap height c.in-Members.ensures in
    omega (arith, all, fewer, value)
