use Rattle.std.proofs.Common.{◌+◌, ◌-◌, ◌≤◌, ◌/◌, ◌++◌, take, ◌∙◌, ap, sym, arith}
use Rattle.jp_doc.specs.Json.{items}
use Rattle.jp_node.specs.Inside.{item_values}
use Rattle.jp_node.specs.ChildRanges.{range_nodes}
use Rattle.jp_node.specs.Nodes.{item_nodes}
use Rattle.jp_node.proofs.Gathered.{front_height, back_height}
use Rattle.jp_node.proofs.ChildRanges.{halves_of_items, others_height, halves_of_members, front_members}
use Rattle.jp_node.proofs.ChildRanges.{back_members}
use Rattle.jp_node.proofs.child_range.ChildRange.halves.Goals as goal

pub returns-in-Listed-clause-left : goal.returns-in-Listed-clause-left
returns-in-Listed-clause-left c =
    rw (c.in-Listed.is, c.split_at.ensures.front) (front_height _ c.in-Listed.children.now)

pub returns-in-Listed-clause-right : goal.returns-in-Listed-clause-right
returns-in-Listed-clause-right c =
    rw (c.in-Listed.is, c.split_at.ensures.back) (back_height _ c.in-Listed.children.now)

pub returns-in-Items-clause-nodes : goal.returns-in-Items-clause-nodes
returns-in-Items-clause-nodes c = λ at.
    let half : c.saturating_sub-half.result / 2 ≤ c.in-Items.past - c.in-Items.first =
    omega (arith, c.saturating_sub-half.ensures) in
    ap (λ xs. item_nodes at c.in-Items.first (items (take (c.in-Items.first
    + c.saturating_sub-half.result / 2 - c.in-Items.first) (item_values c.in-Items.items)))
    ++ item_nodes at (c.in-Items.first + c.saturating_sub-half.result / 2)
    (items (take (c.in-Items.past - (c.in-Items.first + c.saturating_sub-half.result / 2)) xs)))
    c.skip.ensures
    ∙ halves_of_items at c.in-Items.first (c.saturating_sub-half.result / 2) c.in-Items.past
    (item_values c.in-Items.items) half ∙ sym (ap (range_nodes at) c.in-Items.is)

pub returns-in-Items-clause-right : goal.returns-in-Items-clause-right
returns-in-Items-clause-right c =
    let h = others_height (c.saturating_sub-half.result / 2) (item_values c.in-Items.items) in
    rw (c.in-Items.is, c.skip.ensures) (omega (arith, h))

pub returns-in-Members-clause-nodes : goal.returns-in-Members-clause-nodes
returns-in-Members-clause-nodes c = λ at. halves_of_members at _ _ _ c.halves.ensures
    ∙ sym (ap (range_nodes at) c.in-Members.is)

pub returns-in-Members-clause-left : goal.returns-in-Members-clause-left
returns-in-Members-clause-left c = rw c.in-Members.is (front_members _ _ _ c.halves.ensures)

pub returns-in-Members-clause-right : goal.returns-in-Members-clause-right
returns-in-Members-clause-right c = rw c.in-Members.is (back_members _ _ _ c.halves.ensures)
