use Rattle.std.proofs.Common.{◌≡◌, ◌+◌, ◌*◌, ◌≤◌, ℕ}
use Rattle.std.specs.List.{flat_map}
use Rattle.jp_doc.specs.Height.{height}
use Rattle.jp_node.specs.ChildNodes.{all_height}
use Rattle.jp_node.specs.Part.{part_value}
use Rattle.jp_eval.specs.inner.Base.{base_of}
use Rattle.jp_found.specs.Kept.{kept, put_found, plus}
use Rattle.jp_node.specs.ChildRanges.{range_nodes, range_height, range_length}
use Rattle.jp_eval.specs.inner.Along.{done_by, items_left}
use Rattle.jp_eval.specs.inner.Walk.{done}
use Rattle.jp_node.specs.Links.{link_steps}
use Rattle.jp_eval.proofs.split.+split.Given as goal

-- how high the value is, then how many cuts are left, then the rank of the function
abbrev pub weight : ℕ → ℕ → ℕ → ℕ
weight height cuts rank = 16 * height + 4 * cuts + rank

abbrev pub decreases-go_split : goal.decreases-go_split
decreases-go_split g l = weight (height (part_value l.value)) l.splitting.now.cuts.left 15

abbrev pub decreases-each_work_item : goal.decreases-each_work_item
decreases-each_work_item g l = weight (height (part_value l.work_items.value)) l.splitting.now.cuts.left 14

abbrev pub decreases-along : goal.decreases-along
decreases-along g l = weight (all_height l.work_item.children) l.splitting.now.cuts.left 11

abbrev pub decreases-each_of : goal.decreases-each_of
decreases-each_of g l = weight (range_height l.children) l.splitting.now.cuts.left 10

abbrev pub decreases-each_of-join+arg2 : goal.decreases-each_of-join+arg2
decreases-each_of-join+arg2 g l = weight (range_height l.one.children) l.one.splitting.now.cuts.left 13

abbrev pub decreases-each_of-join+arg3 : goal.decreases-each_of-join+arg3
decreases-each_of-join+arg3 g l = weight (range_height l.two.children) l.two.splitting.now.cuts.left 13

abbrev pub decreases-half : goal.decreases-half
decreases-half g l = weight (range_height l.given.now.children) l.given.now.splitting.now.cuts.left 12

abbrev pub decreases-one_by_one : goal.decreases-one_by_one
decreases-one_by_one g l = weight (range_height l.children) l.splitting.now.cuts.left 7

abbrev pub invariant-each_work_item-loop-work_item : goal.invariant-each_work_item-loop-work_item
invariant-each_work_item-loop-work_item g l =
    (l.path ≡ l.initial.path)
    × (height (part_value l.left.value) ≡ height (part_value l.work_items.value))
    × (plus (put_found g.V.Visit.put) (kept g.V.Visit.kept l.found)
    (done_by (base_of l.splitting.context.now) (link_steps l.path) l.left)
    ≡ plus (put_found g.V.Visit.put) (kept g.V.Visit.kept l.initial.found)
    (done_by (base_of l.splitting.context.now) (link_steps l.initial.path) l.work_items))

abbrev pub decreases-each_work_item-loop-work_item : goal.decreases-each_work_item-loop-work_item
decreases-each_work_item-loop-work_item g l = items_left l.left

abbrev pub invariant-one_by_one-loop-child : goal.invariant-one_by_one-loop-child
invariant-one_by_one-loop-child g l =
    (l.path ≡ l.initial.path)
    × (range_height l.rest ≤ range_height l.children)
    × (plus (put_found g.V.Visit.put) (kept g.V.Visit.kept l.found)
    (flat_map (done (base_of l.splitting.context.now) l.action) (range_nodes (link_steps l.path) l.rest))
    ≡ plus (put_found g.V.Visit.put) (kept g.V.Visit.kept l.initial.found)
    (flat_map (done (base_of l.splitting.context.now) l.action)
    (range_nodes (link_steps l.initial.path) l.children)))

abbrev pub decreases-one_by_one-loop-child : goal.decreases-one_by_one-loop-child
decreases-one_by_one-loop-child g l = range_length l.rest
