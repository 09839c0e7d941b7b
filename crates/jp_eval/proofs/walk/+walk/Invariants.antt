use Rattle.std.proofs.Common.{◌≡◌, ◌+◌, ◌-◌, ◌*◌, ◌≤◌, ℕ, List, length, max, drop}
use Rattle.std.specs.List.{flat_map, list_any, list_all}
use denote.Param.Weighed.{most}
use Rattle.jp_doc.specs.Height.{height}
use Rattle.jp_doc.specs.Location.{Node}
use Rattle.jp_compiled.specs.declared.query.CompiledSegment.{size-CompiledSegment}
use Rattle.jp_compiled.specs.declared.query.CompiledSelector.{size-CompiledSelector}
use Rattle.jp_compiled.specs.declared.query.CompiledLogical.{size-CompiledLogical}
use Rattle.jp_compiled.specs.declared.query.Giver.{size-Giver}
use Rattle.jp_compiled.specs.declared.query.Nodes.{size-Nodes}
use Rattle.jp_eval.specs.inner.Base.{base_of}
use Rattle.jp_found.specs.Kept.{kept, put_found, plus}
use Rattle.jp_found.specs.Links.{here}
use Rattle.jp_node.specs.Links.{link_steps}
use Rattle.jp_node.specs.ChildRanges.{range_nodes, range_height, range_length, of_flat_items}
use Rattle.jp_node.specs.ChildRanges.{flat_member_nodes, flat_members_height}
use Rattle.jp_node.specs.Part.{part_value}
use Rattle.jp_eval.specs.inner.Walk.{picked_by, reached, is_true, sifted, done}
use Rattle.jp_node.specs.declared.part.Part.{Part}
use Rattle.jp_eval.specs.declared.walk.Action.{Action}
use Rattle.jp_eval.specs.declared.walk.Action.TheVariants.{Run, Descend, Test}
use Rattle.jp_eval.proofs.walk.+walk.Given as goal

abbrev pub task_size : Action → ℕ
task_size (Run rest) = most size-CompiledSegment rest.now
task_size (Descend xs rest) = max (most size-CompiledSelector xs.now) (most size-CompiledSegment rest.now)
task_size (Test l rest) = max (size-CompiledLogical l.now) (most size-CompiledSegment rest.now)

-- the size of what is left of the query, then the height of the value, then the rank of the function
abbrev pub weight : ℕ → Part → ℕ → ℕ
weight size p rank = 2000 * size + 16 * height (part_value p) + rank

-- a descent at a value does not come back to it
abbrev pub task_rank : Action → ℕ
task_rank (Run rest) = 9
task_rank (Descend xs rest) = 7
task_rank (Test l rest) = 9

abbrev pub decreases-go : goal.decreases-go
decreases-go g l = weight (task_size l.action) l.value (task_rank l.action)

abbrev pub decreases-run : goal.decreases-run
decreases-run g l = weight (most size-CompiledSegment l.segments.now) l.value 8

abbrev pub decreases-apply : goal.decreases-apply
decreases-apply g l = weight (max (most size-CompiledSelector l.selectors.now) (most size-CompiledSegment
    l.rest.now))
    l.opened.value 6

abbrev pub decreases-select : goal.decreases-select
decreases-select g l = weight (max (size-CompiledSelector l.selector.now) (most size-CompiledSegment
    l.rest.now))
    l.opened.value 5

abbrev pub decreases-each_child : goal.decreases-each_child
decreases-each_child g l = weight (task_size l.action) l.opened.value 3

abbrev pub decreases-each_of : goal.decreases-each_of
decreases-each_of g l = 2000 * task_size l.action + 16 * range_height l.children + 1

abbrev pub decreases-each_member : goal.decreases-each_member
decreases-each_member g l = 2000 * task_size l.action + 16 * flat_members_height l.members.now

abbrev pub decreases-each_item : goal.decreases-each_item
decreases-each_item g l =
    2000 * task_size l.action
    + 16 * range_height (of_flat_items l.items.rest l.items.place l.items.past)

abbrev pub decreases-each_in : goal.decreases-each_in
decreases-each_in g l = 2000 * task_size l.action + 16 * range_height l.children

abbrev pub decreases-at_child : goal.decreases-at_child
decreases-at_child g l = weight (task_size l.action) (l.child.part) 10

abbrev pub decreases-sift_children : goal.decreases-sift_children
decreases-sift_children g l = weight (task_size (Test l.test l.rest)) l.opened.value 3

abbrev pub decreases-sift : goal.decreases-sift
decreases-sift g l = 2000 * task_size (Test l.test l.rest) + 16 * range_height l.children + 2

abbrev pub decreases-at_sifted : goal.decreases-at_sifted
decreases-at_sifted g l = weight (task_size (Test l.test l.rest)) (l.child.part) 11

abbrev pub decreases-ask : goal.decreases-ask
decreases-ask g l = weight (size-Nodes l.nodes.now) l.value 7

abbrev pub decreases-compare : goal.decreases-compare
decreases-compare g l = weight (max (size-Giver l.left.now) (size-Giver l.right.now)) l.value 9

abbrev pub decreases-give_both : goal.decreases-give_both
decreases-give_both g l = weight (max (size-Giver l.left.now) (size-Giver l.right.now)) l.value 8

abbrev pub decreases-give : goal.decreases-give
decreases-give g l = weight (size-Giver l.giver.now) l.value 7

abbrev pub decreases-holds : goal.decreases-holds
decreases-holds g l = weight (size-CompiledLogical l.test.now) l.value 7

abbrev pub decreases-any : goal.decreases-any
decreases-any g l = weight (most size-CompiledLogical l.parts.now) l.value 8

abbrev pub decreases-all : goal.decreases-all
decreases-all g l = weight (most size-CompiledLogical l.parts.now) l.value 8

abbrev pub invariant-apply-loop-selector : goal.invariant-apply-loop-selector
invariant-apply-loop-selector g l =
    let root = base_of l.context in
    (l.path ≡ l.initial.path)
    × (plus (put_found g.V.Visit.put) (kept g.V.Visit.kept l.found)
    (reached root l.rest (picked_by root (drop l.selector-index l.selectors) (here l.path l.opened.value)))
    ≡ plus (put_found g.V.Visit.put) (kept g.V.Visit.kept l.initial.found)
    (reached root l.rest (picked_by root l.selectors (here l.initial.path l.opened.value))))

-- what is left of the children gives what all of them do
abbrev pub IsDone : {K : Type 0} → (K → Node → K) → K → K → (Node → List Node) → List Node → List Node
    → Type 0
IsDone put now then f left all = plus put now (flat_map f left) ≡ plus put then (flat_map f all)

abbrev pub invariant-each_member-loop-child : goal.invariant-each_member-loop-child
invariant-each_member-loop-child g l =
    (l.path ≡ l.initial.path)
    × (flat_members_height (drop l.index l.members) ≤ flat_members_height l.members)
    × IsDone (put_found g.V.Visit.put) (kept g.V.Visit.kept l.found) (kept g.V.Visit.kept l.initial.found)
    (done (base_of l.context) l.action) (flat_member_nodes (link_steps l.path) (drop l.index l.members))
    (flat_member_nodes (link_steps l.initial.path) l.members)

abbrev pub decreases-each_member-loop-child : goal.decreases-each_member-loop-child
decreases-each_member-loop-child g l = length l.members - l.index

abbrev pub invariant-each_item-loop-child : goal.invariant-each_item-loop-child
invariant-each_item-loop-child g l =
    let rest = of_flat_items l.rest l.place l.past in
    let all = of_flat_items l.fn.items.rest l.fn.items.place l.fn.items.past in
    (l.path ≡ l.initial.path) × (range_height rest ≤ range_height all)
    × IsDone (put_found g.V.Visit.put) (kept g.V.Visit.kept l.found) (kept g.V.Visit.kept l.initial.found)
    (done (base_of l.context) l.action) (range_nodes (link_steps l.path) rest)
    (range_nodes (link_steps l.initial.path) all)

abbrev pub decreases-each_item-loop-child : goal.decreases-each_item-loop-child
decreases-each_item-loop-child g l = l.past - l.place

abbrev pub invariant-each_in-loop-child : goal.invariant-each_in-loop-child
invariant-each_in-loop-child g l =
    (l.path ≡ l.initial.path) × (range_height l.rest ≤ range_height l.children)
    × IsDone (put_found g.V.Visit.put) (kept g.V.Visit.kept l.found) (kept g.V.Visit.kept l.initial.found)
    (done (base_of l.context) l.action) (range_nodes (link_steps l.path) l.rest)
    (range_nodes (link_steps l.initial.path) l.children)

abbrev pub decreases-each_in-loop-child : goal.decreases-each_in-loop-child
decreases-each_in-loop-child g l = range_length l.rest

abbrev pub invariant-sift-loop-child : goal.invariant-sift-loop-child
invariant-sift-loop-child g l =
    (l.path ≡ l.initial.path) × (range_height l.left ≤ range_height l.children)
    × IsDone (put_found g.V.Visit.put) (kept g.V.Visit.kept l.found) (kept g.V.Visit.kept l.initial.found)
    (sifted (base_of l.context) l.test l.rest) (range_nodes (link_steps l.path) l.left)
    (range_nodes (link_steps l.initial.path) l.children)

abbrev pub decreases-sift-loop-child : goal.decreases-sift-loop-child
decreases-sift-loop-child g l = range_length l.left

abbrev pub invariant-any-loop-part : goal.invariant-any-loop-part
invariant-any-loop-part g l =
    (l.path ≡ l.initial.path)
    × (list_any (λ p. is_true (base_of l.context) p (here l.initial.path l.value))
    (drop l.part-index l.parts)
    ≡ list_any (λ p. is_true (base_of l.context) p (here l.initial.path l.value)) l.parts)

abbrev pub invariant-all-loop-part : goal.invariant-all-loop-part
invariant-all-loop-part g l =
    (l.path ≡ l.initial.path)
    × (list_all (λ p. is_true (base_of l.context) p (here l.initial.path l.value))
    (drop l.part-index l.parts)
    ≡ list_all (λ p. is_true (base_of l.context) p (here l.initial.path l.value)) l.parts)
