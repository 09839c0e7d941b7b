use Rattle.std.proofs.Common.{◌≡◌, ◌≤◌, List, sym, ap, ◌∙◌, arith, rules}
use Rattle.std.proofs.lemmas.Result.{on_ok_weaker}
use Rattle.std.specs.List.{flat_map}
use Rattle.jp_doc.specs.Location.{Location, Node, node}
use Rattle.jp_node.specs.ChildNodes.{child_nodes}
use Rattle.jp_node.specs.Links.{link_steps}
use Rattle.jp_eval.specs.inner.Base.{base_of}
use Rattle.jp_found.specs.Kept.{kept, put_found, plus, taken, emptied_found}
use Rattle.jp_node.specs.ChildRanges.{range_nodes, range_height}
use Rattle.jp_eval.specs.inner.Along.{done_by}
use Rattle.jp_node.specs.Part.{part_value}
use Rattle.jp_eval.specs.inner.Walk.{done}
use denote.Param.{param}
use denote.Param.Send.{IsSend, IsSync, param_send}
use denote.Struct.Tuple.{tuple_name}
use mir.Syntax.{named}
use Rattle.jp_eval.proofs.Crossing.{captured_send}
use Rattle.jp_eval.proofs.Gathered.{child_node_done, halves_joined}
use Rattle.jp_found.proofs.Keeping.{ended, full_enough, nothing_found, still_taken, taken_on}
use Rattle.jp_eval.proofs.WorkItems.{work_item_done}
use Rattle.jp_eval.proofs.WalkSteps.{back_up, link_further}
use Rattle.jp_eval.proofs.split.+split.Lts-each_of as lts
use Rattle.jp_eval.proofs.split.+split.Goals as goal

pub each_work_item-loop-work_item-preserved : goal.each_work_item-loop-work_item-preserved
each_work_item-loop-work_item-preserved g t c =
    let base = base_of c.args.splitting.now.context.now in
    let at = link_steps c.loop-work_item.path in
    let nodes = rw c.in-Some.is at (c.in_ok-work_item.ensures.nodes base at) in
    let value = rw c.in-Some.is at c.in_ok-work_item.ensures.value in
    rw c.in_ok-along.ensures.path (
      c.loop-work_item.invariant.0,
      value ∙ c.loop-work_item.invariant.1,
      work_item_done (put_found g.V.Visit.put) _ _ _ _ (done_by base at c.in-Some.others) _ _ nodes
          c.in_ok-along.ensures.found c.loop-work_item.invariant.2,
    )

pub each_work_item-along-requires-clause-taken : goal.each_work_item-along-requires-clause-taken
each_work_item-along-requires-clause-taken g t c κs within =
    taken_on g.V.Visit.put _ _ _ _ c.loop-work_item.invariant.2 c.requires.taken

pub along-returns-clause-found : goal.along-returns-clause-found
along-returns-clause-found g t c =
    let base = base_of c.args.splitting.now.context.now in
    let at = link_steps c.args.path.now in
    let settled = rw c.in-Some.is at (c.settled_along.ensures (child_nodes at c.args.work_item.children)) in
    on_ok_weaker c.each_of.result (λ e. e
    ∙ ap (plus (put_found g.V.Visit.put) (kept g.V.Visit.kept c.args.found.now))
    (ap (flat_map (done base c.in-Some.action)) (c.counted-children.ensures.nodes at) ∙ settled))
    c.each_of.ensures.found

pub along-returns-in_default-clause-found : goal.along-returns-in_default-clause-found
along-returns-in_default-clause-found g t c =
    nothing_found (put_found g.V.Visit.put) _ _ (rw c.in_default.is at (c.settled_along.ensures
    (child_nodes (link_steps c.args.path.now) c.args.work_item.children)))

pub one_by_one-go_split-requires-clause-taken : goal.one_by_one-go_split-requires-clause-taken
one_by_one-go_split-requires-clause-taken g t c κs within =
    taken_on g.V.Visit.put _ _ _ _ c.loop-child.invariant.2 c.requires.taken

pub each_work_item-returns-clause-found : goal.each_work_item-returns-clause-found
each_work_item-returns-clause-found g t c =
    let base = base_of c.args.splitting.now.context.now in
    let none = rw c.in_default.is at (c.in_ok-work_item.ensures.nodes base
    (link_steps c.loop-work_item.path)) in
    ended (put_found g.V.Visit.put) _ _ _
    (ap (plus (put_found g.V.Visit.put) (kept g.V.Visit.kept c.loop-work_item.found)) (sym none)
    ∙ c.loop-work_item.invariant.2)

pub one_by_one-loop-child-preserved : goal.one_by_one-loop-child-preserved
one_by_one-loop-child-preserved g t c =
    let base = base_of c.args.splitting.now.context.now in
    let p : c.pop.new.self ≡ c.loop-child.path = back_up _ _ _ _ _ c.in_ok-push.ensures.ok
    c.in_ok-go_split.ensures.path c.pop.ensures in
    rw p (
      c.loop-child.invariant.0,
      omega (arith, c.in-Some.ensures.height, c.loop-child.invariant.1),
      child_node_done (put_found g.V.Visit.put) (done base c.args.action) _ _ _ _ _ _ _
          (c.in-Some.ensures.nodes (link_steps c.loop-child.path))
          (c.in_ok-go_split.ensures.found
          ∙ ap (λ s. plus (put_found g.V.Visit.put) (kept g.V.Visit.kept c.loop-child.found)
          (done base c.args.action (node s (part_value c.in-Some.child.part))))
          (link_further c.loop-child.path c.push.new.self _ c.in_ok-push.ensures.ok))
          c.loop-child.invariant.2,
    )

pub one_by_one-returns-then-is_full-clause-found : goal.one_by_one-returns-then-is_full-clause-found
one_by_one-returns-then-is_full-clause-found g t c =
    full_enough (put_found g.V.Visit.put) _ _ _ _ (c.is_full.ensures c.if-is_full.true)
    c.loop-child.invariant.2

pub one_by_one-returns-clause-found : goal.one_by_one-returns-clause-found
one_by_one-returns-clause-found g t c =
    let base = base_of c.args.splitting.now.context.now in
    ended (put_found g.V.Visit.put) _ _ _
    (ap (λ ns. plus (put_found g.V.Visit.put) (kept g.V.Visit.kept c.loop-child.found)
    (flat_map (done base c.args.action) ns))
    (sym (c.in_default.ensures.nodes (link_steps c.loop-child.path))) ∙ c.loop-child.invariant.2)

pub half-returns : goal.half-returns
half-returns g t c =
    let given = c.args.given.now in
    let base = base_of given.splitting.now.context.now in
    c.visitor_of.ensures ∙ c.in_ok-each_of.ensures.found
    ∙ ap (λ ls. plus (put_found g.V.Visit.put) (taken (g.V.Visit.kept c.args.visitor))
    (flat_map (done base given.action) (range_nodes (link_steps ls) given.children)))
    c.in_ok-path.ensures

pub half-visitor_of-requires : goal.half-visitor_of-requires
half-visitor_of-requires g t c = still_taken g.V.Visit.put _ _ _ c.in_ok-each_of.ensures.found

pub go_split-returns-in_default-clause-found : goal.go_split-returns-in_default-clause-found
go_split-returns-in_default-clause-found g t c =
    nothing_found (put_found g.V.Visit.put) _ _ (rw c.in_default.is at c.in_ok-further.ensures.action)

pub each_of-join-first-requires-after_bounds : goal.each_of-join-first-requires-after_bounds
each_of-join-first-requires-after_bounds g t c κs within =
    let front : range_height c.halves.result.0 ≤ range_height c.args.children = c.halves.ensures.left in
    let back : range_height c.halves.result.1 ≤ range_height c.args.children = c.halves.ensures.right in
    ((search rules, search rules), (search rules, search rules))

pub each_of-returns-clause-found : goal.each_of-returns-clause-found
each_of-returns-clause-found g t c =
    let put = put_found g.V.Visit.put in
    let f = done (base_of c.args.splitting.now.context.now) c.args.action in
    let left : Location → List Node = λ at. range_nodes at c.halves.result.0 in
    let right : Location → List Node = λ at. range_nodes at c.halves.result.1 in
    let at = link_steps c.args.path.now in
    let before = kept g.V.Visit.kept c.args.found.now in
    let first : taken (g.V.Visit.kept c.in_ok-first.field-0)
    ≡ plus put (taken (g.V.Visit.kept c.fresh-mine.result))
    (flat_map f (left (link_steps c.links-at.result.now))) = search rules in
    let second : taken (g.V.Visit.kept c.in_ok-second.field-0)
    ≡ plus put (taken (g.V.Visit.kept c.fresh-other.result))
    (flat_map f (right (link_steps c.links-at.result.now))) = search rules in
    let appended : kept g.V.Visit.kept c.append.new.found ≡ plus put before (flat_map f (left at)) =
    c.in_ok-append.ensures.nodes (flat_map f (left at))
    (first ∙ ap (λ ls. plus put (taken (g.V.Visit.kept c.fresh-mine.result))
    (flat_map f (left (link_steps ls)))) c.links-at.ensures ∙ ap (λ k. plus put k (flat_map f (left at)))
    c.fresh-mine.ensures.empty) in
    on_ok_weaker c.append-2.result (λ e. halves_joined put f (left at) (right at) _ before _ _
    (c.halves.ensures.nodes at) appended e)
    (c.append-2.ensures.nodes (flat_map f (right at))
    (second ∙ ap (λ ls. plus put (taken (g.V.Visit.kept c.fresh-other.result))
    (flat_map f (right (link_steps ls)))) c.links-at.ensures ∙ ap (λ k. plus put k (flat_map f (right at)))
    (c.fresh-other.ensures.empty ∙ sym (ap (emptied_found g.V.Visit.emptied) appended
    ∙ c.fresh-other.ensures.later (flat_map f (left at))))))

pub each_of-join-first-requires-send-F : goal.each_of-join-first-requires-send-F
each_of-join-first-requires-send-F g t c κs within =
    let r : IsSync (param 0 g.row.R) = search rules in
    let f : IsSync (param 1 g.row.F) = search rules in
    let v : IsSend (param 2 g.row.V) = search rules in
    let sent = captured_send (tuple_name 2) (param 0 g.row.R) (param 1 g.row.F) (param 2 g.row.V)
    (record { mir = named 6; lft = κs.1.1.1.1.1.1.0 })
    (record { mir = named 7; lft = κs.1.1.1.1.1.1.1.0 })
    (record { mir = named 8; lft = κs.1.1.1.1.1.1.1.1.0 })
    (record { mir = named 9; lft = κs.1.1.1.1.1.1.1.1.1.0 })
    (record { mir = named 10; lft = κs.1.1.1.1.1.1.1.1.1.1.0 })
    (record { mir = named 11; lft = κs.1.1.1.1.1.1.1.1.1.1.1.0 }) r f v in
    param_send 1 (lts.arg-7-1 g.row.R g.row.F g.row.V g.R.laws g.F.laws g.V.laws g.R.Threads-dict
    g.F.Fork-dict g.V.Visit-dict g.V.Destruct-dict κs)
    (record { owned = sent.owned; leaving = λ k x w. (tt, (tt, tt)) })
