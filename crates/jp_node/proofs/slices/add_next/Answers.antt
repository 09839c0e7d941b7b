use Rattle.std.proofs.Common.{◌+◌, ◌++◌, [], ◌∷◌, append-nil, ap, sym, ◌∙◌, refl, arith}
use Rattle.jp_doc.proofs.Below.{item_below}
use Rattle.jp_doc.specs.Height.{height}
use Rattle.jp_doc.specs.Json.{Json, array, items}
use Rattle.jp_doc.specs.Location.{index}
use Rattle.jp_node.proofs.Lists.{drop_enough, drop_more, of_child}
use Rattle.jp_node.specs.Part.{part_value}
use Rattle.jp_node.specs.ChildNodes.{listed_nodes}
use Rattle.jp_node.specs.Nodes.{node_if_some}
use Rattle.jp_node.proofs.Gathered.{gathered_height, one_more}
use Rattle.jp_node.proofs.Slicing.{ahead, first_ahead, none_ahead}
use Rattle.jp_node.proofs.slices.add_next.Goals as goal

pub returns-in_default-clause-behind : goal.returns-in_default-clause-behind
returns-in_default-clause-behind c = λ vs is.
    let none = sym (ahead c.args.passed c.args.place vs _ c.requires.further is) ∙ sym c.skip-ahead.ensures
    ∙ c.in_default.ensures in
    c.in_default.ensures ∙ sym (drop_enough vs c.args.place (c.args.place + 1) none (omega arith))

pub returns-in_default-clause-nodes : goal.returns-in_default-clause-nodes
returns-in_default-clause-nodes c = λ vs is at.
    let none = sym (ahead c.args.passed c.args.place vs _ c.requires.further is) ∙ sym c.skip-ahead.ensures
    ∙ c.in_default.ensures in
    sym (ap (λ o. listed_nodes at c.args.children.now.items ++ node_if_some (at ++ index c.args.place ∷ []) o)
    (sym (none_ahead c.args.place vs none)) ∙ append-nil (listed_nodes at c.args.children.now.items))

pub returns-clause-behind : goal.returns-clause-behind
returns-clause-behind c = λ vs is.
    let first = sym (ahead c.args.passed c.args.place vs _ c.requires.further is) ∙ sym c.skip-ahead.ensures
    ∙ c.in-Some.ensures in
    sym (drop_more vs _ _ c.args.place first)

pub returns-clause-nodes : goal.returns-clause-nodes
returns-clause-nodes c = λ vs is at.
    let first = sym (ahead c.args.passed c.args.place vs _ c.requires.further is) ∙ sym c.skip-ahead.ensures
    ∙ c.in-Some.ensures in
    one_more at c.args.children.now.items c.push.new.self.items _ _ c.in_ok-push.ensures.items refl
    ∙ ap (λ o. listed_nodes at c.args.children.now.items ++ node_if_some (at ++ index c.args.place ∷ []) o)
    (first_ahead c.args.place vs _ _ first)

pub returns-clause-height : goal.returns-clause-height
returns-clause-height c = λ vs is.
    let first = sym (ahead c.args.passed c.args.place vs _ c.requires.further is) ∙ sym c.skip-ahead.ensures
    ∙ c.in-Some.ensures in
    let v : Json = array (items vs) in
    let below = of_child _ (part_value c.in-Some.part) (height v) (first_ahead c.args.place vs _ _ first)
    (item_below c.args.place v) in
    gathered_height c.args.children.now.items c.push.new.self.items _ _ c.in_ok-push.ensures.items
    (omega arith) (omega (arith, below))
