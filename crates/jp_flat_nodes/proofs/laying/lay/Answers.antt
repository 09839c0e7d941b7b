use Rattle.std.proofs.Common.{◌≡◌, ◌+◌, suc, ◌∙◌, map, take, get_or, ap, arith}
use Rattle.std.proofs.Math.Seq.{take-suc}
use Rattle.std.proofs.lemmas.List.{take_all}
use Rattle.json.specs.declared.tape.Node.TheVariants as taped
use Rattle.jp_flat_nodes.specs.inner.Laid.{link_in}
use Rattle.jp_flat_nodes.proofs.LaidNodes.{one_laid, all_linked}
use Rattle.jp_flat_nodes.proofs.laying.lay.Goals as goal

pub loop-node-preserved : goal.loop-node-preserved
loop-node-preserved c =
    let tape = c.args.tape.now in
    let i = c.loop-node.node-index in
    let next : i + 1 ≡ suc i = omega arith in
    one_laid c.loop-node.out.texts.items c.laid.new.texts.items (take i tape) (take (i + 1) tape)
    c.loop-node.out.nodes.items c.push.new.self.items (get_or tape i (taped.Object 0)) c.in_ok-own.own
    c.loop-node.invariant c.in_ok-own.ensures c.in_ok-push.ensures.items
    (ap (λ k. take k tape) next ∙ take-suc tape i (taped.Object 0) (omega arith))

pub returns-clause-linked : goal.returns-clause-linked
returns-clause-linked c =
    let tape = c.args.tape.now in
    all_linked _ c.loop-node.out.nodes.items tape c.requires.linked (c.loop-node.invariant.links
    ∙ ap (map link_in) (take_all c.loop-node.node-index tape (omega arith)))
