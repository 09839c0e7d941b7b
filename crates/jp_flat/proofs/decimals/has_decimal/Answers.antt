use Rattle.std.proofs.Common.{◌+◌, map, drop, sym, ap, ◌∙◌}
use Rattle.std.proofs.lemmas.List.{at_drop_more}
use Rattle.json.specs.Tape.{node_token}
use Rattle.json.specs.declared.tape.Node.TheVariants.{Object}
use Rattle.jp_flat.specs.inner.Decimals.{place_of, search}
use Rattle.jp_flat.proofs.Searching.{one_more}
use Rattle.jp_flat.proofs.decimals.has_decimal.Goals as goal

pub loop-node-preserved : goal.loop-node-preserved
loop-node-preserved c =
    let i = c.loop-node.node-index in
    let nodes = c.args.nodes.now in
    let place = place_of c.loop-node.search in (
      ap (search (map node_token (drop (i + 1) nodes))) c.in_ok-pass.ensures
          ∙ sym (at_drop_more (λ ns. search (map node_token ns) place) nodes i (Object 0)
          c.loop-node-test.true)
          ∙ c.loop-node.invariant.0,
      one_more _ i place _ _ _ c.loop-node.invariant.1 c.in_ok-pass.ensures,
    )
