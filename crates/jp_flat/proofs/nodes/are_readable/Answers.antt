use Rattle.std.proofs.Common.{◌≡◌, ◌+◌, ◌&&◌, Bool, true, false, map, drop, refl, sym, ap, ◌∙◌}
use Rattle.std.proofs.lemmas.List.{at_drop_more}
use Rattle.json.specs.Tape.{node_token}
use Rattle.json.specs.declared.tape.Node.TheVariants.{Object}
use Rattle.jp_flat.specs.inner.Decimals.{are_readable}
use Rattle.jp_flat.specs.inner.Nesting.{nests_from}
use Rattle.jp_flat.proofs.nodes.are_readable.Goals as goal

never : (b : Bool) → (b && false) ≡ false
never true = refl
never false = refl

pub returns-then-not-is_node_readable : goal.returns-then-not-is_node_readable
returns-then-not-is_node_readable c =
    let i = c.loop-node.node-index in
    let nodes = c.args.nodes.now in
    let left = map node_token (drop (i + 1) nodes) in
    let nested = nests_from c.loop-node.level (map node_token (drop i nodes)) in
    let refused : are_readable (map node_token (drop i nodes)) ≡ false =
    at_drop_more (λ ns. are_readable (map node_token ns)) nodes i (Object 0) c.loop-node-test.true
    ∙ c.if-not-is_node_readable.ensures left in
    sym (sym c.loop-node.invariant.0 ∙ ap (λ b. nested && b) refused ∙ never nested)
