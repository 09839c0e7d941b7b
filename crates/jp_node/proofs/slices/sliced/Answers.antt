use Rattle.std.proofs.Common.{ap₂, sym, ◌∙◌, arith}
use Rattle.std.proofs.lemmas.Result.{IfOk-weaker}
use Rattle.jp_doc.specs.Location.{node}
use Rattle.jp_node.specs.BoundsView.{bounds_value}
use Rattle.jp_node.specs.Slice.{slice_indexes}
use Rattle.jp_node.specs.Nodes.{items_at}
use Rattle.jp_node.proofs.BoundsWithin.{within_more}
use Rattle.jp_node.proofs.Slicing.{items_counted}
use Rattle.jp_node.proofs.slices.sliced.Goals as goal

pub rising-requires-clause-within : goal.rising-requires-clause-within
rising-requires-clause-within c =
    let same = items_counted _ _ c.in-Items.ensures in
    within_more _ _ _ (omega (arith, same)) c.requires

pub falling-requires-clause-within : goal.falling-requires-clause-within
falling-requires-clause-within c =
    let same = items_counted _ _ c.in-Items.ensures in
    within_more _ _ _ (omega (arith, same)) c.requires

pub returns-then-bounds-gt0-clause-nodes : goal.returns-then-bounds-gt0-clause-nodes
returns-then-bounds-gt0-clause-nodes c = IfOk-weaker c.rising.result _ _
    (λ v h at. h at ∙ ap₂ (λ w n. items_at (node at w) (slice_indexes (bounds_value c.args.bounds) n))
    (sym c.in-Items.ensures) (sym (items_counted _ _ c.in-Items.ensures))) c.rising.ensures.nodes

pub returns-then-bounds-lt0-clause-nodes : goal.returns-then-bounds-lt0-clause-nodes
returns-then-bounds-lt0-clause-nodes c = IfOk-weaker c.falling.result _ _
    (λ v h at. h at ∙ ap₂ (λ w n. items_at (node at w) (slice_indexes (bounds_value c.args.bounds) n))
    (sym c.in-Items.ensures) (sym (items_counted _ _ c.in-Items.ensures))) c.falling.ensures.nodes
