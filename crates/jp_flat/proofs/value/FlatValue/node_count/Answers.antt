use Rattle.std.proofs.Common.{arith}
use Rattle.jp_flat.specs.Document.{document_source}
use Rattle.jp_flat.proofs.Kept.{short_by_nodes}
use Rattle.jp_flat.proofs.Shapes.{within}
use Rattle.jp_flat.proofs.value.FlatValue.node_count.Goals as goal

pub after-requires : goal.after-requires
after-requires c =
    let d = c.args.self.document.now in
    within (document_source d) d.nodes.now c.args.self.at c.args.self.flat

pub returns : goal.returns
returns c n few =
    short_by_nodes c.args.self c.after.result n c.after.ensures.value c.after.ensures.later
    (omega (arith, few))
