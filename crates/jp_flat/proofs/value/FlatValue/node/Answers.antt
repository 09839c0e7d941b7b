use Rattle.std.proofs.Common.{◌∷◌, ap, ◌∙◌, sym}
use Rattle.std.proofs.lemmas.List.{drop-drop}
use Rattle.jp_flat.specs.Document.{document_source, document_tokens}
use Rattle.jp_flat_nodes.specs.Nodes.{token_at}
use Rattle.jp_flat.proofs.Shapes.{within}
use Rattle.jp_flat.proofs.value.FlatValue.node.Goals as goal

pub node-requires : goal.node-requires
node-requires c =
    let d = c.args.self.document.now in
    within (document_source d) d.nodes.now c.args.self.at c.args.self.flat

pub returns-clause-token : goal.returns-clause-token
returns-clause-token c =
    let d = c.args.self.document.now in
    c.node.ensures.token ∙ ap (λ ts. token_at (document_source d) c.node.result ∷ ts)
    (sym (drop-drop 1 c.args.self.at (document_tokens d)))
