use mathlib.Core.Logic.{∥∥₁_elim}
use Rattle.std.proofs.Common.{get_or, subst}
use Rattle.std.proofs.lemmas.List.{get_or_default}
use Rattle.jp_flat.specs.Document.{document_source}
use Rattle.jp_flat.specs.inner.Held.{HasPiece}
use Rattle.jp_flat_nodes.specs.declared.node.FlatNode.TheVariants.{Object, Null}
use Rattle.jp_flat.proofs.Pieces.{HasPiece-IsProp}
use Rattle.jp_flat.proofs.Shapes.{here}
use Rattle.jp_flat.proofs.document.FlatDocument.node.Goals as goal

pub returns-clause-token : goal.returns-clause-token
returns-clause-token c =
    let d = c.args.self.now in
    here (document_source d) d.nodes.now c.args.at (Object 0) c.requires

pub returns-clause-piece : goal.returns-clause-piece
returns-clause-piece c =
    let d = c.args.self.now in
    let at = c.args.at in
    ∥∥₁_elim d.held (HasPiece-IsProp (document_source d) (get_or d.nodes.now at (Object 0))) (λ held.
    subst (HasPiece (document_source d)) (get_or_default d.nodes.now at Null (Object 0) c.requires)
    (held.pieces at))
