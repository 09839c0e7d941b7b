use Rattle.std.proofs.Common.{◌≡◌, true, Some, sym, ap, ◌∙◌, subst, arith}
use Rattle.jp_doc.specs.Tree.{text_number}
use Rattle.jp_flat.specs.Document.{document_source}
use Rattle.jp_flat.specs.Flat.{value_at}
use Rattle.jp_flat.specs.Value.{tokens_of, number_in}
use Rattle.jp_flat.specs.inner.Plain.{is_fit_number}
use Rattle.jp_flat.proofs.Shapes.{Tells, node_tells, no_number, number_is_fit}
use Rattle.jp_flat.proofs.value.FlatValue.number.Goals as goal

pub read_number-requires : goal.read_number-requires
read_number-requires c =
    let bytes = document_source c.args.self.document.now in
    subst (λ s. is_fit_number s ≡ true) (sym c.piece.ensures)
    (number_is_fit bytes (tokens_of c.args.self) c.node.result _ _ c.args.self.flat c.node.ensures.token
    c.in-Number.is)

pub returns-in-Number : goal.returns-in-Number
returns-in-Number c =
    let ts = tokens_of c.args.self in
    let bytes = document_source c.args.self.document.now in
    let tells = subst (λ n. Tells bytes n (value_at ts)) c.in-Number.is
    (node_tells bytes ts c.node.result c.args.self.flat c.node.ensures.token) in
    ap Some (c.read_number.ensures ∙ ap text_number c.piece.ensures) ∙ sym (ap number_in tells)

pub returns-in_default : goal.returns-in_default
returns-in_default c =
    let bytes = document_source c.args.self.document.now in
    no_number bytes c.node.result _ (λ s k e. grind arith)
    (node_tells bytes (tokens_of c.args.self) c.node.result c.args.self.flat c.node.ensures.token)
