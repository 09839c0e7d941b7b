use Rattle.std.proofs.Common.{ap, ◌∙◌, Some, sym, subst, arith}
use Rattle.std.specs.Str.{chars}
use Rattle.jp_flat.specs.Document.{document_source}
use Rattle.jp_flat.specs.Flat.{value_at}
use Rattle.jp_flat.specs.Value.{tokens_of, text_in}
use Rattle.jp_flat.proofs.Shapes.{Tells, node_tells, no_text}
use Rattle.jp_flat.proofs.value.FlatValue.text.Goals as goal

pub returns-in-Text : goal.returns-in-Text
returns-in-Text c =
    let ts = tokens_of c.args.self in
    let bytes = document_source c.args.self.document.now in
    ap (λ s. Some (chars s)) c.piece.ensures
    ∙ sym (ap text_in (subst (λ n. Tells bytes n (value_at ts)) c.in-Text.is
    (node_tells bytes ts c.node.result c.args.self.flat c.node.ensures.token)))

pub returns-in-Escaped : goal.returns-in-Escaped
returns-in-Escaped c =
    let ts = tokens_of c.args.self in
    let bytes = document_source c.args.self.document.now in
    ap (λ s. Some (chars s)) c.unescaped.ensures
    ∙ sym (ap text_in (subst (λ n. Tells bytes n (value_at ts)) c.in-Escaped.is
    (node_tells bytes ts c.node.result c.args.self.flat c.node.ensures.token)))

pub returns-in_default : goal.returns-in_default
returns-in_default c =
    let bytes = document_source c.args.self.document.now in
    no_text bytes c.node.result _ (λ s k e. grind arith) (λ s k e. grind arith)
    (node_tells bytes (tokens_of c.args.self) c.node.result c.args.self.flat c.node.ensures.token)
