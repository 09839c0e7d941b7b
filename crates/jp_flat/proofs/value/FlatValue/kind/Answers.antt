use Rattle.std.proofs.Common.{◌≡◌, true, sym, ap, ◌∙◌, subst, arith}
use Rattle.std.specs.Str.{chars}
use Rattle.json.specs.Token.{begin_array, begin_object}
use Rattle.jp_doc.specs.Json.{number, text}
use Rattle.jp_doc.specs.Tree.{text_number}
use Rattle.jp_flat.specs.Document.{document_source}
use Rattle.jp_flat.specs.Flat.{value_at}
use Rattle.jp_flat.specs.Value.{tokens_of}
use Rattle.jp_flat.specs.inner.Plain.{is_fit_number, is_flat}
use Rattle.jp_flat_nodes.specs.Nodes.{token_at}
use Rattle.jp_flat.proofs.Opening.{opens}
use Rattle.jp_flat.proofs.Shapes.{Tells, node_tells, number_is_fit, other_node}
use Rattle.jp_flat.proofs.value.FlatValue.kind.Goals as goal

pub invariant_of-result : goal.invariant_of-result
invariant_of-result c =
    let d = c.args.self.document.now in
    record {
      flat = subst (λ l. is_flat l ≡ true)
          (opens (document_source d) d.nodes.now c.args.self.at c.node.result begin_object
          (ap (token_at (document_source d)) c.in-Object.is) c.node.ensures.token)
          c.args.self.flat;
    }

pub invariant_of-result-in-Array : goal.invariant_of-result-in-Array
invariant_of-result-in-Array c =
    let d = c.args.self.document.now in
    record {
      flat = subst (λ l. is_flat l ≡ true)
          (opens (document_source d) d.nodes.now c.args.self.at c.node.result begin_array
          (ap (token_at (document_source d)) c.in-Array.is) c.node.ensures.token)
          c.args.self.flat;
    }

pub invariant_of-result-in-Number : goal.invariant_of-result-in-Number
invariant_of-result-in-Number c =
    let bytes = document_source c.args.self.document.now in
    record {
      fit = subst (λ s. is_fit_number s ≡ true) (sym c.piece-in-Number.ensures)
          (number_is_fit bytes (tokens_of c.args.self) c.node.result _ _ c.args.self.flat c.node.ensures.token
          c.in-Number.is);
    }

pub returns-in-Object : goal.returns-in-Object
returns-in-Object c =
    let ts = tokens_of c.args.self in
    let d = c.args.self.document.now in
    let tells = subst (λ n. Tells (document_source d) n (value_at ts)) c.in-Object.is
    (node_tells (document_source d) ts c.node.result c.args.self.flat c.node.ensures.token) in (
      tells.0,
      tells.1,
      ap value_at (sym
          (opens (document_source d) d.nodes.now c.args.self.at c.node.result begin_object
          (ap (token_at (document_source d)) c.in-Object.is) c.node.ensures.token)),
    )

pub returns-in-Array : goal.returns-in-Array
returns-in-Array c =
    let ts = tokens_of c.args.self in
    let d = c.args.self.document.now in
    let tells = subst (λ n. Tells (document_source d) n (value_at ts)) c.in-Array.is
    (node_tells (document_source d) ts c.node.result c.args.self.flat c.node.ensures.token) in (
      tells.0,
      tells.1,
      ap value_at (sym
          (opens (document_source d) d.nodes.now c.args.self.at c.node.result begin_array
          (ap (token_at (document_source d)) c.in-Array.is) c.node.ensures.token)),
    )

pub returns-in-Truth : goal.returns-in-Truth
returns-in-Truth c =
    let ts = tokens_of c.args.self in
    let bytes = document_source c.args.self.document.now in
    subst (λ n. Tells bytes n (value_at ts)) c.in-Truth.is
    (node_tells bytes ts c.node.result c.args.self.flat c.node.ensures.token)

pub returns-in-Text : goal.returns-in-Text
returns-in-Text c =
    let ts = tokens_of c.args.self in
    let bytes = document_source c.args.self.document.now in
    subst (λ n. Tells bytes n (value_at ts)) c.in-Text.is
    (node_tells bytes ts c.node.result c.args.self.flat c.node.ensures.token)
    ∙ ap (λ s. text (chars s)) (sym c.piece.ensures)

pub returns-in-Escaped : goal.returns-in-Escaped
returns-in-Escaped c =
    let ts = tokens_of c.args.self in
    let bytes = document_source c.args.self.document.now in
    subst (λ n. Tells bytes n (value_at ts)) c.in-Escaped.is
    (node_tells bytes ts c.node.result c.args.self.flat c.node.ensures.token)
    ∙ ap (λ s. text (chars s)) (sym c.unescaped.ensures)

pub returns-in-Number : goal.returns-in-Number
returns-in-Number c =
    let ts = tokens_of c.args.self in
    let bytes = document_source c.args.self.document.now in
    subst (λ n. Tells bytes n (value_at ts)) c.in-Number.is
    (node_tells bytes ts c.node.result c.args.self.flat c.node.ensures.token)
    ∙ ap (λ s. number (text_number s)) (sym c.piece-in-Number.ensures)

pub returns-in_default : goal.returns-in_default
returns-in_default c =
    let ts = tokens_of c.args.self in
    let bytes = document_source c.args.self.document.now in
    other_node bytes c.node.result (value_at ts) (λ a e. grind arith) (λ a e. grind arith)
    (λ s k e. grind arith) (λ s k e. grind arith) (λ s k e. grind arith) (λ b e. grind arith)
    (node_tells bytes ts c.node.result c.args.self.flat c.node.ensures.token)
