use Rattle.std.proofs.Common.{ap, ◌∙◌, sym, subst}
use Rattle.std.proofs.lemmas.Str.{encodes-chars, IsUtf8-from_is_utf8}
use Rattle.std.specs.Str.{chars}
use Rattle.json.specs.Print.{quoted}
use Rattle.jp_flat.specs.Document.{document_source}
use Rattle.jp_flat.specs.Flat.{value_at}
use Rattle.jp_flat.specs.Value.{tokens_of}
use Rattle.jp_flat.specs.inner.Held.{HasPiece}
use Rattle.jp_flat_nodes.specs.Nodes.{piece}
use Rattle.jp_flat.proofs.Shapes.{Tells, node_tells}
use Rattle.jp_flat.proofs.value.FlatValue.quoted.Goals as goal

pub returns-in-Text : goal.returns-in-Text
returns-in-Text c =
    let ts = tokens_of c.args.self in
    let bytes = document_source c.args.self.document.now in
    let text = piece bytes.line c.in-Text.from c.in-Text.count in
    let held = subst (HasPiece bytes) c.in-Text.is c.node.ensures.piece in (
      chars text,
      subst (λ n. Tells bytes n (value_at ts)) c.in-Text.is
          (node_tells bytes ts c.node.result c.args.self.flat c.node.ensures.token),
      c.quoted.ensures ∙ ap quoted (sym (encodes-chars text (IsUtf8-from_is_utf8 text held.0.1))),
    )
