use mathlib.Core.Logic.{∥∥₁_elim}
use Rattle.std.proofs.Common.{ap, ◌∙◌, sym, subst}
use Rattle.std.proofs.Props.{props}
use Rattle.std.proofs.lemmas.Str.{encodes-chars, IsUtf8-from_is_utf8}
use Rattle.std.specs.Prelude.{encode_utf8_all}
use Rattle.std.specs.Str.{chars}
use Rattle.json.specs.Token.{key}
use Rattle.json.specs.Print.{token_text}
use Rattle.jp_flat.specs.Document.{document_source}
use Rattle.jp_flat.specs.inner.Held.{HasPiece}
use Rattle.jp_flat_nodes.specs.Nodes.{piece}
use Rattle.jp_flat.proofs.Naming.{inside_named, name_is}
use Rattle.jp_flat.proofs.value.FlatMember.quoted_name.Goals as goal

pub node-requires : goal.node-requires
node-requires c =
    let m = c.args.self in
    ∥∥₁_elim m.named (hlevel props) (λ named. inside_named m.value.document.now m.value.at m.name.now named)

pub returns-in-Key : goal.returns-in-Key
returns-in-Key c =
    let m = c.args.self in
    let d = m.value.document.now in
    let text = piece d.line.now c.in-Key.from c.in-Key.count in
    let held = subst (HasPiece (document_source d)) c.in-Key.is c.node.ensures.piece in
    ∥∥₁_elim m.named (hlevel props) (λ named.
    c.quoted_name.ensures ∙ ap (λ s. token_text (key s)) (sym (encodes-chars text (IsUtf8-from_is_utf8 text
    held.0.1)))
    ∙ ap (λ s. token_text (key (encode_utf8_all (chars s)))) (name_is d m.value.at m.name.now c.node.result
    c.in-Key.from
    c.in-Key.count named c.node.ensures.token c.in-Key.is))
