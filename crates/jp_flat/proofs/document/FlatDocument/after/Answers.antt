use mathlib.Core.Logic.{∥∥₁_elim}
use Rattle.std.proofs.Common.{◌≡◌, ℕ, ◌<◌, Some, length, get_or, sym, ap, ◌∙◌, arith, ⊎_elim}
use Rattle.std.proofs.Props.{props}
use Rattle.std.proofs.lemmas.List.{get_or_default}
use Rattle.std.specs.Coded.{Coded-set}
use Rattle.json.specs.Json.{value}
use Rattle.json.specs.Tape.{Passes}
use Rattle.json.specs.Token.{tokens_code}
use Rattle.jp_flat.specs.Document.{document_source, document_tokens}
use Rattle.jp_flat.specs.inner.Held.{IsHeld}
use Rattle.jp_flat.specs.declared.document.FlatDocument.{FlatDocument}
use Rattle.jp_flat_nodes.specs.Nodes.{link_of}
use Rattle.jp_flat_nodes.specs.declared.node.FlatNode.TheVariants.{Object, Null}
use Rattle.jp_flat.proofs.Shapes.{here, one_token, by_link}
use Rattle.jp_flat.proofs.document.FlatDocument.after.Goals as goal

passes : (d : FlatDocument) (at end : ℕ) → at < length d.nodes.now
    → link_of (get_or d.nodes.now at (Object 0)) ≡ Some end → IsHeld (document_source d) d.nodes.now
    → Passes (document_tokens d) at end
passes d at end inside link held =
    held.linked at end (ap link_of (get_or_default d.nodes.now at Null (Object 0) inside) ∙ link)

pub returns-in_default : goal.returns-in_default
returns-in_default c =
    let d = c.args.self.now in
    record {
      value = λ depth j rest e. one_token (document_source d) _ _ j depth rest (λ a z. grind arith)
          (λ a z. grind arith)
          (ap (value depth) (sym (here (document_source d) d.nodes.now c.args.at (Object 0) c.requires)) ∙ e);
      later = omega arith;
    }

pub returns-in-Object-clause-value : goal.returns-in-Object-clause-value
returns-in-Object-clause-value c depth j rest e =
    let d = c.args.self.now in
    let end = c.in-Object.end in
    ∥∥₁_elim d.held (Coded-set tokens_code _ _) (λ held.
    by_link (document_tokens d) c.args.at end depth j rest (passes d c.args.at end c.requires
    (⊎_elim (λ is. ap link_of is) (λ is. ap link_of is) c.in-Object.is) held) e)

pub returns-in-Object-2-clause-value : goal.returns-in-Object-2-clause-value
returns-in-Object-2-clause-value c depth j rest e =
    let d = c.args.self.now in
    let end = c.in-Object.end in
    ∥∥₁_elim d.held (Coded-set tokens_code _ _) (λ held.
    by_link (document_tokens d) c.args.at end depth j rest (passes d c.args.at end c.requires
    (⊎_elim (λ is. ap link_of is) (λ is. ap link_of is) c.in-Object.is) held) e)

pub returns-in-Object-clause-later : goal.returns-in-Object-clause-later
returns-in-Object-clause-later c =
    let d = c.args.self.now in
    let end = c.in-Object.end in
    ∥∥₁_elim d.held (hlevel props) (λ held.
    (passes d c.args.at end c.requires
    (⊎_elim (λ is. ap link_of is) (λ is. ap link_of is) c.in-Object.is) held).2)

pub returns-in-Object-2-clause-later : goal.returns-in-Object-2-clause-later
returns-in-Object-2-clause-later c =
    let d = c.args.self.now in
    let end = c.in-Object.end in
    ∥∥₁_elim d.held (hlevel props) (λ held.
    (passes d c.args.at end c.requires
    (⊎_elim (λ is. ap link_of is) (λ is. ap link_of is) c.in-Object.is) held).2)
