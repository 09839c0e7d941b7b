use Rattle.std.proofs.Common.{◌≡◌, true, ap, subst, sym, arith}
use Rattle.json.specs.Token.{begin_object}
use Rattle.jp_flat.specs.Document.{document_source}
use Rattle.jp_flat.specs.Flat.{value_at}
use Rattle.jp_flat.specs.Value.{tokens_of}
use Rattle.jp_flat.specs.inner.Plain.{is_flat}
use Rattle.jp_flat_nodes.specs.Nodes.{token_at}
use Rattle.jp_flat.proofs.Opening.{opens}
use Rattle.jp_flat.proofs.Shapes.{node_tells, no_object}
use Rattle.jp_flat.proofs.value.FlatValue.members.Goals as goal

pub invariant_of-result : goal.invariant_of-result
invariant_of-result c =
    let d = c.args.self.document.now in
    record {
      flat = subst (λ l. is_flat l ≡ true)
          (opens (document_source d) d.nodes.now c.args.self.at c.node.result begin_object
          (ap (token_at (document_source d)) c.in-Object.is) c.node.ensures.token)
          c.args.self.flat;
    }

pub returns-in-Object : goal.returns-in-Object
returns-in-Object c =
    let d = c.args.self.document.now in
    ap value_at (sym
    (opens (document_source d) d.nodes.now c.args.self.at c.node.result begin_object
    (ap (token_at (document_source d)) c.in-Object.is) c.node.ensures.token))

pub returns-in_default : goal.returns-in_default
returns-in_default c =
    let bytes = document_source c.args.self.document.now in
    no_object bytes c.node.result _ (λ a e. grind arith)
    (node_tells bytes (tokens_of c.args.self) c.node.result c.args.self.flat c.node.ensures.token)
