use Rattle.std.proofs.Common.{sym, ap, subst, arith}
use Rattle.jp_flat.specs.Document.{document_source}
use Rattle.jp_flat.specs.Flat.{value_at}
use Rattle.jp_flat.specs.Structured.{is_structured}
use Rattle.jp_flat.specs.Value.{tokens_of}
use Rattle.jp_flat.proofs.Shapes.{Tells, node_tells, no_array, no_object}
use Rattle.jp_flat.proofs.Structures.{primitive}
use Rattle.jp_flat.proofs.value.FlatValue.is_structured.Goals as goal

pub returns-in-Object : goal.returns-in-Object
returns-in-Object c =
    let ts = tokens_of c.args.self in
    let bytes = document_source c.args.self.document.now in
    let told = subst (λ n. Tells bytes n (value_at ts)) c.in-Object.is
    (node_tells bytes ts c.node.result c.args.self.flat c.node.ensures.token) in
    sym (ap is_structured told.1)

pub returns-in-Array : goal.returns-in-Array
returns-in-Array c =
    let ts = tokens_of c.args.self in
    let bytes = document_source c.args.self.document.now in
    let told = subst (λ n. Tells bytes n (value_at ts)) c.in-Array.is
    (node_tells bytes ts c.node.result c.args.self.flat c.node.ensures.token) in
    sym (ap is_structured told.1)

pub returns-in_default : goal.returns-in_default
returns-in_default c =
    let ts = tokens_of c.args.self in
    let bytes = document_source c.args.self.document.now in
    let told = node_tells bytes ts c.node.result c.args.self.flat c.node.ensures.token in
    sym (primitive (value_at ts) (no_array bytes c.node.result _ (λ a e. grind arith) told)
    (no_object bytes c.node.result _ (λ a e. grind arith) told))
