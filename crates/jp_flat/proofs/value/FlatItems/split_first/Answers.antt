use Rattle.std.proofs.Common.{◌+◌, ◌<◌, ◌∷◌, length, drop, ap, ◌∙◌, arith}
use Rattle.std.proofs.lemmas.List.{length-map}
use Rattle.jp_flat.specs.Document.{document_source, document_tokens}
use Rattle.jp_flat_nodes.specs.Nodes.{token_at}
use Rattle.jp_flat.proofs.Inside.{items_end, items_within, split_items}
use Rattle.jp_flat.proofs.value.FlatItems.split_first.Goals as goal

pub node-requires : goal.node-requires
node-requires c =
    let d = c.args.self.document.now in
    items_within (document_source d) d.nodes.now c.args.self.at c.args.self.flat

pub invariant_of-result : goal.invariant_of-result
invariant_of-result c =
    let d = c.args.self.document.now in
    record {
      flat = (split_items (document_source d) _ _ _ c.node.result c.args.self.flat c.node.ensures.token
          (λ e. grind arith) c.after-end.ensures.value).flat;
    }

pub invariant_of-others : goal.invariant_of-others
invariant_of-others c =
    let d = c.args.self.document.now in
    record {
      flat = (split_items (document_source d) _ _ _ c.node.result c.args.self.flat c.node.ensures.token
          (λ e. grind arith) c.after-end.ensures.value).after_flat;
    }

pub returns-in-EndArray-clause-value : goal.returns-in-EndArray-clause-value
returns-in-EndArray-clause-value c =
    let d = c.args.self.document.now in
    let at = c.args.self.at in
    let all = document_tokens d in
    items_end (drop at all) (drop (at + 1) all) c.args.self.flat
    (c.node.ensures.token ∙ ap (λ n. token_at (document_source d) n ∷ drop (at + 1) all) c.in-EndArray.is)

pub returns-in_default : goal.returns-in_default
returns-in_default c =
    let d = c.args.self.document.now in
    let at = c.args.self.at in
    let inside : at < length d.nodes.now = items_within (document_source d) d.nodes.now at c.args.self.flat in
    record {
      value = (split_items (document_source d) _ _ _ c.node.result c.args.self.flat c.node.ensures.token
          (λ e. grind arith) c.after-end.ensures.value).value;
      fewer = omega (
        arith,
        c.after-end.ensures.later,
        inside,
        length-map d.nodes.now (token_at
            (document_source d)),
      );
    }
