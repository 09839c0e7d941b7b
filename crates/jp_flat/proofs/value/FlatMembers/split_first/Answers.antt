use Rattle.std.proofs.Common.{◌≡◌, ℕ, List, ◌+◌, ◌-◌, ◌∷◌, drop, ap, ◌∙◌, subst, sym, arith}
use Rattle.std.proofs.lemmas.List.{length-map}
use Rattle.json.specs.Token.{key}
use Rattle.jp_flat.specs.Document.{document_source, document_tokens}
use Rattle.jp_flat.specs.declared.value.FlatMembers.{FlatMembers}
use Rattle.jp_flat_nodes.specs.Nodes.{token_at}
use Rattle.jp_flat_nodes.specs.declared.node.FlatNode.{FlatNode}
use Rattle.jp_flat.proofs.InsideObject.{members_within, value_within, split_members, no_more, no_key, NoKey}
use Rattle.jp_flat.proofs.value.FlatMembers.split_first.Goals as goal

-- the tokens from a name on
behind : (m : FlatMembers) (n : FlatNode) (name : List ℕ)
    → drop m.at (document_tokens m.document.now)
    ≡ token_at (document_source m.document.now) n ∷ drop (m.at + 1) (document_tokens m.document.now)
    → token_at (document_source m.document.now) n ≡ key name
    → drop m.at (document_tokens m.document.now) ≡ key name ∷ drop (m.at + 1) (document_tokens m.document.now)
behind m n name here is = here ∙ ap (λ t. t ∷ drop (m.at + 1) (document_tokens m.document.now)) is

pub node-requires : goal.node-requires
node-requires c =
    let d = c.args.self.document.now in
    members_within (document_source d) d.nodes.now c.args.self.at c.args.self.flat

pub after-end-requires : goal.after-end-requires
after-end-requires c =
    let d = c.args.self.document.now in
    value_within (document_source d) d.nodes.now c.args.self.at _ c.args.self.flat
    (behind c.args.self c.node.result _ c.node.ensures.token c.in-Some.ensures)

pub invariant_of-value : goal.invariant_of-value
invariant_of-value c =
    let here = behind c.args.self c.node.result _ c.node.ensures.token c.in-Some.ensures in
    record { flat = (split_members _ _ _ _ c.args.self.flat here c.after-end.ensures.value).flat }

pub invariant_of-result : goal.invariant_of-result
invariant_of-result c =
    let m = c.args.self in
    let all = document_tokens m.document.now in
    let back : m.at + 1 - 1 ≡ m.at = omega arith in
    let here = behind m c.node.result _ c.node.ensures.token c.in-Some.ensures in
    record { named = ∣ (omega arith, ap (λ k. drop k all) back ∙ here) ∣₁ }

pub invariant_of-result-in-Some : goal.invariant_of-result-in-Some
invariant_of-result-in-Some c =
    let here = behind c.args.self c.node.result _ c.node.ensures.token c.in-Some.ensures in
    record { flat = (split_members _ _ _ _ c.args.self.flat here c.after-end.ensures.value).after_flat }

pub returns-in-Some-clause-value : goal.returns-in-Some-clause-value
returns-in-Some-clause-value c =
    let here = behind c.args.self c.node.result _ c.node.ensures.token c.in-Some.ensures in
    (split_members _ _ _ _ c.args.self.flat here c.after-end.ensures.value).entries

pub returns-in-Some-clause-fewer : goal.returns-in-Some-clause-fewer
returns-in-Some-clause-fewer c =
    let d = c.args.self.document.now in
    let inside = members_within (document_source d) d.nodes.now c.args.self.at c.args.self.flat in
    omega (arith, c.after-end.ensures.later, inside, length-map d.nodes.now (token_at (document_source d)))

pub returns-in-None : goal.returns-in-None
returns-in-None c =
    let d = c.args.self.document.now in
    let at = c.args.self.at in
    let all = document_tokens d in
    record {
      value = no_more (drop at all) c.args.self.flat (subst NoKey (sym c.node.ensures.token)
          (no_key (token_at (document_source d) c.node.result) (drop (at + 1) all)
          c.in-None.ensures));
      utf8 = tt;
      fewer = tt;
    }
