-- What stands behind the bracket that a value begins with.
use Rattle.std.proofs.Common.{◌≡◌, ℕ, ◌+◌, List, ◌∷◌, drop, ap, ◌∙◌}
use Rattle.std.proofs.lemmas.List.{drop-drop}
use Rattle.json.specs.Token.{Token}
use Rattle.jp_flat_nodes.specs.Nodes.{Source, token_at, tokens_at}
use Rattle.jp_flat_nodes.specs.declared.node.FlatNode.{FlatNode}

-- the tokens from a node on, by its token
pub opens : (bytes : Source) (ns : List FlatNode) (at : ℕ) (n : FlatNode) (t : Token) → token_at bytes n ≡ t
    → drop at (tokens_at bytes ns) ≡ token_at bytes n ∷ drop 1 (drop at (tokens_at bytes ns))
    → drop at (tokens_at bytes ns) ≡ t ∷ drop (at + 1) (tokens_at bytes ns)
opens bytes ns at n t is here =
    let all = tokens_at bytes ns in
    here ∙ ap (λ u. u ∷ drop 1 (drop at all)) is ∙ ap (λ l. t ∷ l) (drop-drop 1 at all)
