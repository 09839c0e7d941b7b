-- The name that stands before a value.
use Rattle.std.proofs.Common.{◌≡◌, ℕ, ◌+◌, ◌-◌, ◌<◌, List, [], ◌∷◌, drop, length, ap, ◌∙◌, sym, arith}
use Rattle.std.proofs.Common.{lt_of_not-le}
use Rattle.std.proofs.lemmas.List.{drop_all, length-map}
use Rattle.json.specs.Token.{Token, key}
use Rattle.json.specs.Token as token
use Rattle.jp_flat.specs.Document.{document_source, document_tokens}
use Rattle.jp_flat.specs.inner.Held.{IsNamed}
use Rattle.jp_flat.specs.declared.document.FlatDocument.{FlatDocument}
use Rattle.jp_flat_nodes.specs.Nodes.{piece, token_at}
use Rattle.jp_flat_nodes.specs.declared.node.FlatNode.{FlatNode}
use Rattle.jp_flat_nodes.specs.declared.node.FlatNode.TheVariants.{Key}

pub inside_named : (d : FlatDocument) (at : ℕ) (name : List ℕ) → IsNamed (document_tokens d) at name
    → at - 1 < length d.nodes.now
inside_named d at name h = lt_of_not-le (λ past.
    let none : [] ≡ key name ∷ drop at (document_tokens d) =
    sym (drop_all (at - 1) (document_tokens d) (omega
    (arith, past, length-map d.nodes.now (token_at (document_source d))))) ∙ h.1 in
    omega (arith, ap length none))

-- the name that the tokens begin with
abbrev name_in : List Token → List ℕ
name_in [] = []
name_in (token.begin_object ∷ ts) = []
name_in (token.end_object ∷ ts) = []
name_in (token.begin_array ∷ ts) = []
name_in (token.end_array ∷ ts) = []
name_in (token.key s ∷ ts) = s
name_in (token.string s ∷ ts) = []
name_in (token.number s ∷ ts) = []
name_in (token.boolean b ∷ ts) = []
name_in (token.null ∷ ts) = []
name_in (token.bad ∷ ts) = []

pub name_is : (d : FlatDocument) (at : ℕ) (name : List ℕ) (n : FlatNode) (from count : ℕ)
    → IsNamed (document_tokens d) at name
    → drop (at - 1) (document_tokens d) ≡ token_at (document_source d) n
    ∷ drop (at - 1 + 1) (document_tokens d)
    → n ≡ Key from count → piece d.line.now from count ≡ name
name_is d at name n from count named here is =
    sym (ap (λ m. name_in (token_at (document_source d) m ∷ drop (at - 1 + 1) (document_tokens d))) is)
    ∙ sym (ap name_in here) ∙ ap name_in named.1
