-- When a line has a tree: the kit's grammar reads it one level deeper, and it nests no deeper than it may.
use Rattle.std.proofs.Common.{◌≡◌, ℕ, ◌<◌, ◌≤◌, List, [], ◌∷◌, Option, Some, None, option_and_then, sym, ap}
use Rattle.std.proofs.Common.{◌∙◌, refl, subst, arith, append-nil}
use Rattle.json.specs.Token.{Token}
use Rattle.json.specs.Lex.{tokens}
use Rattle.json.specs.Json as grammar
use Rattle.json.specs.Tree as tree
use Rattle.json.specs.Tree.{json_tokens, HasNumbers}
use Rattle.json.proofs.Found.{not_found, Some_inj}
use Rattle.json.proofs.Nesting.{value-depth}
use Rattle.json.proofs.Numbered.{value-HasNumbers, ArePrintableOrBad-tokens}
use Rattle.json.proofs.Printed.Trees.{value-json_tokens}
use Rattle.json.proofs.Unique.Spelling.{tokens-document, value-json_tokens_back}
use Rattle.serde_json.specs.Read.{max_depth}
use Rattle.jp_doc.specs.Tree.{tree_of}

abbrev Read : Type 0
Read = Option (grammar.Json × List Token)

-- what is left behind a value decides whether it is the whole line
abbrev whole : Read → Option grammar.Json
whole o = option_and_then (λ p. grammar.if_last p.0 p.1) o

-- what is read so deep is read one level deeper
read_deeper : (line : List ℕ) (j : grammar.Json) (rest : List Token)
    → grammar.value max_depth (tokens line) ≡ Some (j, rest) → grammar.document line ≡ grammar.if_last j rest
read_deeper line j rest e =
    let nests = value-depth max_depth (tokens line) rest j e in
    ap (λ ts. whole (grammar.value grammar.max_depth ts))
    (value-json_tokens_back max_depth (tokens line) rest j e)
    ∙ ap whole (value-json_tokens j grammar.max_depth rest (omega (arith, nests)))

last_is : (i j : grammar.Json) (rest : List Token) → grammar.if_last i rest ≡ Some j → i ≡ j
last_is i j [] e = Some_inj i j e
last_is i j (t ∷ ts) e = not_found j e

-- where the tree of the deeper reading nests too deep, nothing is read
pub too_deep : (line : List ℕ) (j : grammar.Json) → grammar.document line ≡ Some j → max_depth < tree.depth j
    → grammar.value max_depth (tokens line) ≡ None
too_deep line j e deep = go (grammar.value max_depth (tokens line)) refl
  where
    go : (o : Read) → grammar.value max_depth (tokens line) ≡ o → o ≡ None
    go None is = refl
    go (Some p) is =
        let same = last_is p.0 j p.1 (sym (read_deeper line p.0 p.1 is) ∙ e) in
        let nests = value-depth max_depth (tokens line) p.1 p.0 is in
        let again : tree.depth p.0 ≡ tree.depth j = ap tree.depth same in
        absurd (omega (arith, nests, again))

pub deep_tree : (line : List ℕ) (j : grammar.Json) → grammar.document line ≡ Some j → max_depth < tree.depth j
    → tree_of line ≡ None
deep_tree line j e deep = ap whole (too_deep line j e deep)

pub shallow_tree : (line : List ℕ) (j : grammar.Json) → grammar.document line ≡ Some j
    → tree.depth j ≤ max_depth → tree_of line ≡ Some j
shallow_tree line j e shallow =
    ap (λ ts. whole (grammar.value max_depth ts))
    (tokens-document line j e ∙ sym (append-nil (json_tokens j)))
    ∙ ap whole (value-json_tokens j max_depth [] shallow)

-- what no reading finds at the greater depth has no tree
pub no_tree : (line : List ℕ) → grammar.document line ≡ None → tree_of line ≡ None
no_tree line e = go (grammar.value max_depth (tokens line)) refl
  where
    go : (o : Read) → grammar.value max_depth (tokens line) ≡ o → whole o ≡ None
    go None is = refl
    go (Some p) is = sym (read_deeper line p.0 p.1 is) ∙ e

-- the tokens of a line that has a tree are those of the tree, which nests no deeper than it may
pub spelled_tree : (line : List ℕ) (j : grammar.Json) → tree_of line ≡ Some j
    → (tokens line ≡ json_tokens j) × (tree.depth j ≤ max_depth)
spelled_tree line j e = go (grammar.value max_depth (tokens line)) refl e
  where
    go : (o : Read) → grammar.value max_depth (tokens line) ≡ o → whole o ≡ Some j
        → (tokens line ≡ json_tokens j) × (tree.depth j ≤ max_depth)
    go None is h = not_found j h
    go (Some (i, [])) is h =
        let same : i ≡ j = Some_inj i j h in (
          value-json_tokens_back max_depth (tokens line) [] i is ∙ append-nil (json_tokens i)
              ∙ ap json_tokens same,
          subst (λ k. tree.depth k ≤ max_depth) same (value-depth max_depth (tokens line) [] i is),
        )
    go (Some (i, t ∷ ts)) is h = not_found j h

-- each number in it has the text of one
pub tree_has_numbers : (line : List ℕ) (j : grammar.Json) → tree_of line ≡ Some j → HasNumbers j
tree_has_numbers line j e = go (grammar.value max_depth (tokens line)) refl e
  where
    go : (o : Read) → grammar.value max_depth (tokens line) ≡ o → whole o ≡ Some j → HasNumbers j
    go None is h = not_found j h
    go (Some (i, [])) is h =
        subst HasNumbers (Some_inj i j h)
        (value-HasNumbers max_depth (tokens line) [] i (ArePrintableOrBad-tokens line) is)
    go (Some (i, t ∷ ts)) is h = not_found j h
