-- A line has a tree exactly where the kit reads it and its tokens nest no deeper than they may.
use Rattle.std.proofs.Common.{◌≡◌, ℕ, suc, ◌+◌, ◌-◌, ◌<◌, ◌≤◌, max, Bool, true, false, ◌&&◌, List, []}
use Rattle.std.proofs.Common.{◌++◌, Option, Some, None, refl, sym, ap, ◌∙◌, if◌then◌else◌, arith}
use Rattle.std.proofs.Common.{append_assoc, append-nil, le-leb}
use Rattle.std.proofs.lemmas.Bool.{ltb-true, ltb-false, leb-true, leb-false, lt-leb}
use Rattle.std.specs.Prelude.{nat_lt, nat_le}
use Rattle.json.specs.Token.{Token}
use Rattle.json.specs.Lex.{tokens}
use Rattle.json.specs.Json as text
use Rattle.json.specs.Tree as tree
use Rattle.json.specs.Tree.{json_tokens, items_tokens, members_tokens}
use Rattle.json.proofs.Unique.Spelling.{tokens-document}
use Rattle.jp_doc.specs.Tree.{tree_of}
use Rattle.jp_doc.proofs.TreeNesting.{deep_tree, shallow_tree, no_tree}
use Rattle.jp_flat.specs.inner.Nesting.{nests_from}

-- a value so deep fits behind so many open brackets
abbrev fits : ℕ → ℕ → Bool
fits level depth = nat_le (level + depth) 127

flat : (level : ℕ) (x : Bool) → level ≤ 127 → x ≡ (fits level 0 && x)
flat level x low = sym (ap (λ b. b && x) (le-leb (level + 0) 127 (omega arith)))

-- a bracket that opens, by what stands inside of it
opened_if : (b : Bool) (level depth : ℕ) (x y : Bool) → nat_lt level 127 ≡ b
    → (level < 127 → x ≡ (fits level (suc depth) && y)) → (b && x) ≡ (fits level (suc depth) && y)
opened_if true level depth x y e inside = inside (ltb-true level 127 e)
opened_if false level depth x y e inside =
    let most : 127 ≤ level = ltb-false level 127 e in
    sym (ap (λ b. b && y) (lt-leb (level + suc depth) 127 (omega arith)))

opened : (level depth : ℕ) (x y : Bool) → (level < 127 → x ≡ (fits level (suc depth) && y))
    → (nat_lt level 127 && x) ≡ (fits level (suc depth) && y)
opened level depth x y inside = opened_if (nat_lt level 127) level depth x y refl inside

closed : (level : ℕ) (r : List Token) → level < 127
    → nests_from (suc level - 1) r ≡ (fits level 1 && nests_from level r)
closed level r low =
    let e : suc level - 1 ≡ level = omega arith in
    ap (λ n. nests_from n r) e
    ∙ sym (ap (λ b. b && nests_from level r) (le-leb (level + 1) 127 (omega arith)))

-- both of two values fit where the deeper one does
both_if : (p q : Bool) (level a b : ℕ) (x : Bool) → fits (suc level) a ≡ p → fits level (suc b) ≡ q
    → (p && (q && x)) ≡ (fits level (suc (max a b)) && x)
both_if true true level a b x e f =
    let first : suc level + a ≤ 127 = leb-true _ 127 e in
    let others : level + suc b ≤ 127 = leb-true _ 127 f in
    sym (ap (λ t. t && x) (le-leb (level + suc (max a b)) 127 (omega arith)))
both_if true false level a b x e f =
    let others : 127 < level + suc b = leb-false _ 127 f in
    sym (ap (λ t. t && x) (lt-leb (level + suc (max a b)) 127 (omega arith)))
both_if false q level a b x e f =
    let first : 127 < suc level + a = leb-false _ 127 e in
    sym (ap (λ t. t && x) (lt-leb (level + suc (max a b)) 127 (omega arith)))

both_fit : (level a b : ℕ) (x : Bool)
    → (fits (suc level) a && (fits level (suc b) && x)) ≡ (fits level (suc (max a b)) && x)
both_fit level a b x = both_if (fits (suc level) a) (fits level (suc b)) level a b x refl refl

mutual
  nested : (j : text.Json) (level : ℕ) (r : List Token) → level ≤ 127
      → nests_from level (json_tokens j ++ r) ≡ (fits level (tree.depth j) && nests_from level r)
  nested text.null level r low = flat level _ low
  nested (text.boolean b) level r low = flat level _ low
  nested (text.number s) level r low = flat level _ low
  nested (text.string s) level r low = flat level _ low
  nested (text.array js) level r low =
      opened level (tree.items_depth js) _ _ (λ less. items_nested js level r less)
  nested (text.object ms) level r low =
      opened level (tree.members_depth ms) _ _ (λ less. members_nested ms level r less)

  -- up to the closing bracket
  items_nested : (js : text.Items) (level : ℕ) (r : List Token) → level < 127
      → nests_from (suc level) (items_tokens js ++ r)
      ≡ (fits level (suc (tree.items_depth js)) && nests_from level r)
  items_nested text.no_items level r low = closed level r low
  items_nested (text.item j js) level r low =
      ap (nests_from (suc level)) (append_assoc (json_tokens j) (items_tokens js) r)
      ∙ nested j (suc level) (items_tokens js ++ r) (omega arith)
      ∙ ap (λ b. fits (suc level) (tree.depth j) && b) (items_nested js level r low)
      ∙ both_fit level (tree.depth j) (tree.items_depth js) (nests_from level r)

  members_nested : (ms : text.Members) (level : ℕ) (r : List Token) → level < 127
      → nests_from (suc level) (members_tokens ms ++ r)
      ≡ (fits level (suc (tree.members_depth ms)) && nests_from level r)
  members_nested text.no_members level r low = closed level r low
  members_nested (text.member k j ms) level r low =
      ap (nests_from (suc level)) (append_assoc (json_tokens j) (members_tokens ms) r)
      ∙ nested j (suc level) (members_tokens ms ++ r) (omega arith)
      ∙ ap (λ b. fits (suc level) (tree.depth j) && b) (members_nested ms level r low)
      ∙ both_fit level (tree.depth j) (tree.members_depth ms) (nests_from level r)

-- ---- the whole line

all_nested : (line : List ℕ) (j : text.Json) → text.document line ≡ Some j
    → nests_from 0 (tokens line) ≡ (fits 0 (tree.depth j) && true)
all_nested line j e =
    ap (nests_from 0) (tokens-document line j e ∙ sym (append-nil (json_tokens j)))
    ∙ nested j 0 [] (omega arith)

tree_if : (b : Bool) (line : List ℕ) (j : text.Json) → text.document line ≡ Some j
    → fits 0 (tree.depth j) ≡ b → tree_of line ≡ (if (b && true) then Some j else None)
tree_if true line j e is =
    let shallow : 0 + tree.depth j ≤ 127 = leb-true _ 127 is in
    shallow_tree line j e (omega (arith, shallow))
tree_if false line j e is =
    let deep : 127 < 0 + tree.depth j = leb-false _ 127 is in
    deep_tree line j e (omega (arith, deep))

neither : (b : Bool) → ◌≡◌ {A = Option text.Json} (if b then None else None) None
neither true = refl
neither false = refl

-- where the kit reads the line and its brackets nest so, that is its tree, and else it has none
pub tree_is : (line : List ℕ)
    → tree_of line ≡ (if nests_from 0 (tokens line) then text.document line else None)
tree_is line = go (text.document line) refl
  where
    go : (o : Option text.Json) → text.document line ≡ o
        → tree_of line ≡ (if nests_from 0 (tokens line) then o else None)
    go None e = no_tree line e ∙ sym (neither (nests_from 0 (tokens line)))
    go (Some j) e =
        tree_if (fits 0 (tree.depth j)) line j e refl
        ∙ ap (λ b. if b then Some j else None) (sym (all_nested line j e))
