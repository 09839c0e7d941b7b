-- The items of an array and the members of an object, as the tokens behind its opening bracket.
use Rattle.std.proofs.Common.{◌≡◌, ℕ, suc, ◌+◌, ◌<◌, ◌≤◌, true, false, ◌&&◌, max, List, [], ◌∷◌, ◌++◌, map}
use Rattle.std.proofs.Common.{length, drop}
use Rattle.std.proofs.Common.{get_or, Option, Some, None, refl, sym, ap, ◌∙◌, subst, arith}
use Rattle.std.proofs.Common.{append_assoc}
use Rattle.std.proofs.Common.{length-append, true≢false, lt_of_not-le}
use Rattle.std.proofs.Common as common
use Rattle.std.proofs.lemmas.List.{drop_all, length-map}
use Rattle.json.specs.Token.{Token}
use Rattle.json.specs.Json as text
use Rattle.json.specs.Tree as tree
use Rattle.json.specs.Tree.{json_tokens, items_tokens, members_tokens}
use Rattle.serde_json.specs.Read.{max_depth}
use Rattle.jp_doc.specs.Json as json
use Rattle.jp_doc.specs.Tree.{tree_items}
use Rattle.jp_flat.specs.Flat.{value_at}
use Rattle.jp_flat_nodes.specs.Nodes.{Source, source, token_at, tokens_at}
use Rattle.jp_flat_nodes.specs.declared.node.FlatNode.{FlatNode}
use Rattle.jp_flat_nodes.specs.declared.node.FlatNode.TheVariants.{Object, EndObject, Array, EndArray, Key}
use Rattle.jp_flat_nodes.specs.declared.node.FlatNode.TheVariants.{Text, EscapedKey, Escaped}
use Rattle.jp_flat_nodes.specs.declared.node.FlatNode.TheVariants.{Number, Truth, Null}
use Rattle.jp_flat.specs.inner.Plain.{is_flat, is_fit, items_are_fit}
use Rattle.jp_doc.specs.Reading.{max_line}
use Rattle.jp_flat.specs.Value.{item_count}
use Rattle.jp_flat.proofs.Kept as kept
use Rattle.jp_flat.proofs.Numbers.{both}
use Rattle.jp_flat.proofs.PlainTokens.{some_token}
use Rattle.jp_flat.proofs.Reading.{Flat, flat_of, flat_is, read_of_flat, value_is}
use Rattle.jp_flat.proofs.Shapes.{shape}

-- the tokens begin with the items of an array, and its closing bracket
pub record InItems (ts : List Token) : Type 0 where
  pub source : text.Items
  pub rest : List Token
  pub spelled : ts ≡ items_tokens source ++ rest
  pub nests : suc (tree.items_depth source) ≤ 127
  pub few : suc (length (items_tokens source)) ≤ max_line
  pub fit : items_are_fit source ≡ true

tail_of : (t u : Token) (ts us : List Token) → t ∷ ts ≡ u ∷ us → ts ≡ us
tail_of t u ts us e = ap (drop 1) e

array_inside : (ts : List Token) (f : Flat (Token.begin_array ∷ ts)) (js : text.Items)
    → f.source ≡ text.array js → InItems ts
array_inside ts f js e = record {
  source = js;
  rest = f.rest;
  spelled = ap (drop 1) (f.spelled ∙ ap (λ j. json_tokens j ++ f.rest) e);
  nests = subst (λ j. tree.depth j ≤ 127) e f.nests;
  few = subst (λ j. length (json_tokens j) ≤ max_line) e f.few;
  fit = subst (λ j. is_fit j ≡ true) e f.fit;
}

array_shape : (ts : List Token) (f : Flat (Token.begin_array ∷ ts))
    → (js : text.Items) × (f.source ≡ text.array js)
array_shape ts f =
    shape (source [] []) (Array 0) ts f.source max_depth f.rest (read_of_flat (Token.begin_array ∷ ts) f)

-- inside of an array
pub in_items : (ts : List Token) → is_flat (Token.begin_array ∷ ts) ≡ true → InItems ts
in_items ts h =
    let f = flat_of (Token.begin_array ∷ ts) h in
    let sh = array_shape ts f in
    array_inside ts f sh.0 sh.1

-- and back
array_around : (ts : List Token) → InItems ts → Flat (Token.begin_array ∷ ts)
array_around ts i = record {
  source = text.array i.source;
  rest = i.rest;
  spelled = ap (λ l. Token.begin_array ∷ l) i.spelled;
  nests = i.nests;
  few = i.few;
  fit = i.fit;
}

pub items_are_flat : (ts : List Token) → InItems ts → is_flat (Token.begin_array ∷ ts) ≡ true
items_are_flat ts i = flat_is (Token.begin_array ∷ ts) (array_around ts i)

-- the array of these items
pub array_is : (ts : List Token) (i : InItems ts)
    → value_at (Token.begin_array ∷ ts) ≡ json.array (tree_items i.source)
unfolding array_around
array_is ts i = value_is (Token.begin_array ∷ ts) (array_around ts i)

-- an array has no more items than a line has bytes
pub few_items : (ts : List Token) → is_flat (Token.begin_array ∷ ts) ≡ true
    → item_count (value_at (Token.begin_array ∷ ts)) ≤ max_line
few_items ts h =
    kept.few_items (value_at (Token.begin_array ∷ ts)) max_line
    (kept.flat_is_short (Token.begin_array ∷ ts) h)

-- the first item, and those behind it
first_item : (ts : List Token) (i : InItems ts) (j : text.Json) (js : text.Items) → i.source ≡ text.item j js
    → ts ≡ json_tokens j ++ (items_tokens js ++ i.rest)
first_item ts i j js e =
    i.spelled ∙ ap (λ s. items_tokens s ++ i.rest) e ∙ append_assoc (json_tokens j) (items_tokens js) i.rest

pub item_here : (ts : List Token) (i : InItems ts) (j : text.Json) (js : text.Items)
    → i.source ≡ text.item j js
    → Flat ts
item_here ts i j js e =
    let sum = length-append (json_tokens j) (items_tokens js) in
    let few = subst (λ s. suc (length (items_tokens s)) ≤ max_line) e i.few in
    let nests = subst (λ s. suc (tree.items_depth s) ≤ 127) e i.nests in
    let sound = subst (λ s. items_are_fit s ≡ true) e i.fit in
    record {
      source = j;
      rest = items_tokens js ++ i.rest;
      spelled = first_item ts i j js e;
      nests = omega (arith, nests);
      few = omega (arith, few, sum);
      fit = (both (is_fit j) _ sound).0;
    }

pub items_after : (ts : List Token) (i : InItems ts) (j : text.Json) (js : text.Items)
    → i.source ≡ text.item j js
    → InItems (items_tokens js ++ i.rest)
items_after ts i j js e =
    let sum = length-append (json_tokens j) (items_tokens js) in
    let few = subst (λ s. suc (length (items_tokens s)) ≤ max_line) e i.few in
    let nests = subst (λ s. suc (tree.items_depth s) ≤ 127) e i.nests in
    let sound = subst (λ s. items_are_fit s ≡ true) e i.fit in
    record {
      source = js;
      rest = i.rest;
      spelled = refl;
      nests = omega (arith, nests);
      few = omega (arith, few, sum);
      fit = (both (is_fit j) _ sound).1;
    }

read_item : (ts : List Token) (i : InItems ts) (j : text.Json) (js : text.Items)
    → (e : i.source ≡ text.item j js) → text.value max_depth ts ≡ Some (j, items_tokens js ++ i.rest)
unfolding item_here
read_item ts i j js e = read_of_flat ts (item_here ts i j js e)

-- the array is the first item before the array of those behind it
pub array_goes_on : (ts : List Token) (i : InItems ts) (j : text.Json) (js : text.Items)
    → i.source ≡ text.item j js
    → (vs : json.Items) × (value_at (Token.begin_array ∷ ts) ≡ json.array (json.add_item (value_at ts) vs))
    × (value_at (Token.begin_array ∷ (items_tokens js ++ i.rest)) ≡ json.array vs)
unfolding array_around items_after item_here
array_goes_on ts i j js e = (
  tree_items js,
  array_is ts i ∙ ap (λ s. json.array (tree_items s)) e
      ∙ ap (λ v. json.array (json.add_item v (tree_items js))) (sym (value_is ts (item_here ts i j js e))),
  array_is (items_tokens js ++ i.rest) (items_after ts i j js e),
)

pub array_ends : (ts : List Token) (i : InItems ts) → i.source ≡ text.no_items
    → value_at (Token.begin_array ∷ ts) ≡ json.array json.no_items
array_ends ts i e = array_is ts i ∙ ap (λ s. json.array (tree_items s)) e

-- ---- by the nodes

abbrev is_end_array : Token → common.Bool
is_end_array Token.begin_object = false
is_end_array Token.end_object = false
is_end_array Token.begin_array = false
is_end_array Token.end_array = true
is_end_array (Token.key s) = false
is_end_array (Token.string s) = false
is_end_array (Token.number s) = false
is_end_array (Token.boolean b) = false
is_end_array Token.null = false
is_end_array Token.bad = false

abbrev first_ends : List Token → common.Bool
first_ends [] = false
first_ends (t ∷ ts) = is_end_array t

ends_node : (bytes : Source) (n : FlatNode) → (n ≡ EndArray → ⊥) → is_end_array (token_at bytes n) ≡ true → ⊥
ends_node bytes (Object a) p e = absurd (cc)
ends_node bytes EndObject p e = absurd (cc)
ends_node bytes (Array a) p e = absurd (cc)
ends_node bytes EndArray p e = p refl
ends_node bytes (Key from count) p e = absurd (cc)
ends_node bytes (Text from count) p e = absurd (cc)
ends_node bytes (EscapedKey from count) p e = absurd (cc)
ends_node bytes (Escaped from count) p e = absurd (cc)
ends_node bytes (Number from count) p e = absurd (cc)
ends_node bytes (Truth b) p e = absurd (cc)
ends_node bytes Null p e = absurd (cc)

pub one_more_item : (bytes : Source) (ts us : List Token) (i : InItems ts) (n : FlatNode)
    → ts ≡ token_at bytes n ∷ us
    → (n ≡ EndArray → ⊥) → (j : text.Json) × (js : text.Items) × (i.source ≡ text.item j js)
one_more_item bytes ts us i n e p = go i.source refl
  where
    go : (s : text.Items) → i.source ≡ s → (j : text.Json) × (js : text.Items) × (i.source ≡ text.item j js)
    go text.no_items is =
        let closing : token_at bytes n ∷ us ≡ Token.end_array ∷ i.rest = sym e ∙ i.spelled
        ∙ ap (λ s. items_tokens s ++ i.rest) is in
        absurd (ends_node bytes n p (ap first_ends closing))
    go (text.item j js) is = (j, js, is)

pub no_more_items : (ts us : List Token) (i : InItems ts) → ts ≡ Token.end_array ∷ us
    → i.source ≡ text.no_items
no_more_items ts us i e = go i.source refl
  where
    no_end : (j : text.Json) (rest : List Token) → first_ends (json_tokens j ++ rest) ≡ false
    no_end text.null rest = refl
    no_end (text.boolean b) rest = refl
    no_end (text.number s) rest = refl
    no_end (text.string s) rest = refl
    no_end (text.array js) rest = refl
    no_end (text.object ms) rest = refl

    go : (s : text.Items) → i.source ≡ s → i.source ≡ text.no_items
    go text.no_items is = is
    go (text.item j js) is = absurd (true≢false (ap first_ends (sym e ∙ first_item ts i j js is)
        ∙ no_end j (items_tokens js ++ i.rest)))

-- an array whose first item is here, and whose others begin at the end of it
pub record Split (ts after : List Token) : Type 0 where
  pub flat : is_flat ts ≡ true
  pub after_flat : is_flat (Token.begin_array ∷ after) ≡ true
  pub value : (vs : json.Items)
      × (value_at (Token.begin_array ∷ ts) ≡ json.array (json.add_item (value_at ts) vs))
      × (value_at (Token.begin_array ∷ after) ≡ json.array vs)

pub split_items : (bytes : Source) (ts us after : List Token) (n : FlatNode)
    → is_flat (Token.begin_array ∷ ts) ≡ true
    → ts ≡ token_at bytes n ∷ us → (n ≡ EndArray → ⊥)
    → ((depth : ℕ) (j : text.Json) (rest : List Token) → text.value depth ts ≡ Some (j, rest) → rest ≡ after)
    → Split ts after
split_items bytes ts us after n h e p link =
    let i = in_items ts h in
    let one = one_more_item bytes ts us i n e p in
    let first = item_here ts i one.0 one.1 one.2 in
    let passed : items_tokens one.1 ++ i.rest ≡ after = link max_depth one.0 (items_tokens one.1 ++ i.rest)
    (read_item ts i one.0 one.1 one.2) in
    let goes = array_goes_on ts i one.0 one.1 one.2 in
    record {
      flat = flat_is ts first;
      after_flat = subst (λ l. is_flat (Token.begin_array ∷ l) ≡ true) passed (items_are_flat
          (items_tokens one.1 ++ i.rest) (items_after ts i one.0 one.1 one.2));
      value = (
        goes.0,
        goes.1,
        subst (λ l. value_at
            (Token.begin_array ∷ l) ≡ json.array goes.0) passed goes.2,
      );
    }

pub items_end : (ts us : List Token) → is_flat (Token.begin_array ∷ ts) ≡ true → ts ≡ Token.end_array ∷ us
    → value_at (Token.begin_array ∷ ts) ≡ json.array json.no_items
items_end ts us h e = let i = in_items ts h in array_ends ts i (no_more_items ts us i e)

some_items : (js : text.Items) (rest : List Token) → 0 < length (items_tokens js ++ rest)
some_items text.no_items rest = omega arith
some_items (text.item j js) rest =
    omega (
      arith,
      length-append (json_tokens j ++ items_tokens js) rest,
      length-append (json_tokens j)
          (items_tokens js),
      some_token j,
    )

pub items_within : (bytes : Source) (ns : List FlatNode) (at : ℕ)
    → is_flat (Token.begin_array ∷ drop at (tokens_at bytes ns)) ≡ true
    → at < length ns
items_within bytes ns at h =
    let all = tokens_at bytes ns in
    let i = in_items (drop at all) h in
    lt_of_not-le (λ k.
    let none : [] ≡ items_tokens i.source ++ i.rest = sym (drop_all at all (omega
    (arith, length-map ns (token_at bytes)))) ∙ i.spelled in
    omega (arith, ap length none, some_items i.source i.rest))
