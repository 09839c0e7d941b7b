-- What a node tells of the value that begins at it.
use Rattle.std.proofs.Common.{◌≡◌, ℕ, ◌+◌, ◌<◌, ◌≤◌, true, List, [], ◌∷◌, ◌++◌, map, length, drop, get_or}
use Rattle.std.proofs.Common.{Option}
use Rattle.std.proofs.Common.{Some, None, refl, sym, ap, ◌∙◌, subst, arith, length-append}
use Rattle.std.proofs.Common.{lt_of_not-le}
use Rattle.std.proofs.lemmas.List.{drop_more, drop_all, get_or-map, length-map}
use Rattle.std.proofs.Common as common
use Rattle.std.specs.Str.{chars}
use Rattle.json.specs.Token.{Token}
use Rattle.json.specs.Json as text
use Rattle.json.specs.Json.{parse_map}
use Rattle.json.specs.Tree.{json_tokens}
use Rattle.json.specs.Tape.{Passes}
use Rattle.json.proofs.Grammar as grammar
use Rattle.json.proofs.Found.{not_found, Some_inj, one_reading}
use Rattle.serde_json.specs.Read.{max_depth}
use Rattle.jp_doc.specs.Json as json
use Rattle.jp_doc.specs.Json.{Json}
use Rattle.jp_doc.specs.Tree.{text_number, tree_json, tree_items, tree_members}
use Rattle.jp_flat.specs.Flat.{value_at}
use Rattle.jp_flat.specs.inner.Plain.{is_flat, is_fit, is_fit_number}
use Rattle.jp_flat_nodes.specs.Nodes.{Source, piece, token_at, tokens_at}
use Rattle.jp_flat_nodes.specs.declared.node.FlatNode.{FlatNode}
use Rattle.jp_flat_nodes.specs.declared.node.FlatNode.TheVariants.{Object, EndObject, Array, EndArray, Key}
use Rattle.jp_flat_nodes.specs.declared.node.FlatNode.TheVariants.{Text, EscapedKey, Escaped}
use Rattle.jp_flat_nodes.specs.declared.node.FlatNode.TheVariants.{Number, Truth, Null}
use Rattle.jp_flat.specs.Value.{text_in, number_in, IsNoArray, IsNoObject}
use Rattle.jp_flat.proofs.PlainTokens.{some_token}
use Rattle.jp_flat.proofs.Reading.{Flat, flat_of, read_of_flat, value_is}

pub not_flat : is_flat [] ≡ true → ⊥
not_flat h =
    let f = flat_of [] h in
    let e : 0 ≡ length (json_tokens f.source ++ f.rest) = ap length f.spelled in
    omega (arith, e, length-append (json_tokens f.source) f.rest, some_token f.source)

made : {A : Type 0} (f : A → text.Json) (o : Option (A × List Token)) (j : text.Json) (rest : List Token)
    → parse_map f o ≡ Some (j, rest) → (a : A) × (j ≡ f a)
made f None j rest e = not_found (j, rest) e
made f (Some x) j rest e = (x.0, sym (ap (λ z. z.0) (Some_inj _ _ e)))

alone : (k j : text.Json) (ts rest : List Token)
    → ◌≡◌ {A = Option (text.Json × List Token)} (Some (k, ts)) (Some (j, rest)) → (j ≡ k) × (rest ≡ ts)
alone k j ts rest e = let both = Some_inj _ _ e in (sym (ap (λ z. z.0) both), sym (ap (λ z. z.1) both))

pub by_link : (all : List Token) (i end d : ℕ) (j : text.Json) (rest : List Token) → Passes all i end
    → text.value d (drop i all) ≡ Some (j, rest) → rest ≡ drop end all
by_link all i end d j rest link e =
    let other = grammar.left_some (text.value link.0 (drop i all)) (drop end all) link.1 in
    ap (λ z. z.1) (Some_inj _ _ (one_reading d link.0 (drop i all) _ _ e other.1))

-- the nodes of a document with these texts
module _ (bytes : Source) where
  pub here : (ns : List FlatNode) (i : ℕ) (d : FlatNode) → i < length ns
      → drop i (tokens_at bytes ns) ≡ token_at bytes (get_or ns i d) ∷ drop (i + 1) (tokens_at bytes ns)
  here ns i d h =
      drop_more (tokens_at bytes ns) i (token_at bytes d) (omega (arith, length-map ns (token_at bytes)))
      ∙ ap (λ t. t ∷ drop (i + 1) (tokens_at bytes ns)) (get_or-map (token_at bytes) ns i d
      (token_at bytes d) h)

  pub within : (ns : List FlatNode) (i : ℕ) → is_flat (drop i (tokens_at bytes ns)) ≡ true → i < length ns
  within ns i h = lt_of_not-le (λ k. not_flat (subst (λ ts. is_flat ts ≡ true) (drop_all i
      (tokens_at bytes ns)
      (omega (arith, length-map ns (token_at bytes)))) h))

  abbrev pub Shape : FlatNode → List Token → text.Json → List Token → Type 0
  Shape (Object a) ts j rest = (ms : text.Members) × (j ≡ text.object ms)
  Shape EndObject ts j rest = ⊥
  Shape (Array a) ts j rest = (js : text.Items) × (j ≡ text.array js)
  Shape EndArray ts j rest = ⊥
  Shape (Key from count) ts j rest = ⊥
  Shape (Text from count) ts j rest = (j ≡ text.string (piece bytes.line from count)) × (rest ≡ ts)
  Shape (EscapedKey from count) ts j rest = ⊥
  Shape (Escaped from count) ts j rest = (j ≡ text.string (piece bytes.texts from count)) × (rest ≡ ts)
  Shape (Number from count) ts j rest = (j ≡ text.number (piece bytes.line from count)) × (rest ≡ ts)
  Shape (Truth b) ts j rest = (j ≡ text.boolean b) × (rest ≡ ts)
  Shape Null ts j rest = (j ≡ text.null) × (rest ≡ ts)

  pub shape : (n : FlatNode) (ts : List Token) (j : text.Json) (d : ℕ) (rest : List Token)
      → text.value d (token_at bytes n ∷ ts) ≡ Some (j, rest) → Shape n ts j rest
  shape (Object a) ts j d rest e = made text.object _ j rest (sym (grammar.value_is d _) ∙ e)
  shape EndObject ts j d rest e = not_found (j, rest) (sym (grammar.value_is d _) ∙ e)
  shape (Array a) ts j d rest e = made text.array _ j rest (sym (grammar.value_is d _) ∙ e)
  shape EndArray ts j d rest e = not_found (j, rest) (sym (grammar.value_is d _) ∙ e)
  shape (Key from count) ts j d rest e = not_found (j, rest) (sym (grammar.value_is d _) ∙ e)
  shape (Text from count) ts j d rest e = alone (text.string (piece bytes.line from count)) j ts rest (sym
      (grammar.value_is d _) ∙ e)
  shape (EscapedKey from count) ts j d rest e = not_found (j, rest) (sym (grammar.value_is d _) ∙ e)
  shape (Escaped from count) ts j d rest e = alone (text.string (piece bytes.texts from count)) j ts rest (sym
      (grammar.value_is d _) ∙ e)
  shape (Number from count) ts j d rest e = alone (text.number (piece bytes.line from count)) j ts rest (sym
      (grammar.value_is d _) ∙ e)
  shape (Truth b) ts j d rest e = alone (text.boolean b) j ts rest (sym (grammar.value_is d _) ∙ e)
  shape Null ts j d rest e = alone text.null j ts rest (sym (grammar.value_is d _) ∙ e)

  -- what a node tells of the value
  abbrev pub Tells : FlatNode → Json → Type 0
  Tells (Object a) v = (ms : json.Members) × (v ≡ json.object ms)
  Tells EndObject v = ⊥
  Tells (Array a) v = (vs : json.Items) × (v ≡ json.array vs)
  Tells EndArray v = ⊥
  Tells (Key from count) v = ⊥
  Tells (Text from count) v = v ≡ json.text (chars (piece bytes.line from count))
  Tells (EscapedKey from count) v = ⊥
  Tells (Escaped from count) v = v ≡ json.text (chars (piece bytes.texts from count))
  Tells (Number from count) v = v ≡ json.number (text_number (piece bytes.line from count))
  Tells (Truth b) v = v ≡ json.truth b
  Tells Null v = v ≡ json.null

  pub tells : (n : FlatNode) (ts : List Token) → is_flat (token_at bytes n ∷ ts) ≡ true
      → Tells n (value_at (token_at bytes n ∷ ts))
  tells n ts h =
      let f = flat_of (token_at bytes n ∷ ts) h in
      go n f (shape n ts f.source max_depth f.rest (read_of_flat (token_at bytes n ∷ ts) f))
    where
      go : (n : FlatNode) (f : Flat (token_at bytes n ∷ ts)) → Shape n ts f.source f.rest
          → Tells n (value_at (token_at bytes n ∷ ts))
      go (Object a) f sh = (tree_members sh.0 json.no_members, value_is _ f ∙ ap tree_json sh.1)
      go EndObject f sh = sh
      go (Array a) f sh = (tree_items sh.0, value_is _ f ∙ ap tree_json sh.1)
      go EndArray f sh = sh
      go (Key from count) f sh = sh
      go (Text from count) f sh = value_is _ f ∙ ap tree_json sh.0
      go (EscapedKey from count) f sh = sh
      go (Escaped from count) f sh = value_is _ f ∙ ap tree_json sh.0
      go (Number from count) f sh = value_is _ f ∙ ap tree_json sh.0
      go (Truth b) f sh = value_is _ f ∙ ap tree_json sh.0
      go Null f sh = value_is _ f ∙ ap tree_json sh.0

  pub node_tells : (ts : List Token) (n : FlatNode) → is_flat ts ≡ true → ts ≡ token_at bytes n ∷ drop 1 ts
      → Tells n (value_at ts)
  node_tells ts n h e = subst (λ l. Tells n (value_at l)) (sym e) (tells n (drop 1 ts) (subst
      (λ l. is_flat l ≡ true) e h))

  pub other_node : (n : FlatNode) (v : Json) → ((a : ℕ) → n ≡ Object a → ⊥) → ((a : ℕ) → n ≡ Array a → ⊥)
      → ((from count : ℕ) → n ≡ Text from count → ⊥) → ((from count : ℕ) → n ≡ Escaped from count → ⊥)
      → ((from count : ℕ) → n ≡ Number from count → ⊥) → ((b : common.Bool) → n ≡ Truth b → ⊥) → Tells n v
      → v ≡ json.null
  other_node (Object a) v p q r w s u t = absurd (p a refl)
  other_node EndObject v p q r w s u t = absurd t
  other_node (Array a) v p q r w s u t = absurd (q a refl)
  other_node EndArray v p q r w s u t = absurd t
  other_node (Key from count) v p q r w s u t = absurd t
  other_node (Text from count) v p q r w s u t = absurd (r from count refl)
  other_node (EscapedKey from count) v p q r w s u t = absurd t
  other_node (Escaped from count) v p q r w s u t = absurd (w from count refl)
  other_node (Number from count) v p q r w s u t = absurd (s from count refl)
  other_node (Truth b) v p q r w s u t = absurd (u b refl)
  other_node Null v p q r w s u t = t

  pub no_array : (n : FlatNode) (v : Json) → ((a : ℕ) → n ≡ Array a → ⊥) → Tells n v → IsNoArray v
  no_array (Object a) v p t = subst IsNoArray (sym t.1) tt
  no_array EndObject v p t = absurd t
  no_array (Array a) v p t = absurd (p a refl)
  no_array EndArray v p t = absurd t
  no_array (Key from count) v p t = absurd t
  no_array (Text from count) v p t = subst IsNoArray (sym t) tt
  no_array (EscapedKey from count) v p t = absurd t
  no_array (Escaped from count) v p t = subst IsNoArray (sym t) tt
  no_array (Number from count) v p t = subst IsNoArray (sym t) tt
  no_array (Truth b) v p t = subst IsNoArray (sym t) tt
  no_array Null v p t = subst IsNoArray (sym t) tt

  pub one_token : (n : FlatNode) (ts : List Token) (j : text.Json) (d : ℕ) (rest : List Token)
      → ((a : ℕ) → n ≡ Object a → ⊥) → ((a : ℕ) → n ≡ Array a → ⊥)
      → text.value d (token_at bytes n ∷ ts) ≡ Some (j, rest) → rest ≡ ts
  one_token (Object a) ts j d rest p q e = absurd (p a refl)
  one_token EndObject ts j d rest p q e = absurd (shape EndObject ts j d rest e)
  one_token (Array a) ts j d rest p q e = absurd (q a refl)
  one_token EndArray ts j d rest p q e = absurd (shape EndArray ts j d rest e)
  one_token (Key from count) ts j d rest p q e = absurd (shape (Key from count) ts j d rest e)
  one_token (Text from count) ts j d rest p q e = (shape (Text from count) ts j d rest e).1
  one_token (EscapedKey from count) ts j d rest p q e = absurd (shape (EscapedKey from count) ts j d rest e)
  one_token (Escaped from count) ts j d rest p q e = (shape (Escaped from count) ts j d rest e).1
  one_token (Number from count) ts j d rest p q e = (shape (Number from count) ts j d rest e).1
  one_token (Truth b) ts j d rest p q e = (shape (Truth b) ts j d rest e).1
  one_token Null ts j d rest p q e = (shape Null ts j d rest e).1

  pub no_object : (n : FlatNode) (v : Json) → ((a : ℕ) → n ≡ Object a → ⊥) → Tells n v → IsNoObject v
  no_object (Object a) v p t = absurd (p a refl)
  no_object EndObject v p t = absurd t
  no_object (Array a) v p t = subst IsNoObject (sym t.1) tt
  no_object EndArray v p t = absurd t
  no_object (Key from count) v p t = absurd t
  no_object (Text from count) v p t = subst IsNoObject (sym t) tt
  no_object (EscapedKey from count) v p t = absurd t
  no_object (Escaped from count) v p t = subst IsNoObject (sym t) tt
  no_object (Number from count) v p t = subst IsNoObject (sym t) tt
  no_object (Truth b) v p t = subst IsNoObject (sym t) tt
  no_object Null v p t = subst IsNoObject (sym t) tt

  pub no_number : (n : FlatNode) (v : Json) → ((from count : ℕ) → n ≡ Number from count → ⊥) → Tells n v
      → None ≡ number_in v
  no_number (Object a) v p t = sym (ap number_in t.1)
  no_number EndObject v p t = absurd t
  no_number (Array a) v p t = sym (ap number_in t.1)
  no_number EndArray v p t = absurd t
  no_number (Key from count) v p t = absurd t
  no_number (Text from count) v p t = sym (ap number_in t)
  no_number (EscapedKey from count) v p t = absurd t
  no_number (Escaped from count) v p t = sym (ap number_in t)
  no_number (Number from count) v p t = absurd (p from count refl)
  no_number (Truth b) v p t = sym (ap number_in t)
  no_number Null v p t = sym (ap number_in t)

  pub no_text : (n : FlatNode) (v : Json) → ((from count : ℕ) → n ≡ Text from count → ⊥)
      → ((from count : ℕ) → n ≡ Escaped from count → ⊥) → Tells n v → None ≡ text_in v
  no_text (Object a) v p q t = sym (ap text_in t.1)
  no_text EndObject v p q t = absurd t
  no_text (Array a) v p q t = sym (ap text_in t.1)
  no_text EndArray v p q t = absurd t
  no_text (Key from count) v p q t = absurd t
  no_text (Text from count) v p q t = absurd (p from count refl)
  no_text (EscapedKey from count) v p q t = absurd t
  no_text (Escaped from count) v p q t = absurd (q from count refl)
  no_text (Number from count) v p q t = sym (ap text_in t)
  no_text (Truth b) v p q t = sym (ap text_in t)
  no_text Null v p q t = sym (ap text_in t)

  -- the text of a number is fit
  pub number_is_fit : (ts : List Token) (n : FlatNode) (from count : ℕ) → is_flat ts ≡ true
      → ts ≡ token_at bytes n ∷ drop 1 ts → n ≡ Number from count
      → is_fit_number (piece bytes.line from count) ≡ true
  number_is_fit ts n from count h e is =
      let all : ts ≡ Token.number (piece bytes.line from count) ∷ drop 1 ts = e
      ∙ ap (λ m. token_at bytes m ∷ drop 1 ts) is in
      let f = flat_of (Token.number (piece bytes.line from count) ∷ drop 1 ts) (subst
      (λ l. is_flat l ≡ true) all h) in
      let sh = shape (Number from count) (drop 1 ts) f.source max_depth f.rest (read_of_flat _ f) in
      subst (λ j. is_fit j ≡ true) sh.0 f.fit
