-- The brackets of a JSON text, by its tokens.
use Rattle.std.proofs.Common.{◌≡◌, ℕ, zero, suc, List, [], ◌∷◌, refl, sym, ◌∙◌, ap, subst, length}
use Rattle.std.proofs.Common.{Option, Some, None, option_map, option_and_then}
use Rattle.json.specs.Token.{Token}
use Rattle.json.specs.Json.{Json, Items, Members, Parse, parse_map, after_end_array, read_key, items_step}
use Rattle.json.specs.Json.{members_step, items, members}
use Rattle.json.specs.Json.{value_with, value, if_last, array, object, item, member, no_items, no_members}
use Rattle.json.specs.Lex.{tokens}
use Rattle.jp_documents.specs.Whole.{IsJsonText}

-- in so many brackets, the tokens end with the one that closes the outermost, and none is bad
abbrev pub Nests : ℕ → List Token → Type 0
Nests zero [] = Unit {0}
Nests zero (t ∷ ts) = ⊥
Nests (suc n) [] = ⊥
Nests (suc n) (Token.begin_object ∷ ts) = Nests (suc (suc n)) ts
Nests (suc n) (Token.end_object ∷ ts) = Nests n ts
Nests (suc n) (Token.begin_array ∷ ts) = Nests (suc (suc n)) ts
Nests (suc n) (Token.end_array ∷ ts) = Nests n ts
Nests (suc n) (Token.key s ∷ ts) = Nests (suc n) ts
Nests (suc n) (Token.string s ∷ ts) = Nests (suc n) ts
Nests (suc n) (Token.number s ∷ ts) = Nests (suc n) ts
Nests (suc n) (Token.boolean b ∷ ts) = Nests (suc n) ts
Nests (suc n) (Token.null ∷ ts) = Nests (suc n) ts
Nests (suc n) (Token.bad ∷ ts) = ⊥

-- what a part of the grammar takes keeps the brackets
abbrev pub Keeps : {A : Type 0} → Parse A → Type 0
Keeps {A} f = (ts : List Token) (a : A) (rest : List Token) → f ts ≡ Some (a, rest) → (n : ℕ)
    → Nests (suc n) rest → Nests (suc n) ts

-- and what a part takes that closes a bracket
abbrev pub Closing : {A : Type 0} → Parse A → Type 0
Closing {A} f = (ts : List Token) (a : A) (rest : List Token) → f ts ≡ Some (a, rest) → (n : ℕ)
    → Nests n rest → Nests (suc n) ts

-- the parts of a result that was mapped
abbrev Mapped : {A B : Type 0} → (A → B) → Option (A × List Token) → B × List Token → Type 0
Mapped {A} {B} f r p = (q : A × List Token) × (r ≡ Some q) × (q.1 ≡ p.1)

mapped : {A B : Type 0} (f : A → B) (r : Option (A × List Token)) (p : B × List Token)
    → parse_map f r ≡ Some p → Mapped f r p
mapped f None p e = absurd (cc)
mapped f (Some q) p e =
    let k : ◌≡◌ {A = Option (List Token)} (option_map (λ x. x.1) (parse_map f (Some q))) (Some p.1) =
    ap (λ o. option_map (λ x. x.1) o) e in
    (q, refl, cc)

then_parts : {A B : Type 0} (f : A → Option B) (r : Option A) (b : B) → option_and_then f r ≡ Some b
    → (a : A) × (r ≡ Some a) × (f a ≡ Some b)
then_parts f None b e = absurd (cc)
then_parts f (Some a) b e = (a, refl, e)

some_rest : {A : Type 0} (p q : A × List Token) → ◌≡◌ {A = Option (A × List Token)} (Some p) (Some q)
    → p.1 ≡ q.1
some_rest {A} p q e = let same : p ≡ q = cc in ap (λ (x : A × List Token). x.1) same

-- ---- arrays

end_array : (ts rest : List Token) → after_end_array ts ≡ Some rest → ts ≡ Token.end_array ∷ rest
end_array [] rest e = absurd (cc)
end_array (Token.begin_object ∷ ts) rest e = absurd (cc)
end_array (Token.end_object ∷ ts) rest e = absurd (cc)
end_array (Token.begin_array ∷ ts) rest e = absurd (cc)
end_array (Token.end_array ∷ ts) rest e = cc
end_array (Token.key s ∷ ts) rest e = absurd (cc)
end_array (Token.string s ∷ ts) rest e = absurd (cc)
end_array (Token.number s ∷ ts) rest e = absurd (cc)
end_array (Token.boolean b ∷ ts) rest e = absurd (cc)
end_array (Token.null ∷ ts) rest e = absurd (cc)
end_array (Token.bad ∷ ts) rest e = absurd (cc)

items_close : (v : Parse Json) (more : Parse Items) → Keeps v → Closing more
    → (o : Option (List Token)) (ts : List Token) → after_end_array ts ≡ o
    → (a : Items) (rest : List Token) → items_step v more ts o ≡ Some (a, rest) → (n : ℕ) → Nests n rest
    → Nests (suc n) ts
items_close v more kv km (Some after) ts o a rest e n h =
    let is : ts ≡ Token.end_array ∷ after = end_array ts after o in
    let same : after ≡ rest = some_rest (no_items, after) (a, rest) e in
    let P : List Token → Type 0 = λ l. Nests n l in
    let at : Nests n after = subst P (sym same) h in
    let Q : List Token → Type 0 = λ l. Nests (suc n) l in
    subst Q (sym is) at
items_close v more kv km None ts o a rest e n h =
    let parts = then_parts (λ p. parse_map (item p.0) (more p.1)) (v ts) (a, rest) e in
    let first : Json × List Token = parts.0 in
    let later = mapped (item first.0) (more first.1) (a, rest) parts.2 in
    let P : List Token → Type 0 = λ l. Nests n l in
    kv ts first.0 first.1 parts.1 n
    (km first.1 later.0.0 later.0.1 later.1 n (subst P (sym later.2) h))

items_all : (v : Parse Json) → Keeps v → (m : ℕ) → Closing (items v m)
unfolding items
items_all v kv zero ts a rest e n h = absurd (cc)
items_all v kv (suc m) ts a rest e n h =
    items_close v (items v m) kv (items_all v kv m) (after_end_array ts) ts refl a rest e n h

-- ---- objects

abbrev KeyRead : Option (List ℕ) → List Token → List Token → Type 0
KeyRead None ts rest = ts ≡ Token.end_object ∷ rest
KeyRead (Some k) ts rest = ts ≡ Token.key k ∷ rest

key_read : (ts : List Token) (p : Option (List ℕ) × List Token) → read_key ts ≡ Some p → KeyRead p.0 ts p.1
key_read [] p e = absurd (cc)
key_read (Token.begin_object ∷ ts) p e = absurd (cc)
key_read (Token.end_object ∷ ts) p e =
    let P : Option (List ℕ) × List Token → Type 0 = λ q. KeyRead q.0 (Token.end_object ∷ ts) q.1 in
    let s : ◌≡◌ {A = Option (List ℕ) × List Token} (None, ts) p = cc in subst P s refl
key_read (Token.begin_array ∷ ts) p e = absurd (cc)
key_read (Token.end_array ∷ ts) p e = absurd (cc)
key_read (Token.key k ∷ ts) p e =
    let P : Option (List ℕ) × List Token → Type 0 = λ q. KeyRead q.0 (Token.key k ∷ ts) q.1 in
    let s : ◌≡◌ {A = Option (List ℕ) × List Token} (Some k, ts) p = cc in subst P s refl
key_read (Token.string s ∷ ts) p e = absurd (cc)
key_read (Token.number s ∷ ts) p e = absurd (cc)
key_read (Token.boolean b ∷ ts) p e = absurd (cc)
key_read (Token.null ∷ ts) p e = absurd (cc)
key_read (Token.bad ∷ ts) p e = absurd (cc)

members_close : (v : Parse Json) (more : Parse Members) → Keeps v → Closing more
    → (o : Option (List ℕ)) (ts us : List Token) → KeyRead o ts us
    → (a : Members) (rest : List Token) → members_step v more o us ≡ Some (a, rest) → (n : ℕ) → Nests n rest
    → Nests (suc n) ts
members_close v more kv km None ts us k a rest e n h =
    let same : us ≡ rest = some_rest (no_members, us) (a, rest) e in
    let P : List Token → Type 0 = λ l. Nests n l in
    let at : Nests n us = subst P (sym same) h in
    let Q : List Token → Type 0 = λ l. Nests (suc n) l in
    subst Q (sym k) at
members_close v more kv km (Some name) ts us k a rest e n h =
    let parts = then_parts (λ p. parse_map (member name p.0) (more p.1)) (v us) (a, rest) e in
    let first : Json × List Token = parts.0 in
    let later = mapped (member name first.0) (more first.1) (a, rest) parts.2 in
    let P : List Token → Type 0 = λ l. Nests n l in
    let at : Nests (suc n) us = kv us first.0 first.1 parts.1 n
    (km first.1 later.0.0 later.0.1 later.1 n (subst P (sym later.2) h)) in
    let Q : List Token → Type 0 = λ l. Nests (suc n) l in
    subst Q (sym k) at

members_all : (v : Parse Json) → Keeps v → (m : ℕ) → Closing (members v m)
unfolding members
members_all v kv zero ts a rest e n h = absurd (cc)
members_all v kv (suc m) ts a rest e n h =
    let parts = then_parts (λ p. members_step v (members v m) p.0 p.1) (read_key ts) (a, rest) e in
    members_close v (members v m) kv (members_all v kv m) parts.0.0 ts parts.0.1
    (key_read ts parts.0 parts.1) a rest parts.2 n h

-- ---- values

same_rest : (j : Json) (ts : List Token) (a : Json) (rest : List Token)
    → ◌≡◌ {A = Option (Json × List Token)} (Some (j, ts)) (Some (a, rest)) → (n : ℕ) → Nests (suc n) rest
    → Nests (suc n) ts
same_rest j ts a rest e n h =
    let same : ts ≡ rest = some_rest (j, ts) (a, rest) e in
    let P : List Token → Type 0 = λ l. Nests (suc n) l in subst P (sym same) h

value_keeps : (a : Parse Items) (o : Parse Members) → Closing a → Closing o → Keeps (value_with a o)
value_keeps a o ka ko [] j rest e n h = absurd (cc)
value_keeps a o ka ko (Token.begin_object ∷ ts) j rest e n h =
    let m = mapped object (o ts) (j, rest) e in
    let P : List Token → Type 0 = λ l. Nests (suc n) l in
    ko ts m.0.0 m.0.1 m.1 (suc n) (subst P (sym m.2) h)
value_keeps a o ka ko (Token.end_object ∷ ts) j rest e n h = absurd (cc)
value_keeps a o ka ko (Token.begin_array ∷ ts) j rest e n h =
    let m = mapped array (a ts) (j, rest) e in
    let P : List Token → Type 0 = λ l. Nests (suc n) l in
    ka ts m.0.0 m.0.1 m.1 (suc n) (subst P (sym m.2) h)
value_keeps a o ka ko (Token.end_array ∷ ts) j rest e n h = absurd (cc)
value_keeps a o ka ko (Token.key s ∷ ts) j rest e n h = absurd (cc)
value_keeps a o ka ko (Token.string s ∷ ts) j rest e n h = same_rest _ ts j rest e n h
value_keeps a o ka ko (Token.number s ∷ ts) j rest e n h = same_rest _ ts j rest e n h
value_keeps a o ka ko (Token.boolean b ∷ ts) j rest e n h = same_rest _ ts j rest e n h
value_keeps a o ka ko (Token.null ∷ ts) j rest e n h = same_rest _ ts j rest e n h
value_keeps a o ka ko (Token.bad ∷ ts) j rest e n h = absurd (cc)

none_closes : {A : Type 0} → Closing {A = A} (λ ts. None)
none_closes {A} ts a rest e n h = absurd (cc)

value_all : (d : ℕ) → Keeps (value d)
unfolding value
value_all zero ts j rest e n h = value_keeps (λ ts. None) (λ ts. None) (none_closes {A = Items})
    (none_closes {A = Members}) ts j rest e n h
value_all (suc d) ts j rest e n h =
    value_keeps (λ ts. items (value d) (length ts) ts) (λ ts. members (value d) (length ts) ts)
    (λ us. items_all (value d) (value_all d) (length us) us)
    (λ us. members_all (value d) (value_all d) (length us) us)
    ts j rest e n h

-- ---- whole texts

-- the tokens of one value, and of nothing else
abbrev pub IsWhole : List Token → Type 0
IsWhole [] = ⊥
IsWhole (Token.begin_object ∷ ts) = Nests 1 ts
IsWhole (Token.end_object ∷ ts) = ⊥
IsWhole (Token.begin_array ∷ ts) = Nests 1 ts
IsWhole (Token.end_array ∷ ts) = ⊥
IsWhole (Token.key s ∷ ts) = ⊥
IsWhole (Token.string s ∷ ts) = ts ≡ []
IsWhole (Token.number s ∷ ts) = ts ≡ []
IsWhole (Token.boolean b ∷ ts) = ts ≡ []
IsWhole (Token.null ∷ ts) = ts ≡ []
IsWhole (Token.bad ∷ ts) = ⊥

nests_none : (rest : List Token) → rest ≡ [] → Nests 0 rest
nests_none rest e = let P : List Token → Type 0 = λ l. Nests 0 l in subst P (sym e) tt

value_whole : (a : Parse Items) (o : Parse Members) → Closing a → Closing o
    → (ts : List Token) (j : Json) (rest : List Token)
    → value_with a o ts ≡ Some (j, rest) → rest ≡ [] → IsWhole ts
value_whole a o ka ko [] j rest e r = absurd (cc)
value_whole a o ka ko (Token.begin_object ∷ ts) j rest e r =
    let m = mapped object (o ts) (j, rest) e in
    ko ts m.0.0 m.0.1 m.1 0 (nests_none m.0.1 (m.2 ∙ r))
value_whole a o ka ko (Token.end_object ∷ ts) j rest e r = absurd (cc)
value_whole a o ka ko (Token.begin_array ∷ ts) j rest e r =
    let m = mapped array (a ts) (j, rest) e in
    ka ts m.0.0 m.0.1 m.1 0 (nests_none m.0.1 (m.2 ∙ r))
value_whole a o ka ko (Token.end_array ∷ ts) j rest e r = absurd (cc)
value_whole a o ka ko (Token.key s ∷ ts) j rest e r = absurd (cc)
value_whole a o ka ko (Token.string s ∷ ts) j rest e r = some_rest (_, ts) (j, rest) e ∙ r
value_whole a o ka ko (Token.number s ∷ ts) j rest e r = some_rest (_, ts) (j, rest) e ∙ r
value_whole a o ka ko (Token.boolean b ∷ ts) j rest e r = some_rest (_, ts) (j, rest) e ∙ r
value_whole a o ka ko (Token.null ∷ ts) j rest e r = some_rest (_, ts) (j, rest) e ∙ r
value_whole a o ka ko (Token.bad ∷ ts) j rest e r = absurd (cc)

whole_at : (depth : ℕ) (ts : List Token) (j : Json) (rest : List Token) → value depth ts ≡ Some (j, rest)
    → rest ≡ []
    → IsWhole ts
unfolding value
whole_at zero ts j rest e r =
    value_whole (λ ts. None) (λ ts. None) (none_closes {A = Items}) (none_closes {A = Members}) ts j rest e r
whole_at (suc d) ts j rest e r =
    value_whole (λ ts. items (value d) (length ts) ts) (λ ts. members (value d) (length ts) ts)
    (λ us. items_all (value d) (value_all d) (length us) us)
    (λ us. members_all (value d) (value_all d) (length us) us)
    ts j rest e r

no_rest : (j k : Json) (rest : List Token) → if_last j rest ≡ Some k → rest ≡ []
no_rest j k [] e = refl
no_rest j k (t ∷ ts) e = absurd (cc)

-- the tokens of a JSON text
pub whole : (text : List ℕ) → IsJsonText text → IsWhole (tokens text)
whole text h =
    let parts = then_parts (λ p. if_last p.0 p.1) (value h.depth (tokens text)) h.tree h.is in
    whole_at h.depth (tokens text) parts.0.0 parts.0.1 parts.1 (no_rest parts.0.0 h.tree parts.0.1 parts.2)
