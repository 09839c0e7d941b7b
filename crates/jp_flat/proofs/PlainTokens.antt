-- Tokens that are plain are those of a value that the JSON crate reads, and that is plain.
use Rattle.std.proofs.Common.{◌≡◌, ℕ, suc, ◌+◌, ◌-◌, ◌<◌, ◌≤◌, Bool, true, false, ◌||◌, List}
use Rattle.std.proofs.Common.{◌++◌, length, Some, option_map, refl, ap}
use Rattle.std.proofs.Common.{subst, arith, append_assoc, Ordering, Less, Equal, Greater, nat_cmp}
use Rattle.std.proofs.lemmas.Bool.{ltb-true}
use Rattle.std.specs.Cmp.Lexicographic.{slice_cmp}
use Rattle.std.specs.Ordering.{match_ordering}
use Rattle.std.specs.Prelude.{nat_lt}
use Rattle.std.specs.Str.{is_utf8}
use Rattle.json.specs.Token.{Token}
use Rattle.json.specs.Json as text
use Rattle.json.specs.Tree as tree
use Rattle.json.specs.Tree.{json_tokens, items_tokens, members_tokens}
use Rattle.serde_json.specs.Data.{Num, unsigned, negative, float, Data, null, boolean, number, string, array}
use Rattle.serde_json.specs.Data.{object, Items, no_items, item, Members, no_members, member, put}
use Rattle.serde_json.specs.Find.{is_float}
use Rattle.serde_json.specs.Read.{of_json, of_items, of_members}
use Rattle.serde_json.specs.Written.{has_float, items_have_float, members_have_float}
use Rattle.jp_flat.specs.inner.Plain.{is_whole_text, is_plain_from, is_plain, items_are_plain}
use Rattle.jp_flat.specs.inner.Plain.{members_are_plain}
use Rattle.jp_flat.proofs.Good.{is_whole, is_good, items_are_good, members_are_good}
use Rattle.jp_flat.proofs.Numbers.{both, both_back, whole_text}

-- what plain tokens tell of the value that they begin with, and of those behind it
record Told (level depth : ℕ) (p : Bool) (r : List Token) : Type 0 where
  nests : level + depth ≤ 127
  plain : p ≡ true
  after : is_plain_from level r ≡ true

mutual
  told : (j : text.Json) (level : ℕ) (r : List Token) → level ≤ 127
      → is_plain_from level (json_tokens j ++ r) ≡ true → Told level (tree.depth j) (is_plain j) r
  told text.null level r low h = record { nests = omega arith; plain = refl; after = h }
  told (text.boolean b) level r low h = record { nests = omega arith; plain = refl; after = h }
  told (text.number s) level r low h =
      let b = both (is_whole_text s) _ h in
      record { nests = omega arith; plain = b.0; after = b.1 }
  told (text.string s) level r low h =
      let b = both (is_utf8 s) _ h in
      record { nests = omega arith; plain = b.0; after = b.1 }
  told (text.array js) level r low h =
      let b = both (nat_lt level 127) _ h in
      let t = items_told js level r (ltb-true level 127 b.0) b.1 in
      record { nests = omega (arith, t.nests); plain = t.plain; after = t.after }
  told (text.object ms) level r low h =
      let b = both (nat_lt level 127) _ h in
      let t = members_told ms level r (ltb-true level 127 b.0) b.1 in
      record { nests = omega (arith, t.nests); plain = t.plain; after = t.after }

  -- up to the closing bracket
  items_told : (js : text.Items) (level : ℕ) (r : List Token) → level < 127
      → is_plain_from (suc level) (items_tokens js ++ r) ≡ true
      → Told level (suc (tree.items_depth js)) (items_are_plain js) r
  items_told text.no_items level r low h =
      let e : suc level - 1 ≡ level = omega arith in
      record { nests = omega arith; plain = refl; after = subst (λ n. is_plain_from n r ≡ true) e h }
  items_told (text.item j js) level r low h =
      let again = subst (λ ts. is_plain_from (suc level) ts ≡ true) (append_assoc (json_tokens j)
      (items_tokens js) r) h in
      let t = told j (suc level) (items_tokens js ++ r) (omega arith) again in
      let u = items_told js level r low t.after in
      record {
        nests = omega (arith, t.nests, u.nests);
        plain = both_back _ _ t.plain u.plain;
        after = u.after;
      }

  members_told : (ms : text.Members) (level : ℕ) (r : List Token) → level < 127
      → is_plain_from (suc level) (members_tokens ms ++ r) ≡ true
      → Told level (suc (tree.members_depth ms)) (members_are_plain ms) r
  members_told text.no_members level r low h =
      let e : suc level - 1 ≡ level = omega arith in
      record { nests = omega arith; plain = refl; after = subst (λ n. is_plain_from n r ≡ true) e h }
  members_told (text.member k j ms) level r low h =
      let b = both (is_utf8 k) _ h in
      let again = subst (λ ts. is_plain_from (suc level) ts ≡ true) (append_assoc (json_tokens j)
      (members_tokens ms) r) b.1 in
      let t = told j (suc level) (members_tokens ms ++ r) (omega arith) again in
      let u = members_told ms level r low t.after in
      record {
        nests = omega (arith, t.nests, u.nests);
        plain = both_back _ _ b.0
            (both_back _ _ t.plain u.plain);
        after = u.after;
      }

-- plain tokens of one whole value
pub plain_tokens : (j : text.Json) (r : List Token) → is_plain_from 0 (json_tokens j ++ r) ≡ true
    → (tree.depth j ≤ 127) × (is_plain j ≡ true)
plain_tokens j r h = let t = told j 0 r (omega arith) h in (omega (arith, t.nests), t.plain)

-- ---- what the JSON crate makes of a plain tree

put_at : (o : Ordering) (k l : List ℕ) (d e : Data) (ms : Members) → is_utf8 k ≡ true → is_good d ≡ true
    → members_are_good (member l e ms) ≡ true → members_are_good (put k d ms) ≡ true
    → members_are_good (match_ordering o (member k d (member l e ms)) (member l d ms)
    (member l e (put k d ms))) ≡ true
put_at Less k l d e ms u p q later = both_back _ _ u (both_back _ _ p q)
put_at Equal k l d e ms u p q later =
    let a = both (is_utf8 l) _ q in
    let b = both (is_good e) _ a.1 in
    both_back _ _ a.0 (both_back _ _ p b.1)
put_at Greater k l d e ms u p q later =
    let a = both (is_utf8 l) _ q in
    let b = both (is_good e) _ a.1 in
    both_back _ _ a.0 (both_back _ _ b.0 later)

put_plain : (k : List ℕ) (d : Data) (ms : Members) → is_utf8 k ≡ true → is_good d ≡ true
    → members_are_good ms ≡ true → members_are_good (put k d ms) ≡ true
put_plain k d no_members u p q = both_back _ _ u (both_back _ _ p q)
put_plain k d (member l e ms) u p q =
    let a = both (is_utf8 l) _ q in
    let b = both (is_good e) _ a.1 in
    put_at (slice_cmp nat_cmp k l) k l d e ms u p q (put_plain k d ms u p b.1)

pub some_token : (j : text.Json) → 0 < length (json_tokens j)
some_token text.null = omega arith
some_token (text.boolean b) = omega arith
some_token (text.number s) = omega arith
some_token (text.string s) = omega arith
some_token (text.array js) = omega arith
some_token (text.object ms) = omega arith

pub record Made (j : text.Json) : Type 0 where
  pub found : Data
  pub made : of_json j ≡ Some found
  pub plain : is_good found ≡ true

record MadeItems (js : text.Items) : Type 0 where
  found : Items
  made : of_items js ≡ Some found
  plain : items_are_good found ≡ true

record MadeMembers (ms : text.Members) (old : Members) : Type 0 where
  found : Members
  made : of_members ms old ≡ Some found
  plain : members_are_good found ≡ true

mutual
  pub make : (j : text.Json) → is_plain j ≡ true → Made j
  make text.null p = record { found = null; made = refl; plain = refl }
  make (text.boolean b) p = record { found = boolean b; made = refl; plain = refl }
  make (text.number s) p =
      let w = whole_text s p in
      record { found = number w.number; made = ap (option_map number) w.read; plain = w.whole }
  make (text.string s) p = record { found = string s; made = refl; plain = p }
  make (text.array js) p =
      let m = make_items js p in
      record { found = array m.found; made = ap (option_map array) m.made; plain = m.plain }
  make (text.object ms) p =
      let m = make_members ms no_members p refl in
      record { found = object m.found; made = ap (option_map object) m.made; plain = m.plain }

  make_items : (js : text.Items) → items_are_plain js ≡ true → MadeItems js
  make_items text.no_items p = record { found = no_items; made = refl; plain = refl }
  make_items (text.item j js) p =
      let b = both (is_plain j) _ p in
      let m = make j b.0 in
      let n = make_items js b.1 in
      record {
        found = item m.found n.found;
        made = rw (m.made, n.made) refl;
        plain = both_back _ _ m.plain n.plain;
      }

  make_members : (ms : text.Members) (found : Members) → members_are_plain ms ≡ true
      → members_are_good found ≡ true → MadeMembers ms found
  make_members text.no_members found p q = record { found = found; made = refl; plain = q }
  make_members (text.member k j ms) found p q =
      let a = both (is_utf8 k) _ p in
      let b = both (is_plain j) _ a.1 in
      let m = make j b.0 in
      let n = make_members ms (put k m.found found) b.1 (put_plain k m.found found a.0 m.plain q) in
      record { found = n.found; made = rw m.made n.made; plain = n.plain }

-- ---- what plain data has

no_float : (n : Num) → is_whole n ≡ true → is_float n ≡ false
no_float (unsigned n) h = refl
no_float (negative z) h = refl
no_float (float x) h = absurd (cc)

neither : (a b : Bool) → a ≡ false → b ≡ false → (a || b) ≡ false
neither a b h k = rw (h, k) refl

mutual
  pub whole_numbers : (d : Data) → is_good d ≡ true → has_float d ≡ false
  whole_numbers null h = refl
  whole_numbers (boolean b) h = refl
  whole_numbers (number n) h = no_float n h
  whole_numbers (string s) h = refl
  whole_numbers (array ds) h = whole_items ds h
  whole_numbers (object ms) h = whole_members ms h

  whole_items : (ds : Items) → items_are_good ds ≡ true → items_have_float ds ≡ false
  whole_items no_items h = refl
  whole_items (item d ds) h =
      let b = both (is_good d) _ h in
      neither (has_float d) _ (whole_numbers d b.0) (whole_items ds b.1)

  whole_members : (ms : Members) → members_are_good ms ≡ true → members_have_float ms ≡ false
  whole_members no_members h = refl
  whole_members (member k d ms) h =
      let a = both (is_utf8 k) _ h in
      let b = both (is_good d) _ a.1 in
      neither (has_float d) _ (whole_numbers d b.0) (whole_members ms b.1)
