-- What is true of the value of every tree: names rise, it nests no deeper than the tree, and its arrays are
-- short where the tree has few tokens.
use Rattle.std.proofs.Common.{◌≡◌, ℕ, ◌+◌, ◌<◌, ◌≤◌, Bool, false, ◌||◌, length, Ordering, Less}
use Rattle.std.proofs.Common.{Equal, Greater, refl, ap, ◌∙◌, arith, length-append}
use Rattle.std.proofs.lemmas.Bool.{le-ltb}
use Rattle.std.proofs.lemmas.Cmp.{nat_list_cmp_total}
use Rattle.std.specs.Ordering.{match_ordering, ordering_reverse}
use Rattle.std.specs.Prelude.{nat_lt, encode_utf8_all}
use Rattle.std.specs.Str.{chars}
use Rattle.json.specs.Json as grammar
use Rattle.json.specs.Tree as tree
use Rattle.json.specs.Tree.{json_tokens, items_tokens, members_tokens}
use Rattle.jp_doc.specs.Height.{height, items_height, members_height}
use Rattle.jp_doc.specs.Json.{Text, text_cmp, Json, Members, no_members, add_member, item_list}
use Rattle.jp_doc.specs.Reading.{has_long_array, items_have_long_array, members_have_long_array}
use Rattle.jp_doc.specs.Rising.{IsTextBelow, IsBelow, IsRising, ItemsRise, MembersRise}
use Rattle.jp_doc.specs.Tree.{put_member, tree_json, tree_items, tree_members}
use Rattle.jp_doc.proofs.Found.{first_false, second_false}

-- ---- names rise

turned : (k l : Text) → text_cmp k l ≡ Greater → IsTextBelow l k
turned k l e = nat_list_cmp_total.antisymm (encode_utf8_all l) (encode_utf8_all k) ∙ ap ordering_reverse e

below_at : (o : Ordering) (m k l : Text) (v w : Json) (ms : Members) → IsTextBelow m k → IsTextBelow m l
    → IsBelow m (match_ordering o (add_member k v (add_member l w ms)) (add_member l v ms)
    (add_member l w (put_member k v ms)))
below_at Less m k l v w ms p q = p
below_at Equal m k l v w ms p q = q
below_at Greater m k l v w ms p q = q

below_put : (m k : Text) (v : Json) (ms : Members) → IsTextBelow m k → IsBelow m ms
    → IsBelow m (put_member k v ms)
below_put m k v no_members p q = p
below_put m k v (add_member l w ms) p q = below_at (text_cmp k l) m k l v w ms p q

rise_at : (o : Ordering) (k l : Text) (v w : Json) (ms : Members) → text_cmp k l ≡ o → IsRising v
    → MembersRise (add_member l w ms) → MembersRise (put_member k v ms)
    → MembersRise (match_ordering o (add_member k v (add_member l w ms)) (add_member l v ms)
    (add_member l w (put_member k v ms)))
rise_at Less k l v w ms e p q later = (p, e, q)
rise_at Equal k l v w ms e p q later = (p, q.1, q.2)
rise_at Greater k l v w ms e p q later = (q.0, below_put l k v ms (turned k l e) q.1, later)

rise_put : (k : Text) (v : Json) (ms : Members) → IsRising v → MembersRise ms
    → MembersRise (put_member k v ms)
rise_put k v no_members p q = (p, tt, tt)
rise_put k v (add_member l w ms) p q = rise_at (text_cmp k l) k l v w ms refl p q (rise_put k v ms p q.2)

mutual
  pub tree_rises : (j : grammar.Json) → IsRising (tree_json j)
  tree_rises grammar.null = tt
  tree_rises (grammar.boolean b) = tt
  tree_rises (grammar.number s) = tt
  tree_rises (grammar.string s) = tt
  tree_rises (grammar.array js) = items_rise js
  tree_rises (grammar.object ms) = members_rise ms no_members tt

  items_rise : (js : grammar.Items) → ItemsRise (tree_items js)
  items_rise grammar.no_items = tt
  items_rise (grammar.item j js) = (tree_rises j, items_rise js)

  members_rise : (ms : grammar.Members) (put : Members) → MembersRise put → MembersRise (tree_members ms put)
  members_rise grammar.no_members put p = p
  members_rise (grammar.member k j ms) put p =
      members_rise ms (put_member (chars k) (tree_json j) put)
      (rise_put (chars k) (tree_json j) put (tree_rises j) p)

-- ---- nesting

high_at : (o : Ordering) (k l : Text) (v w : Json) (ms : Members) (n : ℕ) → height v ≤ n
    → members_height (add_member l w ms) ≤ n → members_height (put_member k v ms) ≤ n
    → members_height (match_ordering o (add_member k v (add_member l w ms)) (add_member l v ms)
    (add_member l w (put_member k v ms))) ≤ n
high_at Less k l v w ms n p q later = omega arith
high_at Equal k l v w ms n p q later = omega arith
high_at Greater k l v w ms n p q later = omega arith

high_put : (k : Text) (v : Json) (ms : Members) (n : ℕ) → height v ≤ n → members_height ms ≤ n
    → members_height (put_member k v ms) ≤ n
high_put k v no_members n p q = omega arith
high_put k v (add_member l w ms) n p q =
    high_at (text_cmp k l) k l v w ms n p q (high_put k v ms n p (omega arith))

mutual
  pub tree_height : (j : grammar.Json) → height (tree_json j) ≤ tree.depth j
  tree_height grammar.null = omega arith
  tree_height (grammar.boolean b) = omega arith
  tree_height (grammar.number s) = omega arith
  tree_height (grammar.string s) = omega arith
  tree_height (grammar.array js) = let inner = tree_items_height js in omega (arith, inner)
  tree_height (grammar.object ms) =
      let inner = tree_members_height ms no_members (tree.members_depth ms) (omega arith) (omega arith) in
      omega (arith, inner)

  tree_items_height : (js : grammar.Items) → items_height (tree_items js) ≤ tree.items_depth js
  tree_items_height grammar.no_items = omega arith
  tree_items_height (grammar.item j js) =
      let one = tree_height j in
      let others = tree_items_height js in
      omega (arith, one, others)

  tree_members_height : (ms : grammar.Members) (put : Members) (n : ℕ) → tree.members_depth ms ≤ n
      → members_height put ≤ n → members_height (tree_members ms put) ≤ n
  tree_members_height grammar.no_members put n h p = p
  tree_members_height (grammar.member k j ms) put n h p =
      let one : height (tree_json j) ≤ n = omega (arith, tree_height j) in
      tree_members_height ms (put_member (chars k) (tree_json j) put) n (omega arith)
      (high_put (chars k) (tree_json j) put n one p)

-- ---- arrays

neither : (a b : Bool) → a ≡ false → b ≡ false → (a || b) ≡ false
neither a b e f = rw (e, f) refl

short_at : (o : Ordering) (n : ℕ) (k l : Text) (v w : Json) (ms : Members) → has_long_array n v ≡ false
    → members_have_long_array n (add_member l w ms) ≡ false
    → members_have_long_array n (put_member k v ms) ≡ false
    → members_have_long_array n (match_ordering o (add_member k v (add_member l w ms)) (add_member l v ms)
    (add_member l w (put_member k v ms))) ≡ false
short_at Less n k l v w ms p q later = neither _ _ p q
short_at Equal n k l v w ms p q later = neither _ _ p (second_false _ _ q)
short_at Greater n k l v w ms p q later = neither _ _ (first_false _ _ q) later

short_put : (n : ℕ) (k : Text) (v : Json) (ms : Members) → has_long_array n v ≡ false
    → members_have_long_array n ms ≡ false → members_have_long_array n (put_member k v ms) ≡ false
short_put n k v no_members p q = neither _ _ p refl
short_put n k v (add_member l w ms) p q =
    short_at (text_cmp k l) n k l v w ms p q (short_put n k v ms p (second_false _ _ q))

some_token : (j : grammar.Json) → 0 < length (json_tokens j)
some_token grammar.null = omega arith
some_token (grammar.boolean b) = omega arith
some_token (grammar.number s) = omega arith
some_token (grammar.string s) = omega arith
some_token (grammar.array js) = omega arith
some_token (grammar.object ms) = omega arith

few_items : (js : grammar.Items) → length (item_list (tree_items js)) < length (items_tokens js)
few_items grammar.no_items = omega arith
few_items (grammar.item j js) =
    omega (arith, few_items js, some_token j, length-append (json_tokens j) (items_tokens js))

-- so many items at most have an array's tokens with its brackets
mutual
  pub tree_is_short : (j : grammar.Json) (n : ℕ) → length (json_tokens j) ≤ n + 2
      → has_long_array n (tree_json j) ≡ false
  tree_is_short grammar.null n h = refl
  tree_is_short (grammar.boolean b) n h = refl
  tree_is_short (grammar.number s) n h = refl
  tree_is_short (grammar.string s) n h = refl
  tree_is_short (grammar.array js) n h =
      let few = few_items js in
      let here : nat_lt n (length (item_list (tree_items js))) ≡ false = le-ltb n _ (omega (arith, few)) in
      neither _ _ here (items_are_short js n (omega arith))
  tree_is_short (grammar.object ms) n h = members_are_short ms no_members n (omega arith) refl

  items_are_short : (js : grammar.Items) (n : ℕ) → length (items_tokens js) ≤ n + 2
      → items_have_long_array n (tree_items js) ≡ false
  items_are_short grammar.no_items n h = refl
  items_are_short (grammar.item j js) n h =
      let both = length-append (json_tokens j) (items_tokens js) in
      neither _ _ (tree_is_short j n (omega (arith, both))) (items_are_short js n (omega (arith, both)))

  members_are_short : (ms : grammar.Members) (put : Members) (n : ℕ) → length (members_tokens ms) ≤ n + 2
      → members_have_long_array n put ≡ false → members_have_long_array n (tree_members ms put) ≡ false
  members_are_short grammar.no_members put n h p = p
  members_are_short (grammar.member k j ms) put n h p =
      let both = length-append (json_tokens j) (members_tokens ms) in
      members_are_short ms (put_member (chars k) (tree_json j) put) n (omega (arith, both))
      (short_put n (chars k) (tree_json j) put (tree_is_short j n (omega (arith, both))) p)
