-- Numbers within values: what the JSON crate reads has whole ones, what holds of all numbers of a value holds
-- of those within its children, and those of a tree are numbers of JSON, and short where none is long.
use Rattle.std.proofs.Common.{◌≡◌, ℕ, Bool, true, false, cond, nat_lt, List, length, Option, Some, None}
use Rattle.std.proofs.Common.{Result, Ok, Err, Ordering, Less, Equal, Greater, [], ◌∷◌, option_and_then}
use Rattle.std.proofs.Common.{refl, subst, not}
use Rattle.std.specs.Ordering.{match_ordering}
use Rattle.std.specs.Str.{chars}
use Rattle.json.specs.Json as grammar
use Rattle.json.specs.Lex.{tokens}
use Rattle.json.specs.Print.{IsNumber}
use Rattle.json.specs.Token.{Token}
use Rattle.json.specs.Tree.{HasNumbers, ItemsHaveNumbers, MembersHaveNumbers}
use Rattle.json.proofs.Found.{Some_inj}
use Rattle.json.proofs.Numbered.{value-HasNumbers, ArePrintableOrBad-tokens}
use Rattle.serde_json.specs.Data.{Num, unsigned, negative, float}
use Rattle.serde_json.specs.Read.{number_of, max_depth}
use Rattle.serde_json.specs.Written.{has_float}
use Rattle.serde_json.specs.Data as crate_data
use Rattle.jp_doc.specs.Json.{Text, text_cmp, Json, null, truth, number, text, array, object, Items, no_items}
use Rattle.jp_doc.specs.Json.{add_item, Members, no_members, add_member, json_of, items_of, members_of}
use Rattle.jp_doc.specs.Reading.{max_line, max_items, has_long_array, crate_reading, document_from, reading}
use Rattle.jp_doc.specs.declared.fault.DocFault.{DocFault}
use Rattle.jp_doc.specs.declared.fault.DocFault.TheVariants.{LongLine, NotWhole, LongArray}
use Rattle.jp_doc.specs.NumbersWithin.{AllNumbers, AllNumbersOfItems, AllNumbersOfMembers, IsWhole}
use Rattle.jp_doc.specs.NumbersWithin.{IsJsonNumber, HasWholeNumbers, HasJsonNumbers}
use Rattle.jp_doc.specs.ReadingIn.{has_long_number, items_have_long_number, members_have_long_number}
use Rattle.jp_doc.specs.Tree.{number_by, text_number, put_member, tree_of, tree_json, tree_items}
use Rattle.jp_doc.specs.Tree.{tree_members}
use Rattle.jp_doc.proofs.Found.{first_false, second_false}
use Rattle.jp_number.specs.Number.{Number, whole, written, IsShort, is_short}
use Rattle.jp_number.proofs.Limits.{short_by_test}

mutual
  pub json_is_whole : (d : crate_data.Data) → HasWholeNumbers (json_of d)
  json_is_whole crate_data.null = tt
  json_is_whole (crate_data.boolean b) = tt
  json_is_whole (crate_data.number n) = tt
  json_is_whole (crate_data.string s) = tt
  json_is_whole (crate_data.array ds) = items_are_whole ds
  json_is_whole (crate_data.object ms) = members_are_whole ms

  items_are_whole : (ds : crate_data.Items) → AllNumbersOfItems IsWhole (items_of ds)
  items_are_whole crate_data.no_items = tt
  items_are_whole (crate_data.item d ds) = (json_is_whole d, items_are_whole ds)

  members_are_whole : (ms : crate_data.Members) → AllNumbersOfMembers IsWhole (members_of ms)
  members_are_whole crate_data.no_members = tt
  members_are_whole (crate_data.member k d ms) = (json_is_whole d, members_are_whole ms)

-- so are those of a document that is read

same_ok : (v w : Json) → ◌≡◌ {A = Result Json DocFault} (Ok v) (Ok w) → v ≡ w
same_ok v w e = cc

unless : (b : Bool) (f : DocFault) (r : Result Json DocFault) (v : Json) → cond b (Err f) r ≡ Ok v → r ≡ Ok v
unless true f r v h = absurd cc
unless false f r v h = h

document_is_whole : (o : Option crate_data.Data) (v : Json) → document_from o ≡ Ok v → HasWholeNumbers v
document_is_whole None v h = absurd cc
document_is_whole (Some d) v h =
    let g = unless (has_float d) NotWhole _ v h in
    let i = unless (has_long_array max_items (json_of d)) LongArray _ v g in
    subst HasWholeNumbers (same_ok (json_of d) v i) (json_is_whole d)

pub reading_is_whole : (line : List ℕ) (v : Json) → reading line ≡ Ok v → HasWholeNumbers v
reading_is_whole line v h =
    document_is_whole (crate_reading line) v (unless (nat_lt max_line (length line)) LongLine _ v h)

module _ (P Q : Number → Type 0) (f : (n : Number) → P n → Q n) where
  mutual
    pub weaker : (v : Json) → AllNumbers P v → AllNumbers Q v
    weaker null h = tt
    weaker (truth b) h = tt
    weaker (number n) h = f n h
    weaker (text s) h = tt
    weaker (array vs) h = weaker_items vs h
    weaker (object ms) h = weaker_members ms h

    weaker_items : (vs : Items) → AllNumbersOfItems P vs → AllNumbersOfItems Q vs
    weaker_items no_items h = tt
    weaker_items (add_item v vs) h = (weaker v h.0, weaker_items vs h.1)

    weaker_members : (ms : Members) → AllNumbersOfMembers P ms → AllNumbersOfMembers Q ms
    weaker_members no_members h = tt
    weaker_members (add_member k v ms) h = (weaker v h.0, weaker_members ms h.1)

whole_is_json : (n : Number) → IsWhole n → IsJsonNumber n
whole_is_json (whole z) h = tt
whole_is_json (written s) h = absurd h

whole_is_short : (n : Number) → IsWhole n → IsShort n
whole_is_short (whole z) h = tt
whole_is_short (written s) h = absurd h

-- whole numbers are within the limits
pub whole_numbers_are_short : (v : Json) → HasWholeNumbers v → AllNumbers IsShort v
whole_numbers_are_short = weaker IsWhole IsShort whole_is_short

-- whole numbers are numbers of JSON
pub json_numbers : (v : Json) → HasWholeNumbers v → AllNumbers IsJsonNumber v
json_numbers = weaker IsWhole IsJsonNumber whole_is_json

-- what holds of all numbers of members, and of those of a value, holds once the value is put among them

all_at : (P : Number → Type 0) (o : Ordering) (k l : Text) (v w : Json) (ms : Members) → AllNumbers P v
    → AllNumbersOfMembers P (add_member l w ms) → AllNumbersOfMembers P (put_member k v ms)
    → AllNumbersOfMembers P (match_ordering o (add_member k v (add_member l w ms)) (add_member l v ms)
    (add_member l w (put_member k v ms)))
all_at P Less k l v w ms p q later = (p, q)
all_at P Equal k l v w ms p q later = (p, q.1)
all_at P Greater k l v w ms p q later = (q.0, later)

all_put : (P : Number → Type 0) (k : Text) (v : Json) (ms : Members) → AllNumbers P v
    → AllNumbersOfMembers P ms → AllNumbersOfMembers P (put_member k v ms)
all_put P k v no_members p q = (p, tt)
all_put P k v (add_member l w ms) p q =
    all_at P (text_cmp k l) k l v w ms p q (all_put P k v ms p q.1)

-- the numbers of a tree are those of JSON

number_of_json : (s : List ℕ) (o : Option Num) → IsNumber s → IsJsonNumber (number_by s o)
number_of_json s None h = h
number_of_json s (Some (unsigned n)) h = tt
number_of_json s (Some (negative z)) h = tt
number_of_json s (Some (float x)) h = h

mutual
  tree_numbers : (j : grammar.Json) → HasNumbers j → HasJsonNumbers (tree_json j)
  tree_numbers grammar.null h = tt
  tree_numbers (grammar.boolean b) h = tt
  tree_numbers (grammar.number s) h = number_of_json s (number_of s) h
  tree_numbers (grammar.string s) h = tt
  tree_numbers (grammar.array js) h = items_numbers js h
  tree_numbers (grammar.object ms) h = members_numbers ms no_members h tt

  items_numbers : (js : grammar.Items) → ItemsHaveNumbers js → AllNumbersOfItems IsJsonNumber (tree_items js)
  items_numbers grammar.no_items h = tt
  items_numbers (grammar.item j js) h = (tree_numbers j h.0, items_numbers js h.1)

  members_numbers : (ms : grammar.Members) (put : Members) → MembersHaveNumbers ms
      → AllNumbersOfMembers IsJsonNumber put → AllNumbersOfMembers IsJsonNumber (tree_members ms put)
  members_numbers grammar.no_members put h p = p
  members_numbers (grammar.member k j ms) put h p =
      members_numbers ms (put_member (chars k) (tree_json j) put) h.1
      (all_put IsJsonNumber (chars k) (tree_json j) put (tree_numbers j h.0) p)

-- so are those of the tree of a line

found_numbers : (line : List ℕ) (o : Option (grammar.Json × List Token)) (j : grammar.Json)
    → grammar.value max_depth (tokens line) ≡ o → option_and_then (λ p. grammar.if_last p.0 p.1) o ≡ Some j
    → HasNumbers j
found_numbers line None j is h = absurd (cc)
found_numbers line (Some (i, [])) j is h =
    subst HasNumbers (Some_inj i j h)
    (value-HasNumbers max_depth (tokens line) [] i (ArePrintableOrBad-tokens line) is)
found_numbers line (Some (i, t ∷ ts)) j is h = absurd (cc)

pub line_numbers : (line : List ℕ) (j : grammar.Json) → tree_of line ≡ Some j → HasJsonNumbers (tree_json j)
line_numbers line j h =
    tree_numbers j (found_numbers line (grammar.value max_depth (tokens line)) j refl h)

-- those of a tree that has no long number are within the limits

short_unless_long : (n : Number) → not (is_short n) ≡ false → IsShort n
short_unless_long n h = (short_by_test n).0 (not_false (is_short n) h)
  where
    not_false : (b : Bool) → not b ≡ false → b ≡ true
    not_false true h = refl
    not_false false h = absurd (cc)

mutual
  pub tree_numbers_are_short : (j : grammar.Json) → has_long_number j ≡ false
      → AllNumbers IsShort (tree_json j)
  tree_numbers_are_short grammar.null h = tt
  tree_numbers_are_short (grammar.boolean b) h = tt
  tree_numbers_are_short (grammar.number s) h = short_unless_long (text_number s) h
  tree_numbers_are_short (grammar.string s) h = tt
  tree_numbers_are_short (grammar.array js) h = items_numbers_are_short js h
  tree_numbers_are_short (grammar.object ms) h = members_numbers_are_short ms no_members h tt

  items_numbers_are_short : (js : grammar.Items) → items_have_long_number js ≡ false
      → AllNumbersOfItems IsShort (tree_items js)
  items_numbers_are_short grammar.no_items h = tt
  items_numbers_are_short (grammar.item j js) h =
      (tree_numbers_are_short j (first_false _ _ h), items_numbers_are_short js (second_false _ _ h))

  members_numbers_are_short : (ms : grammar.Members) (put : Members) → members_have_long_number ms ≡ false
      → AllNumbersOfMembers IsShort put → AllNumbersOfMembers IsShort (tree_members ms put)
  members_numbers_are_short grammar.no_members put h p = p
  members_numbers_are_short (grammar.member k j ms) put h p =
      members_numbers_are_short ms (put_member (chars k) (tree_json j) put) (second_false _ _ h)
      (all_put IsShort (chars k) (tree_json j) put (tree_numbers_are_short j (first_false _ _ h)) p)
