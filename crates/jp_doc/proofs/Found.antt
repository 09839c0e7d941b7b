-- What the JSON crate finds in a value, in the words of the definitions.
use Rattle.std.proofs.Common.{[], ◌∷◌, Vec, BTreeMap, String, Global, string_bytes, ◌≡◌, ◌≤◌, ℕ, zero, suc}
use Rattle.std.proofs.Common.{List, Option, Some, None, IfSome, option_map, Bool, true, false, ◌||◌, Ordering}
use Rattle.std.proofs.Common.{Less, Equal, Greater, is_eq, nat_cmp, Bor, max, refl, sym, ap, ◌∙◌, subst}
use Rattle.std.proofs.Common.{arith, if◌then◌else◌}
use Rattle.std.proofs.lemmas.Map.Text.{is_eq-slice_cmp}
use Rattle.std.proofs.lemmas.List.Elements.{All-from_recursion}
use Rattle.std.specs.List.{All, AllByRecursion}
use Rattle.std.specs.Cmp.Lexicographic.{slice_cmp}
use Rattle.std.specs.Ordering.{match_ordering}
use Rattle.std.specs.Str.{chars, IsUtf8}
use Rattle.serde_json.specs.Data.{Data, null, boolean, number, string, array, object, Items, no_items, item}
use Rattle.serde_json.specs.Data.{Members, no_members, member, depth, items_depth, members_depth}
use Rattle.serde_json.specs.Find.{get, get_member, at, get_item}
use Rattle.serde_json.proofs.Views.{Entry, view-Array, view-Object}
use Rattle.serde_json.specs.View.{view, items_view, members_view}
use Rattle.serde_json.specs.Written.{has_float, items_have_float, members_have_float}
use Rattle.serde_json.specs.declared.value.Value.{Value, Array, Object}
use Rattle.jp_doc.specs.DocumentValue.{IsDocumentValue}
use Rattle.jp_doc.specs.Json.{Json, json_of, items_of, members_of, value_of}
use Rattle.jp_doc.specs.Location.{member_at, item_at, member_of, item_of}
use Rattle.jp_doc.specs.Reading.{max_items, has_long_array, items_have_long_array, members_have_long_array}
use Rattle.jp_doc.specs.Rising.{IsRising, ItemsRise, MembersRise}
use Rattle.jp_doc.proofs.TextLaws.{IsOfValue, MembersAreOfValue, text_eq-bytes}

choose : (o : Ordering) (e : Data) (rest : Option Data) (r : Option Json) → option_map json_of rest ≡ r
    → option_map json_of (match_ordering o rest (Some e) rest) ≡ (if is_eq o then Some (json_of e) else r)
choose Less e rest r same = same
choose Equal e rest r same = refl
choose Greater e rest r same = same

found_member : (name : List ℕ) (ms : Members) → IsUtf8 name → MembersAreOfValue ms
    → option_map json_of (get_member name ms) ≡ member_at (chars name) (members_of ms)
found_member name no_members u v = refl
found_member name (member k d ms) u v =
    choose (slice_cmp nat_cmp name k) d _ _ (found_member name ms u v.2)
    ∙ ap (λ b. if b then Some (json_of d) else member_at (chars name) (members_of ms)) (is_eq-slice_cmp name k
    ∙ sym (text_eq-bytes name k u v.0))

found_item : (n : ℕ) (ds : Items) → option_map json_of (get_item n ds) ≡ item_at n (items_of ds)
found_item n no_items = refl
found_item zero (item d ds) = refl
found_item (suc n) (item d ds) = found_item n ds

found_name : (name : List ℕ) (d : Data) → IsUtf8 name → IsOfValue d → option_map json_of (get name d)
    ≡ member_of (chars name) (json_of d)
found_name name null u v = refl
found_name name (boolean b) u v = refl
found_name name (number n) u v = refl
found_name name (string s) u v = refl
found_name name (array ds) u v = refl
found_name name (object ms) u v = found_member name ms u v

found_index : (n : ℕ) (d : Data) → option_map json_of (at n d) ≡ item_of n (json_of d)
found_index n null = refl
found_index n (boolean b) = refl
found_index n (number x) = refl
found_index n (string s) = refl
found_index n (array ds) = found_item n ds
found_index n (object ms) = refl

-- what holds of a document's values, of what the JSON crate reads
record IsPlain (d : Data) : Type 0 where
  whole : has_float d ≡ false
  short : has_long_array max_items (json_of d) ≡ false
  nests : depth d ≤ 127
  rises : IsRising (json_of d)

record ArePlainItems (ds : Items) : Type 0 where
  whole : items_have_float ds ≡ false
  short : items_have_long_array max_items (items_of ds) ≡ false
  nests : items_depth ds ≤ 127
  rises : ItemsRise (items_of ds)

record ArePlainMembers (ms : Members) : Type 0 where
  whole : members_have_float ms ≡ false
  short : members_have_long_array max_items (members_of ms) ≡ false
  nests : members_depth ms ≤ 127
  rises : MembersRise (members_of ms)

pub first_false : (a b : Bool) → (a || b) ≡ false → a ≡ false
first_false true b e = e
first_false false b e = refl

pub second_false : (a b : Bool) → (a || b) ≡ false → b ≡ false
second_false true b e = absurd (cc)
second_false false b e = e

first_member : (k : List ℕ) (d : Data) (ms : Members) → ArePlainMembers (member k d ms) → IsPlain d
first_member k d ms p = record {
  whole = first_false _ _ p.whole;
  short = first_false _ _ p.short;
  nests = let deep : max (depth d) (members_depth ms) ≤ 127 = p.nests in omega (arith, deep);
  rises = p.rises.0;
}

other_members : (k : List ℕ) (d : Data) (ms : Members) → ArePlainMembers (member k d ms) → ArePlainMembers ms
other_members k d ms p = record {
  whole = second_false _ _ p.whole;
  short = second_false _ _ p.short;
  nests = let deep : max (depth d) (members_depth ms) ≤ 127 = p.nests in omega (arith, deep);
  rises = p.rises.2;
}

first_item : (d : Data) (ds : Items) → ArePlainItems (item d ds) → IsPlain d
first_item d ds p = record {
  whole = first_false _ _ p.whole;
  short = first_false _ _ p.short;
  nests = let deep : max (depth d) (items_depth ds) ≤ 127 = p.nests in omega (arith, deep);
  rises = p.rises.0;
}

other_items : (d : Data) (ds : Items) → ArePlainItems (item d ds) → ArePlainItems ds
other_items d ds p = record {
  whole = second_false _ _ p.whole;
  short = second_false _ _ p.short;
  nests = let deep : max (depth d) (items_depth ds) ≤ 127 = p.nests in omega (arith, deep);
  rises = p.rises.1;
}

array_items : (ds : Items) → IsPlain (array ds) → ArePlainItems ds
array_items ds p = record {
  whole = p.whole;
  short = second_false _ _ p.short;
  nests = let deep : suc (items_depth ds) ≤ 127 = p.nests in omega (arith, deep);
  rises = p.rises;
}

object_members : (ms : Members) → IsPlain (object ms) → ArePlainMembers ms
object_members ms p = record {
  whole = p.whole;
  short = p.short;
  nests = let deep : suc (members_depth ms) ≤ 127 = p.nests in omega (arith, deep);
  rises = p.rises;
}

pick : (o : Ordering) (d : Data) (rest : Option Data) → IsPlain d → IfSome rest IsPlain
    → IfSome (match_ordering o rest (Some d) rest) IsPlain
pick Less d rest p q = q
pick Equal d rest p q = p
pick Greater d rest p q = q

plain_member : (name : List ℕ) (ms : Members) → ArePlainMembers ms → IfSome (get_member name ms) IsPlain
plain_member name no_members p = tt
plain_member name (member k d ms) p = pick (slice_cmp nat_cmp name k) d _ (first_member k d ms p)
    (plain_member name ms (other_members k d ms p))

plain_item : (n : ℕ) (ds : Items) → ArePlainItems ds → IfSome (get_item n ds) IsPlain
plain_item n no_items p = tt
plain_item zero (item d ds) p = first_item d ds p
plain_item (suc n) (item d ds) p = plain_item n ds (other_items d ds p)

plain_name : (name : List ℕ) (d : Data) → IsPlain d → IfSome (get name d) IsPlain
plain_name name null p = tt
plain_name name (boolean b) p = tt
plain_name name (number n) p = tt
plain_name name (string s) p = tt
plain_name name (array ds) p = tt
plain_name name (object ms) p = plain_member name ms (object_members ms p)

plain_index : (n : ℕ) (d : Data) → IsPlain d → IfSome (at n d) IsPlain
plain_index n null p = tt
plain_index n (boolean b) p = tt
plain_index n (number x) p = tt
plain_index n (string s) p = tt
plain_index n (array ds) p = plain_item n ds (array_items ds p)
plain_index n (object ms) p = tt

plain_value : (v : Value) → IsDocumentValue v → IsPlain (view v)
plain_value v p = record {
  whole = p.whole_numbers;
  short = p.short_arrays;
  nests = p.nesting;
  rises =
      p.rising_names;
}

kept : (v : Value) → IsPlain (view v) → IsDocumentValue v
kept v p = record {
  whole_numbers = p.whole;
  short_arrays = p.short;
  nesting = p.nests;
  rising_names =
      p.rises;
}

items_kept : (vs : List Value) → ArePlainItems (items_view vs) → AllByRecursion IsDocumentValue vs
items_kept [] p = tt
items_kept (v ∷ vs) p =
    (kept v (first_item (view v) (items_view vs) p), items_kept vs (other_items (view v) (items_view vs) p))

members_kept : (es : List Entry) → ArePlainMembers (members_view es)
    → AllByRecursion (λ (e : Entry). IsDocumentValue e.1) es
members_kept [] p = tt
members_kept (e ∷ es) p = (
  kept e.1 (first_member (string_bytes e.0) (view e.1) (members_view es) p),
  members_kept es
      (other_members (string_bytes e.0) (view e.1) (members_view es) p),
)

pub array_kept : (vs : Vec Value Global) → IsDocumentValue (Array vs) → All IsDocumentValue vs.items
array_kept vs p =
    All-from_recursion IsDocumentValue vs.items
    (items_kept vs.items (array_items (items_view vs.items)
    (subst IsPlain (view-Array vs) (plain_value (Array vs) p))))

pub object_kept : (ms : BTreeMap (String Global) Value) → IsDocumentValue (Object ms)
    → All (λ (e : Entry). IsDocumentValue e.1) ms.entries
object_kept ms p =
    All-from_recursion (λ (e : Entry). IsDocumentValue e.1) ms.entries
    (members_kept ms.entries (object_members (members_view ms.entries)
    (subst IsPlain (view-Object ms) (plain_value (Object ms) p))))

-- from the reference that was found

value_of_found : (r : Option (Bor Value)) (o : Option Data) → option_map (λ v. view v.now) r ≡ o
    → option_map (λ v. value_of v.now) r ≡ option_map json_of o
value_of_found None o same = ap (option_map json_of) same
value_of_found (Some v) o same = ap (option_map json_of) same

plain_found : (r : Option (Bor Value)) (o : Option Data) → option_map (λ v. view v.now) r ≡ o
    → IfSome o IsPlain → IfSome r (λ v. IsDocumentValue v.now)
plain_found None o same p = tt
plain_found (Some v) o same p =
    kept v.now (subst (λ x. IfSome x IsPlain) (sym same) p)

pub name_leads : (r : Option (Bor Value)) (v : Value) (name : List ℕ) → option_map (λ v. view v.now) r
    ≡ get name (view v) → IsUtf8 name → IsOfValue (view v)
    → option_map (λ v. value_of v.now) r ≡ member_of (chars name) (value_of v)
name_leads r v name e u w = value_of_found r _ e ∙ found_name name (view v) u w

pub index_leads : (r : Option (Bor Value)) (v : Value) (n : ℕ) → option_map (λ v. view v.now) r
    ≡ at n (view v) → option_map (λ v. value_of v.now) r ≡ item_of n (value_of v)
index_leads r v n e = value_of_found r _ e ∙ found_index n (view v)

pub name_keeps : (r : Option (Bor Value)) (v : Value) (name : List ℕ) → option_map (λ v. view v.now) r
    ≡ get name (view v) → IsDocumentValue v → IfSome r (λ v. IsDocumentValue v.now)
name_keeps r v name e p = plain_found r _ e (plain_name name (view v) (plain_value v p))

pub index_keeps : (r : Option (Bor Value)) (v : Value) (n : ℕ) → option_map (λ v. view v.now) r
    ≡ at n (view v) → IsDocumentValue v → IfSome r (λ v. IsDocumentValue v.now)
index_keeps r v n e p = plain_found r _ e (plain_index n (view v) (plain_value v p))
