-- The value of a tree is the one that the JSON crate reads, where that has no float.
use Rattle.std.proofs.Common.{◌≡◌, ℕ, true, false, List, Option, Some, None, option_map, option_and_then}
use Rattle.std.proofs.Common.{Ordering, Less, Equal, Greater, nat_cmp, refl, sym, ap, ◌∙◌, subst}
use Rattle.std.proofs.lemmas.Str.{encodes-chars}
use Rattle.std.specs.Cmp.Lexicographic.{slice_cmp}
use Rattle.std.specs.Ordering.{match_ordering}
use Rattle.std.specs.Str.{chars, IsUtf8}
use Rattle.json.specs.Json as grammar
use Rattle.json.proofs.Found.{not_found, Some_inj}
use Rattle.serde_json.specs.Data as crate_data
use Rattle.serde_json.specs.Data.{Num, unsigned, negative, float, Data, put}
use Rattle.serde_json.specs.Read.{number_of, of_json, of_items, of_members}
use Rattle.serde_json.specs.Written.{has_float, items_have_float, members_have_float}
use Rattle.jp_doc.specs.Json.{Text, text_cmp, Json, number, array, object, Items, add_item}
use Rattle.jp_doc.specs.Json.{Members, no_members, add_member, json_of, items_of, members_of}
use Rattle.jp_doc.specs.Rising.{NamesAreUtf8}
use Rattle.jp_doc.specs.Tree.{number_by, put_member, tree_json, tree_items, tree_members}
use Rattle.jp_doc.proofs.Found.{first_false, second_false}
use Rattle.jp_doc.proofs.RisingLaws.{utf8_put}
use Rattle.jp_doc.proofs.TreeNames.{NamesAreTexts, ItemNamesAreTexts, MemberNamesAreTexts}

-- a value is the one that the crate reads, unless that has a float
abbrev IsSame : Data → Json → Type 0
IsSame d v = has_float d ≡ false → v ≡ json_of d

abbrev AreSameItems : crate_data.Items → Items → Type 0
AreSameItems ds vs = items_have_float ds ≡ false → vs ≡ items_of ds

-- members have the same names in the same order, and each such a value
abbrev AreSame : crate_data.Members → Members → Type 0
AreSame crate_data.no_members no_members = Unit {0}
AreSame crate_data.no_members (add_member l v ns) = ⊥
AreSame (crate_data.member k d ms) no_members = ⊥
AreSame (crate_data.member k d ms) (add_member l v ns) = (l ≡ chars k) × IsSame d v × AreSame ms ns

-- ---- a member that is put on both sides keeps them so, also where it covers a float

put_at : (o : Ordering) (k l : List ℕ) (d e : Data) (ms : crate_data.Members) (m : Text) (v w : Json)
    (ns : Members) → IsSame d v → AreSame (crate_data.member l e ms) (add_member m w ns)
    → AreSame (put k d ms) (put_member (chars k) v ns)
    → AreSame (match_ordering o (crate_data.member k d (crate_data.member l e ms)) (crate_data.member l d ms)
    (crate_data.member l e (put k d ms)))
    (match_ordering o (add_member (chars k) v (add_member m w ns)) (add_member m v ns)
    (add_member m w (put_member (chars k) v ns)))
put_at Less k l d e ms m v w ns p q later = (refl, p, q)
put_at Equal k l d e ms m v w ns p q later = (q.0, p, q.2)
put_at Greater k l d e ms m v w ns p q later = (q.0, q.1, later)

same_order : (k l : List ℕ) → IsUtf8 k → IsUtf8 l → slice_cmp nat_cmp k l ≡ text_cmp (chars k) (chars l)
same_order k l u v = rw (encodes-chars k u, encodes-chars l v) refl

same_put : (k : List ℕ) (d : Data) (v : Json) (old : crate_data.Members) (new : Members) → IsUtf8 k
    → NamesAreUtf8 old → IsSame d v → AreSame old new
    → AreSame (put k d old) (put_member (chars k) v new)
same_put k d v crate_data.no_members no_members u w p q = (refl, p, tt)
same_put k d v crate_data.no_members (add_member m x ns) u w p q = absurd q
same_put k d v (crate_data.member l e ms) no_members u w p q = absurd q
same_put k d v (crate_data.member l e ms) (add_member m x ns) u w p q =
    subst (λ o. AreSame (put k d (crate_data.member l e ms)) (match_ordering o (add_member (chars k) v
    (add_member m x ns)) (add_member m v ns) (add_member m x (put_member (chars k) v ns))))
    (same_order k l u w.0 ∙ ap (text_cmp (chars k)) (sym q.0))
    (put_at (slice_cmp nat_cmp k l) k l d e ms m v x ns p q (same_put k d v ms ns u w.1 p q.2))

-- members of which none has a float are the same
no_float_same : (ms : crate_data.Members) (ns : Members) → AreSame ms ns → members_have_float ms ≡ false
    → ns ≡ members_of ms
no_float_same crate_data.no_members no_members p h = refl
no_float_same crate_data.no_members (add_member l v ns) p h = absurd p
no_float_same (crate_data.member k d ms) no_members p h = absurd p
no_float_same (crate_data.member k d ms) (add_member l v ns) p h =
    ap (λ x. add_member x v ns) p.0 ∙ ap (λ x. add_member (chars k) x ns) (p.1 (first_false _ _ h))
    ∙ ap (add_member (chars k) (json_of d)) (no_float_same ms ns p.2 (second_false _ _ h))

-- ---- one level, from those inside it

number_same : (s : List ℕ) (o : Option Num) (d : Data) → option_map crate_data.number o ≡ Some d
    → has_float d ≡ false → number (number_by s o) ≡ json_of d
number_same s None d e h = not_found d e
number_same s (Some (unsigned n)) d e h = ap json_of (Some_inj (crate_data.number (unsigned n)) d e)
number_same s (Some (negative z)) d e h = ap json_of (Some_inj (crate_data.number (negative z)) d e)
number_same s (Some (float x)) d e h =
    let made : crate_data.number (float x) ≡ d = Some_inj (crate_data.number (float x)) d e in
    let none : true ≡ false = ap has_float made ∙ h in
    absurd (cc)

array_same : (o : Option crate_data.Items) (js : grammar.Items) (d : Data) → of_items js ≡ o
    → ((ds : crate_data.Items) → of_items js ≡ Some ds → AreSameItems ds (tree_items js))
    → option_map crate_data.array o ≡ Some d → IsSame d (array (tree_items js))
array_same None js d is inner e h = not_found d e
array_same (Some ds) js d is inner e h =
    let made : crate_data.array ds ≡ d = Some_inj (crate_data.array ds) d e in
    ap array (inner ds is (ap has_float made ∙ h)) ∙ ap json_of made

item_same : (o : Option Data) (p : Option crate_data.Items) (j : grammar.Json) (js : grammar.Items)
    (ds : crate_data.Items) → of_json j ≡ o → of_items js ≡ p
    → ((d : Data) → of_json j ≡ Some d → IsSame d (tree_json j))
    → ((es : crate_data.Items) → of_items js ≡ Some es → AreSameItems es (tree_items js))
    → option_and_then (λ d. option_map (crate_data.item d) p) o ≡ Some ds
    → AreSameItems ds (add_item (tree_json j) (tree_items js))
item_same None p j js ds is are one others e h = not_found ds e
item_same (Some d) None j js ds is are one others e h = not_found ds e
item_same (Some d) (Some es) j js ds is are one others e h =
    let made : crate_data.item d es ≡ ds = Some_inj (crate_data.item d es) ds e in
    let none : items_have_float (crate_data.item d es) ≡ false = ap items_have_float made ∙ h in
    ap (λ v. add_item v (tree_items js)) (one d is (first_false _ _ none))
    ∙ ap (add_item (json_of d)) (others es are (second_false _ _ none)) ∙ ap items_of made

object_same : (o : Option crate_data.Members) (ms : grammar.Members) (d : Data)
    → of_members ms crate_data.no_members ≡ o
    → ((found : crate_data.Members) → of_members ms crate_data.no_members ≡ Some found
    → AreSame found (tree_members ms no_members))
    → option_map crate_data.object o ≡ Some d → IsSame d (object (tree_members ms no_members))
object_same None ms d is inner e h = not_found d e
object_same (Some found) ms d is inner e h =
    let made : crate_data.object found ≡ d = Some_inj (crate_data.object found) d e in
    ap object (no_float_same found _ (inner found is) (ap has_float made ∙ h)) ∙ ap json_of made

member_same : (o : Option Data) (k : List ℕ) (j : grammar.Json) (ms : grammar.Members)
    (old found : crate_data.Members) (new : Members) → of_json j ≡ o → IsUtf8 k → NamesAreUtf8 old
    → AreSame old new
    → ((d : Data) → of_json j ≡ Some d → IsSame d (tree_json j))
    → ((before : crate_data.Members) (put : Members) → NamesAreUtf8 before → AreSame before put
    → of_members ms before ≡ Some found → AreSame found (tree_members ms put))
    → option_and_then (λ d. of_members ms (put k d old)) o ≡ Some found
    → AreSame found (tree_members ms (put_member (chars k) (tree_json j) new))
member_same None k j ms old found new is u w p one others e = not_found found e
member_same (Some d) k j ms old found new is u w p one others e =
    others (put k d old) (put_member (chars k) (tree_json j) new) (utf8_put k d old u w)
    (same_put k d (tree_json j) old new u w (one d is) p) e

mutual
  pub same_value : (j : grammar.Json) (d : Data) → NamesAreTexts j → of_json j ≡ Some d
      → IsSame d (tree_json j)
  same_value grammar.null d u e h = ap json_of (Some_inj crate_data.null d e)
  same_value (grammar.boolean b) d u e h = ap json_of (Some_inj (crate_data.boolean b) d e)
  same_value (grammar.number s) d u e h = number_same s (number_of s) d e h
  same_value (grammar.string s) d u e h = ap json_of (Some_inj (crate_data.string s) d e)
  same_value (grammar.array js) d u e h =
      array_same (of_items js) js d refl (λ ds is none. same_items js ds u is none) e h
  same_value (grammar.object ms) d u e h =
      object_same (of_members ms crate_data.no_members) ms d refl
      (λ found is. same_members ms crate_data.no_members found no_members u tt tt is) e h

  same_items : (js : grammar.Items) (ds : crate_data.Items) → ItemNamesAreTexts js → of_items js ≡ Some ds
      → AreSameItems ds (tree_items js)
  same_items grammar.no_items ds u e h = ap items_of (Some_inj crate_data.no_items ds e)
  same_items (grammar.item j js) ds u e h =
      item_same (of_json j) (of_items js) j js ds refl refl (λ d is none. same_value j d u.0 is none)
      (λ es is none. same_items js es u.1 is none) e h

  same_members : (ms : grammar.Members) (old found : crate_data.Members) (new : Members)
      → MemberNamesAreTexts ms → NamesAreUtf8 old → AreSame old new → of_members ms old ≡ Some found
      → AreSame found (tree_members ms new)
  same_members grammar.no_members old found new u w p e = subst (λ x. AreSame x new) (Some_inj old found e) p
  same_members (grammar.member k j ms) old found new u w p e =
      member_same (of_json j) k j ms old found new refl u.0 w p (λ d is none. same_value j d u.1 is none)
      (λ before put v q is. same_members ms before found put u.2 v q is) e
