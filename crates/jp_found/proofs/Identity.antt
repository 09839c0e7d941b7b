-- Values that the test of identity takes for one are one.
use Rattle.std.proofs.Common.{◌≡◌, true, false, ◌&&◌, Option, Some, None, refl, sym, ap, ◌∙◌}
use Rattle.std.proofs.lemmas.Bool.Decides.{Decides-int_eq}
use Rattle.std.proofs.lemmas.Slice.Eq.{bytes_eq-Decides}
use Rattle.jp_doc.specs.Json.{text_eq, Json, null, truth, number, text, array, object, Items, no_items}
use Rattle.jp_doc.specs.Json.{add_item, Members, no_members, add_member}
use Rattle.jp_number.specs.Number.{Number, whole, written}
use Rattle.jp_value.proofs.Sameness.{truths}
use Rattle.std.proofs.lemmas.Bool.{and_parts, and_from}
use Rattle.jp_found.specs.Identical.{is_one_number, is_one, are_one_items, are_one_members, identical}

numbers : (x y : Number) → is_one_number x y ≡ true → x ≡ y
numbers (whole y) (whole z) h = ap whole ((Decides-int_eq y z).0 h)
numbers (whole y) (written t) h = absurd cc
numbers (written s) (written t) h = ap written ((bytes_eq-Decides s t).0 h)
numbers (written s) (whole z) h = absurd cc

mutual
  one : (v w : Json) → is_one v w ≡ true → v ≡ w
  one null null h = refl
  one null (truth b) h = absurd cc
  one null (number y) h = absurd cc
  one null (text t) h = absurd cc
  one null (array ws) h = absurd cc
  one null (object ns) h = absurd cc
  one (truth a) null h = absurd cc
  one (truth a) (truth b) h = ap truth (truths a b h)
  one (truth a) (number y) h = absurd cc
  one (truth a) (text t) h = absurd cc
  one (truth a) (array ws) h = absurd cc
  one (truth a) (object ns) h = absurd cc
  one (number x) null h = absurd cc
  one (number x) (truth b) h = absurd cc
  one (number x) (number y) h = ap number (numbers x y h)
  one (number x) (text t) h = absurd cc
  one (number x) (array ws) h = absurd cc
  one (number x) (object ns) h = absurd cc
  one (text s) null h = absurd cc
  one (text s) (truth b) h = absurd cc
  one (text s) (number y) h = absurd cc
  one (text s) (text t) h = ap text ((bytes_eq-Decides s t).0 h)
  one (text s) (array ws) h = absurd cc
  one (text s) (object ns) h = absurd cc
  one (array vs) null h = absurd cc
  one (array vs) (truth b) h = absurd cc
  one (array vs) (number y) h = absurd cc
  one (array vs) (text t) h = absurd cc
  one (array vs) (array ws) h = ap array (items_one vs ws h)
  one (array vs) (object ns) h = absurd cc
  one (object ms) null h = absurd cc
  one (object ms) (truth b) h = absurd cc
  one (object ms) (number y) h = absurd cc
  one (object ms) (text t) h = absurd cc
  one (object ms) (array ws) h = absurd cc
  one (object ms) (object ns) h = ap object (members_one ms ns h)

  items_one : (vs ws : Items) → are_one_items vs ws ≡ true → vs ≡ ws
  items_one no_items no_items h = refl
  items_one no_items (add_item w ws) h = absurd cc
  items_one (add_item v vs) no_items h = absurd cc
  items_one (add_item v vs) (add_item w ws) h =
      let p = and_parts (is_one v w) (are_one_items vs ws) h in
      let e : v ≡ w = one v w p.0 in
      let f : vs ≡ ws = items_one vs ws p.1 in
      cc

  members_one : (ms ns : Members) → are_one_members ms ns ≡ true → ms ≡ ns
  members_one no_members no_members h = refl
  members_one no_members (add_member l w ns) h = absurd cc
  members_one (add_member k v ms) no_members h = absurd cc
  members_one (add_member k v ms) (add_member l w ns) h =
      let p = and_parts (text_eq k l && is_one v w) (are_one_members ms ns) h in
      let q = and_parts (text_eq k l) (is_one v w) p.0 in
      let d : k ≡ l = (bytes_eq-Decides k l).0 q.0 in
      let e : v ≡ w = one v w q.1 in
      let f : ms ≡ ns = members_one ms ns p.1 in
      cc

number_itself : (x : Number) → is_one_number x x ≡ true
number_itself (whole z) = (Decides-int_eq z z).1 refl
number_itself (written s) = (bytes_eq-Decides s s).1 refl

mutual
  pub itself : (v : Json) → is_one v v ≡ true
  itself null = refl
  itself (truth true) = refl
  itself (truth false) = refl
  itself (number x) = number_itself x
  itself (text s) = (bytes_eq-Decides s s).1 refl
  itself (array vs) = items_themselves vs
  itself (object ms) = members_themselves ms

  items_themselves : (vs : Items) → are_one_items vs vs ≡ true
  items_themselves no_items = refl
  items_themselves (add_item v vs) =
      and_from (is_one v v) (are_one_items vs vs) (itself v) (items_themselves vs)

  members_themselves : (ms : Members) → are_one_members ms ms ≡ true
  members_themselves no_members = refl
  members_themselves (add_member k v ms) =
      and_from (text_eq k k && is_one v v) (are_one_members ms ms)
      (and_from (text_eq k k) (is_one v v) ((bytes_eq-Decides k k).1 refl) (itself v))
      (members_themselves ms)

pub identical_are : (a b : Option Json) → identical a b ≡ true → a ≡ b
identical_are None None h = refl
identical_are None (Some w) h = absurd cc
identical_are (Some v) None h = absurd cc
identical_are (Some v) (Some w) h = ap Some (one v w h)

with_itself : (a : Option Json) → identical a a ≡ true
with_itself None = refl
with_itself (Some v) = itself v

pub are_identical : (a b : Option Json) → a ≡ b → identical a b ≡ true
are_identical a b e = ap (identical a) (sym e) ∙ with_itself a
