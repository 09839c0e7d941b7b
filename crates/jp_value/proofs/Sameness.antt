-- Deep equality is an equivalence, and equality where all numbers are whole.
use Rattle.std.proofs.Common.{◌≡◌, ◌∙◌, Bool, true, false, ◌&&◌, refl, sym, ap, ap₂, subst}
use Rattle.std.specs.Prelude.{IsTrue, ◌↔◌, Option, Some, None}
use Rattle.std.specs.Cmp.{IsEquivalence}
use Rattle.std.proofs.lemmas.Bool.{and_parts, and_from}
use Rattle.std.proofs.lemmas.Bool.Decides.{Decides-int_eq}
use Rattle.std.proofs.lemmas.Cmp.{nat_list_eq_equiv}
use Rattle.std.proofs.lemmas.Slice.Eq.{bytes_eq-Decides}
use Rattle.jp_doc.specs.Json.{text_eq, Json, null, truth, number, text, array, object, Items, no_items}
use Rattle.jp_doc.specs.Json.{add_item, Members, no_members, add_member}
use Rattle.jp_doc.specs.NumbersWithin.{IsWhole, AllNumbersOfItems, AllNumbersOfMembers, HasWholeNumbers}
use Rattle.jp_number.specs.Number.{Number, whole, written, is_equal}
use Rattle.jp_number.proofs.Order.{equality, whole_equal}
use Rattle.jp_value.specs.Comparison.{truth_eq, same, same_items, same_members, eq}

-- an equivalence

numbers : IsEquivalence is_equal
numbers = equality

texts : IsEquivalence text_eq
texts = nat_list_eq_equiv

truths_turn : (a b : Bool) → truth_eq a b ≡ truth_eq b a
truths_turn true true = refl
truths_turn true false = refl
truths_turn false true = refl
truths_turn false false = refl

truths_alike : (a b c : Bool) → truth_eq a b ≡ true → truth_eq a c ≡ truth_eq b c
truths_alike true true c h = refl
truths_alike true false c h = absurd cc
truths_alike false true c h = absurd cc
truths_alike false false c h = refl

mutual
  pub self_same : (v : Json) → same v v ≡ true
  self_same null = refl
  self_same (truth true) = refl
  self_same (truth false) = refl
  self_same (number x) = numbers.refl x
  self_same (text s) = texts.refl s
  self_same (array vs) = items_self_same vs
  self_same (object ms) = members_self_same ms

  items_self_same : (vs : Items) → same_items vs vs ≡ true
  items_self_same no_items = refl
  items_self_same (add_item v vs) = and_from (same v v) (same_items vs vs) (self_same v) (items_self_same vs)

  pub members_self_same : (ms : Members) → same_members ms ms ≡ true
  members_self_same no_members = refl
  members_self_same (add_member k v ms) =
      and_from (text_eq k k && same v v) (same_members ms ms)
      (and_from (text_eq k k) (same v v) (texts.refl k) (self_same v))
      (members_self_same ms)

mutual
  turn : (v w : Json) → same v w ≡ same w v
  turn null null = refl
  turn null (truth b) = refl
  turn null (number y) = refl
  turn null (text t) = refl
  turn null (array ws) = refl
  turn null (object ns) = refl
  turn (truth a) null = refl
  turn (truth a) (truth b) = truths_turn a b
  turn (truth a) (number y) = refl
  turn (truth a) (text t) = refl
  turn (truth a) (array ws) = refl
  turn (truth a) (object ns) = refl
  turn (number x) null = refl
  turn (number x) (truth b) = refl
  turn (number x) (number y) = numbers.symm x y
  turn (number x) (text t) = refl
  turn (number x) (array ws) = refl
  turn (number x) (object ns) = refl
  turn (text s) null = refl
  turn (text s) (truth b) = refl
  turn (text s) (number y) = refl
  turn (text s) (text t) = texts.symm s t
  turn (text s) (array ws) = refl
  turn (text s) (object ns) = refl
  turn (array vs) null = refl
  turn (array vs) (truth b) = refl
  turn (array vs) (number y) = refl
  turn (array vs) (text t) = refl
  turn (array vs) (array ws) = items_turn vs ws
  turn (array vs) (object ns) = refl
  turn (object ms) null = refl
  turn (object ms) (truth b) = refl
  turn (object ms) (number y) = refl
  turn (object ms) (text t) = refl
  turn (object ms) (array ws) = refl
  turn (object ms) (object ns) = members_turn ms ns

  items_turn : (vs ws : Items) → same_items vs ws ≡ same_items ws vs
  items_turn no_items no_items = refl
  items_turn no_items (add_item w ws) = refl
  items_turn (add_item v vs) no_items = refl
  items_turn (add_item v vs) (add_item w ws) = ap₂ (λ a b. a && b) (turn v w) (items_turn vs ws)

  pub members_turn : (ms ns : Members) → same_members ms ns ≡ same_members ns ms
  members_turn no_members no_members = refl
  members_turn no_members (add_member l w ns) = refl
  members_turn (add_member k v ms) no_members = refl
  members_turn (add_member k v ms) (add_member l w ns) =
      ap₂ (λ a b. a && b) (ap₂ (λ a b. a && b) (texts.symm k l) (turn v w)) (members_turn ms ns)

mutual
  alike : (v w u : Json) → same v w ≡ true → same v u ≡ same w u
  alike null null null h = refl
  alike null null (truth c) h = refl
  alike null null (number z) h = refl
  alike null null (text q) h = refl
  alike null null (array us) h = refl
  alike null null (object ls) h = refl
  alike null (truth b) u h = absurd cc
  alike null (number y) u h = absurd cc
  alike null (text t) u h = absurd cc
  alike null (array ws) u h = absurd cc
  alike null (object ns) u h = absurd cc
  alike (truth a) null u h = absurd cc
  alike (truth a) (truth b) null h = refl
  alike (truth a) (truth b) (truth c) h = truths_alike a b c h
  alike (truth a) (truth b) (number z) h = refl
  alike (truth a) (truth b) (text q) h = refl
  alike (truth a) (truth b) (array us) h = refl
  alike (truth a) (truth b) (object ls) h = refl
  alike (truth a) (number y) u h = absurd cc
  alike (truth a) (text t) u h = absurd cc
  alike (truth a) (array ws) u h = absurd cc
  alike (truth a) (object ns) u h = absurd cc
  alike (number x) null u h = absurd cc
  alike (number x) (truth b) u h = absurd cc
  alike (number x) (number y) null h = refl
  alike (number x) (number y) (truth c) h = refl
  alike (number x) (number y) (number z) h = numbers.congr x y z h
  alike (number x) (number y) (text q) h = refl
  alike (number x) (number y) (array us) h = refl
  alike (number x) (number y) (object ls) h = refl
  alike (number x) (text t) u h = absurd cc
  alike (number x) (array ws) u h = absurd cc
  alike (number x) (object ns) u h = absurd cc
  alike (text s) null u h = absurd cc
  alike (text s) (truth b) u h = absurd cc
  alike (text s) (number y) u h = absurd cc
  alike (text s) (text t) null h = refl
  alike (text s) (text t) (truth c) h = refl
  alike (text s) (text t) (number z) h = refl
  alike (text s) (text t) (text q) h = texts.congr s t q h
  alike (text s) (text t) (array us) h = refl
  alike (text s) (text t) (object ls) h = refl
  alike (text s) (array ws) u h = absurd cc
  alike (text s) (object ns) u h = absurd cc
  alike (array vs) null u h = absurd cc
  alike (array vs) (truth b) u h = absurd cc
  alike (array vs) (number y) u h = absurd cc
  alike (array vs) (text t) u h = absurd cc
  alike (array vs) (array ws) null h = refl
  alike (array vs) (array ws) (truth c) h = refl
  alike (array vs) (array ws) (number z) h = refl
  alike (array vs) (array ws) (text q) h = refl
  alike (array vs) (array ws) (array us) h = items_alike vs ws us h
  alike (array vs) (array ws) (object ls) h = refl
  alike (array vs) (object ns) u h = absurd cc
  alike (object ms) null u h = absurd cc
  alike (object ms) (truth b) u h = absurd cc
  alike (object ms) (number y) u h = absurd cc
  alike (object ms) (text t) u h = absurd cc
  alike (object ms) (array ws) u h = absurd cc
  alike (object ms) (object ns) null h = refl
  alike (object ms) (object ns) (truth c) h = refl
  alike (object ms) (object ns) (number z) h = refl
  alike (object ms) (object ns) (text q) h = refl
  alike (object ms) (object ns) (array us) h = refl
  alike (object ms) (object ns) (object ls) h = members_alike ms ns ls h

  items_alike : (vs ws us : Items) → same_items vs ws ≡ true → same_items vs us ≡ same_items ws us
  items_alike no_items no_items us h = refl
  items_alike no_items (add_item w ws) us h = absurd cc
  items_alike (add_item v vs) no_items us h = absurd cc
  items_alike (add_item v vs) (add_item w ws) no_items h = refl
  items_alike (add_item v vs) (add_item w ws) (add_item u us) h =
      let p = and_parts (same v w) (same_items vs ws) h in
      ap₂ (λ a b. a && b) (alike v w u p.0) (items_alike vs ws us p.1)

  members_alike : (ms ns ls : Members) → same_members ms ns ≡ true
      → same_members ms ls ≡ same_members ns ls
  members_alike no_members no_members ls h = refl
  members_alike no_members (add_member l w ns) ls h = absurd cc
  members_alike (add_member k v ms) no_members ls h = absurd cc
  members_alike (add_member k v ms) (add_member l w ns) no_members h = refl
  members_alike (add_member k v ms) (add_member l w ns) (add_member j u ls) h =
      let p = and_parts (text_eq k l && same v w) (same_members ms ns) h in
      let q = and_parts (text_eq k l) (same v w) p.0 in
      ap₂ (λ a b. a && b) (ap₂ (λ a b. a && b) (texts.congr k l j q.0) (alike v w u q.1))
      (members_alike ms ns ls p.1)

eq_self : (a : Option Json) → eq a a ≡ true
eq_self None = refl
eq_self (Some v) = self_same v

pub eq_turn : (a b : Option Json) → eq a b ≡ eq b a
eq_turn None None = refl
eq_turn None (Some w) = refl
eq_turn (Some v) None = refl
eq_turn (Some v) (Some w) = turn v w

eq_alike : (a b c : Option Json) → eq a b ≡ true → eq a c ≡ eq b c
eq_alike None None c h = refl
eq_alike None (Some w) c h = absurd cc
eq_alike (Some v) None c h = absurd cc
eq_alike (Some v) (Some w) None h = refl
eq_alike (Some v) (Some w) (Some u) h = alike v w u h

pub equivalence : IsEquivalence eq
equivalence = record { refl = eq_self; symm = eq_turn; congr = eq_alike }

-- equality where numbers are whole

pub truths : (a b : Bool) → truth_eq a b ≡ true → a ≡ b
truths true true h = refl
truths true false h = absurd cc
truths false true h = absurd cc
truths false false h = refl

whole_numbers : (x y : Number) → IsWhole x → IsWhole y → is_equal x y ≡ true → x ≡ y
whole_numbers (whole y) (whole z) p q h = ap whole ((Decides-int_eq y z).0 (sym (whole_equal y z) ∙ h))
whole_numbers (whole y) (written t) p q h = absurd q
whole_numbers (written s) y p q h = absurd p

mutual
  equal : (v w : Json) → HasWholeNumbers v → HasWholeNumbers w → same v w ≡ true → v ≡ w
  equal null null p q h = refl
  equal null (truth b) p q h = absurd cc
  equal null (number y) p q h = absurd cc
  equal null (text t) p q h = absurd cc
  equal null (array ws) p q h = absurd cc
  equal null (object ns) p q h = absurd cc
  equal (truth a) null p q h = absurd cc
  equal (truth a) (truth b) p q h = ap truth (truths a b h)
  equal (truth a) (number y) p q h = absurd cc
  equal (truth a) (text t) p q h = absurd cc
  equal (truth a) (array ws) p q h = absurd cc
  equal (truth a) (object ns) p q h = absurd cc
  equal (number x) null p q h = absurd cc
  equal (number x) (truth b) p q h = absurd cc
  equal (number x) (number y) p q h = ap number (whole_numbers x y p q h)
  equal (number x) (text t) p q h = absurd cc
  equal (number x) (array ws) p q h = absurd cc
  equal (number x) (object ns) p q h = absurd cc
  equal (text s) null p q h = absurd cc
  equal (text s) (truth b) p q h = absurd cc
  equal (text s) (number y) p q h = absurd cc
  equal (text s) (text t) p q h = ap text ((bytes_eq-Decides s t).0 h)
  equal (text s) (array ws) p q h = absurd cc
  equal (text s) (object ns) p q h = absurd cc
  equal (array vs) null p q h = absurd cc
  equal (array vs) (truth b) p q h = absurd cc
  equal (array vs) (number y) p q h = absurd cc
  equal (array vs) (text t) p q h = absurd cc
  equal (array vs) (array ws) p q h = ap array (equal_items vs ws p q h)
  equal (array vs) (object ns) p q h = absurd cc
  equal (object ms) null p q h = absurd cc
  equal (object ms) (truth b) p q h = absurd cc
  equal (object ms) (number y) p q h = absurd cc
  equal (object ms) (text t) p q h = absurd cc
  equal (object ms) (array ws) p q h = absurd cc
  equal (object ms) (object ns) p q h = ap object (equal_members ms ns p q h)

  equal_items : (vs ws : Items) → AllNumbersOfItems IsWhole vs → AllNumbersOfItems IsWhole ws
      → same_items vs ws ≡ true → vs ≡ ws
  equal_items no_items no_items p q h = refl
  equal_items no_items (add_item w ws) p q h = absurd cc
  equal_items (add_item v vs) no_items p q h = absurd cc
  equal_items (add_item v vs) (add_item w ws) p q h =
      let g = and_parts (same v w) (same_items vs ws) h in
      let e : v ≡ w = equal v w p.0 q.0 g.0 in
      let f : vs ≡ ws = equal_items vs ws p.1 q.1 g.1 in
      cc

  equal_members : (ms ns : Members) → AllNumbersOfMembers IsWhole ms → AllNumbersOfMembers IsWhole ns
      → same_members ms ns ≡ true → ms ≡ ns
  equal_members no_members no_members p q h = refl
  equal_members no_members (add_member l w ns) p q h = absurd cc
  equal_members (add_member k v ms) no_members p q h = absurd cc
  equal_members (add_member k v ms) (add_member l w ns) p q h =
      let g = and_parts (text_eq k l && same v w) (same_members ms ns) h in
      let i = and_parts (text_eq k l) (same v w) g.0 in
      let d : k ≡ l = (bytes_eq-Decides k l).0 i.0 in
      let e : v ≡ w = equal v w p.0 q.0 i.1 in
      let f : ms ≡ ns = equal_members ms ns p.1 q.1 g.1 in
      cc

pub same_is_equal : (v w : Json) → HasWholeNumbers v → HasWholeNumbers w → IsTrue (same v w) ↔ (v ≡ w)
same_is_equal v w p q = (equal v w p q, λ e. subst (λ x. same v x ≡ true) e (self_same v))
