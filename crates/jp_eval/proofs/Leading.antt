-- Every node that is listed stands where its location leads.
use Rattle.std.proofs.Common.{◌≡◌, ℕ, suc, ◌+◌, Bool, true, false, cond, List, [], ◌∷◌, ◌++◌, Option}
use Rattle.std.proofs.Common.{Some, refl, ap, sym, ◌∙◌, subst, add-zero, zero-add, arith}
use Rattle.std.specs.Prelude.{option_and_then, encode_utf8_all}
use Rattle.std.specs.List.{filter, flat_map, AllByRecursion}
use Rattle.std.specs.declared.cmp.Ordering.{Ordering}
use Rattle.std.specs.declared.cmp.Ordering.TheVariants.{Less, Equal, Greater}
use Rattle.std.specs.Ordering.{ordering_reverse}
use Rattle.std.specs.Cmp.Lexicographic.{nat_list_cmp_total}
use Rattle.std.proofs.lemmas.Slice.Eq.{bytes_eq-Decides}
use Rattle.std.proofs.lemmas.Option.{same_Some}
use Rattle.jp_doc.specs.Json.{Text, text_eq, text_cmp, Json, null, truth, number, text, array, object}
use Rattle.jp_doc.specs.Json.{Items, no_items, add_item, Members, no_members, add_member}
use Rattle.jp_doc.specs.Location.{Step, name, index, Location, Node, node, value_at, child_at, member_at}
use Rattle.jp_doc.specs.Location.{item_at}
use Rattle.jp_doc.specs.Rising.{IsRising, ItemsRise, MembersRise, IsBelow}
use Rattle.jp_doc.proofs.LocationLaws.{value_at_both}
use Rattle.jp_node.specs.Nodes.{item_nodes, member_nodes, children_at, children, descendants_at}
use Rattle.jp_node.specs.Nodes.{items_descendants, members_descendants, descendants}

-- the node stands where its location leads, and the names in its value rise
pub record Leads (root : Json) (n : Node) : Type 0 where
  pub there : value_at n.location root ≡ Some n.value
  pub rises : IsRising n.value

pub all_of_both : {X : Type 0} (P : X → Type 0) (xs ys : List X) → AllByRecursion P xs
    → AllByRecursion P ys → AllByRecursion P (xs ++ ys)
all_of_both P [] ys h g = g
all_of_both P (x ∷ xs) ys h g = (h.0, all_of_both P xs ys h.1 g)

kept : {X : Type 0} (P : X → Type 0) (test : X → Bool) (b : Bool) (x : X) (xs : List X) → P x
    → AllByRecursion P (filter test xs) → AllByRecursion P (cond b (x ∷ filter test xs) (filter test xs))
kept P test true x xs h g = (h, g)
kept P test false x xs h g = g

pub all_filtered : {X : Type 0} (P : X → Type 0) (test : X → Bool) (xs : List X) → AllByRecursion P xs
    → AllByRecursion P (filter test xs)
all_filtered P test [] h = tt
all_filtered P test (x ∷ xs) h = kept P test (test x) x xs h.0 (all_filtered P test xs h.1)

pub all_mapped : {X Y : Type 0} (P : X → Type 0) (Q : Y → Type 0) (f : X → List Y)
    → ((x : X) → P x → AllByRecursion Q (f x)) → (xs : List X) → AllByRecursion P xs
    → AllByRecursion Q (flat_map f xs)
all_mapped P Q f each [] h = tt
all_mapped P Q f each (x ∷ xs) h = all_of_both Q (f x) (flat_map f xs) (each x h.0)
    (all_mapped P Q f each xs h.1)

-- Names.

both_less : (o : Ordering) → o ≡ Less → o ≡ ordering_reverse o → ⊥
both_less Less h e = absurd cc
both_less Equal h e = absurd cc
both_less Greater h e = absurd cc

never_below_itself : (k : Text) → text_cmp k k ≡ Less → ⊥
never_below_itself k h = both_less (text_cmp k k) h (nat_list_cmp_total.antisymm (encode_utf8_all k)
    (encode_utf8_all k))

below_further : (k l : Text) (ms : Members) → text_cmp k l ≡ Less → IsBelow l ms → IsBelow k ms
below_further k l no_members h g = tt
below_further k l (add_member m v ms) h g = nat_list_cmp_total.trans _ (encode_utf8_all l) _ h g

-- the name that is looked for is the first one, or else one of the others
pub by_name : {P : Type 0} (l m : Text) (v w : Json) (other : Option Json) (same : Bool)
    → (same ≡ true → l ≡ m) → cond same (Some w) other ≡ Some v → (l ≡ m → w ≡ v → P)
    → (other ≡ Some v → P) → P
by_name l m v w other true e h here there = here (e refl) (same_Some w v h)
by_name l m v w other false e h here there = there h

below_found : (k l : Text) (v : Json) (ms : Members) → IsBelow k ms → MembersRise ms
    → member_at l ms ≡ Some v → text_cmp k l ≡ Less
below_found k l v no_members b r h = absurd cc
below_found k l v (add_member m w ms) b r h =
    by_name l m v w (member_at l ms) (text_eq l m) (bytes_eq-Decides l m).0 h
    (λ e d. subst (λ n. text_cmp k n ≡ Less) (sym e) b)
    (λ g. below_found k l v ms (below_further k m ms b r.1) r.2 g)

not_first_by : (same : Bool) (k l : Text) (w : Json) (other : Option Json) (v : Json)
    → (same ≡ true → l ≡ k) → text_cmp k l ≡ Less → other ≡ Some v → cond same (Some w) other ≡ Some v
not_first_by true k l w other v e below h =
    absurd (never_below_itself k (subst (λ n. text_cmp k n ≡ Less) (e refl) below))
not_first_by false k l w other v e below h = h

-- the members of an object from some member on are found in the object
abbrev Finds : Members → Members → Type 0
Finds ms others = (l : Text) (v : Json) → member_at l ms ≡ Some v → member_at l others ≡ Some v

-- the name of the first member is no other's
not_first : (k l : Text) (v w : Json) (ms : Members) → IsBelow k ms → MembersRise ms
    → member_at l ms ≡ Some v → member_at l (add_member k w ms) ≡ Some v
not_first k l v w ms b r h = not_first_by (text_eq l k) k l w (member_at l ms) v (bytes_eq-Decides l k).0
    (below_found k l v ms b r h) h

found_first : (k : Text) (v : Json) (ms : Members) → member_at k (add_member k v ms) ≡ Some v
found_first k v ms = rw ((bytes_eq-Decides k k).1 refl) refl

next_index : (i j : ℕ) → (i + 1) + j ≡ i + suc j
next_index i j = omega arith

module _ (root : Json) where
  further : (at : Location) (v w : Json) (s : Step) → value_at at root ≡ Some v → child_at s v ≡ Some w
      → value_at (at ++ s ∷ []) root ≡ Some w
  further at v w s h g = value_at_both at (s ∷ []) root ∙ ap (λ o. option_and_then (value_at (s ∷ [])) o)
      h ∙ ap (λ o. option_and_then (value_at []) o) g

  pub leads_to : (at : Location) (v w : Json) (s : Step) → value_at at root ≡ Some v
      → child_at s v ≡ Some w → IsRising w → Leads root (node (at ++ s ∷ []) w)
  leads_to at v w s h g r = record { there = further at v w s h g; rises = r }

  items_lead : (at : Location) (vs : Items) → value_at at root ≡ Some (array vs) → (i : ℕ) (rest : Items)
      → ((j : ℕ) → item_at (i + j) vs ≡ item_at j rest) → ItemsRise rest
      → AllByRecursion (Leads root) (item_nodes at i rest)
  items_lead at vs h i no_items same r = tt
  items_lead at vs h i (add_item v rest) same r = (
    leads_to at (array vs) v (index i) h (ap (λ n. item_at n vs) (sym (add-zero i)) ∙ same 0) r.0,
    items_lead at vs h (i + 1) rest (λ j. ap (λ n. item_at n vs) (next_index i j) ∙ same (suc j)) r.1,
  )

  members_lead : (at : Location) (all : Members) → value_at at root ≡ Some (object all) → (ms : Members)
      → Finds ms all → MembersRise ms → AllByRecursion (Leads root) (member_nodes at ms)
  members_lead at all h no_members finds r = tt
  members_lead at all h (add_member k v ms) finds r = (
    leads_to at (object all) v (name k) h (finds k v (found_first k v ms)) r.0,
    members_lead at all h ms (λ l w g. finds l w (not_first k l w v ms r.1 r.2 g)) r.2,
  )

  children_lead_at : (at : Location) (v : Json) → value_at at root ≡ Some v → IsRising v
      → AllByRecursion (Leads root) (children_at at v)
  children_lead_at at null h r = tt
  children_lead_at at (truth b) h r = tt
  children_lead_at at (number x) h r = tt
  children_lead_at at (text s) h r = tt
  children_lead_at at (array vs) h r = items_lead at vs h 0 vs (λ j. ap (λ n. item_at n vs) (zero-add j))
      r
  children_lead_at at (object ms) h r = members_lead at ms h ms (λ l w g. g) r

  pub children_lead : (n : Node) → Leads root n → AllByRecursion (Leads root) (children n)
  children_lead n l = children_lead_at n.location n.value l.there l.rises

  mutual
    descendants_lead_at : (at : Location) (v : Json) → value_at at root ≡ Some v → IsRising v
        → AllByRecursion (Leads root) (descendants_at at v)
    descendants_lead_at at null h r = (record { there = h; rises = r }, tt)
    descendants_lead_at at (truth b) h r = (record { there = h; rises = r }, tt)
    descendants_lead_at at (number x) h r = (record { there = h; rises = r }, tt)
    descendants_lead_at at (text s) h r = (record { there = h; rises = r }, tt)
    descendants_lead_at at (array vs) h r = (
      record { there = h; rises = r },
      items_descendants_lead at 0 vs
          (items_lead at vs h 0 vs (λ j. ap (λ n. item_at n vs) (zero-add j)) r),
    )
    descendants_lead_at at (object ms) h r = (
      record { there = h; rises = r },
      members_descendants_lead at ms
          (members_lead at ms h ms (λ l w g. g) r),
    )

    items_descendants_lead : (at : Location) (i : ℕ) (vs : Items)
        → AllByRecursion (Leads root) (item_nodes at i vs)
        → AllByRecursion (Leads root) (items_descendants at i vs)
    items_descendants_lead at i no_items l = tt
    items_descendants_lead at i (add_item v vs) l =
        all_of_both (Leads root) (descendants_at (at ++ index i ∷ []) v) (items_descendants at (i + 1) vs)
        (descendants_lead_at (at ++ index i ∷ []) v l.0.there l.0.rises)
        (items_descendants_lead at (i + 1) vs l.1)

    members_descendants_lead : (at : Location) (ms : Members)
        → AllByRecursion (Leads root) (member_nodes at ms)
        → AllByRecursion (Leads root) (members_descendants at ms)
    members_descendants_lead at no_members l = tt
    members_descendants_lead at (add_member k v ms) l =
        all_of_both (Leads root) (descendants_at (at ++ name k ∷ []) v) (members_descendants at ms)
        (descendants_lead_at (at ++ name k ∷ []) v l.0.there l.0.rises)
        (members_descendants_lead at ms l.1)

  pub descendants_lead : (n : Node) → Leads root n → AllByRecursion (Leads root) (descendants n)
  descendants_lead n l = descendants_lead_at n.location n.value l.there l.rises
