-- Objects whose names rise are the same exactly where each name has equal values in both, or no value in
-- either.
use Rattle.std.proofs.Common.{◌≡◌, ◌⊎◌, inl, inr, Bool, true, false, ◌&&◌, cond, Option, Some, None, refl}
use Rattle.std.proofs.Common.{sym}
use Rattle.std.proofs.Common.{subst, Less, ◌∙◌, ap}
use Rattle.std.proofs.lemmas.Bool.{and_parts, and_from}
use Rattle.std.proofs.lemmas.Cmp.{nat_list_cmp_total}
use Rattle.std.proofs.lemmas.Slice.Eq.{bytes_eq-Decides}
use Rattle.std.specs.Ordering.{ordering_reverse}
use Rattle.std.specs.Prelude.{IsTrue, ◌↔◌, encode_utf8_all}
use Rattle.jp_doc.specs.Json.{Text, text_eq, text_cmp, Json, object, Members, no_members, add_member}
use Rattle.jp_doc.specs.Location.{member_at}
use Rattle.jp_doc.specs.Rising.{IsTextBelow, IsBelow, MembersRise}
use Rattle.jp_value.specs.Comparison.{same, same_members, eq}

below_trans : (j k l : Text) → IsTextBelow j k → IsTextBelow k l → IsTextBelow j l
below_trans j k l p q = nat_list_cmp_total.trans (encode_utf8_all j) (encode_utf8_all k)
    (encode_utf8_all l) p q

not_below_itself : (k : Text) → IsTextBelow k k → ⊥
not_below_itself k p =
    let e : text_cmp k k ≡ ordering_reverse (text_cmp k k) =
    nat_list_cmp_total.antisymm (encode_utf8_all k) (encode_utf8_all k) in
    let f : Less ≡ ordering_reverse Less = sym p ∙ e ∙ ap ordering_reverse p in
    cc

-- a name that is found among the members is the first one's, or found among the others
found_at : (b : Bool) (j l : Text) (w : Json) (others : Option Json) (v : Json) → text_eq j l ≡ b
    → cond b (Some w) others ≡ Some v → ((j ≡ l) ⊎ (others ≡ Some v))
found_at true j l w others v is h = inl ((bytes_eq-Decides j l).0 is)
found_at false j l w others v is h = inr h

-- the names of the members are above a name that is below the first of them
above_first : (k j l : Text) (others : Option Json) (v : Json) → IsTextBelow k l
    → (others ≡ Some v → IsTextBelow l j) → ((j ≡ l) ⊎ (others ≡ Some v)) → IsTextBelow k j
above_first k j l others v p later (inl e) = subst (λ x. IsTextBelow k x) (sym e) p
above_first k j l others v p later (inr h) = below_trans k l j p (later h)

names_above : (k : Text) (ms : Members) → IsBelow k ms → MembersRise ms → (j : Text) (v : Json)
    → member_at j ms ≡ Some v → IsTextBelow k j
names_above k no_members p r j v h = absurd cc
names_above k (add_member l w ms) p r j v h =
    above_first k j l (member_at j ms) v p (names_above l ms r.1 r.2 j v)
    (found_at (text_eq j l) j l w (member_at j ms) v refl h)

eq_some : (v : Json) (o : Option Json) → IsTrue (eq (Some v) o) → (w : Json) × (o ≡ Some w)
eq_some v None h = absurd cc
eq_some v (Some w) h = (w, refl)

some_eq : (o : Option Json) (w : Json) → IsTrue (eq o (Some w)) → (v : Json) × (o ≡ Some v)
some_eq None w h = absurd cc
some_eq (Some v) w h = (v, refl)

-- the first of the members has its value by its name
first_found : (l : Text) (w : Json) (ms : Members) → member_at l (add_member l w ms) ≡ Some w
first_found l w ms = ap (λ b. cond b (Some w) (member_at l ms)) ((bytes_eq-Decides l l).1 refl)

-- another name than the first one's is looked for among the others
other_found : (j l : Text) (w : Json) (ms : Members) → text_eq j l ≡ false
    → member_at j (add_member l w ms) ≡ member_at j ms
other_found j l w ms is = ap (λ b. cond b (Some w) (member_at j ms)) is

-- a name that is below the first of the members is not among them
not_found : (k : Text) (ms : Members) → IsBelow k ms → MembersRise ms → (o : Option Json)
    → member_at k ms ≡ o → o ≡ None
not_found k ms p r None is = refl
not_found k ms p r (Some v) is = absurd (not_below_itself k (names_above k ms p r k v is))

module _ (k l : Text) (v w : Json) (ms ns : Members) (rising : MembersRise (add_member k v ms))
    (others_rise : MembersRise (add_member l w ns))
    (by_name : (j : Text)
    → IsTrue (eq (member_at j (add_member k v ms)) (member_at j (add_member l w ns)))) where
  -- were the second first name not the first one, each would be below the other
  first_among_others : text_eq k l ≡ false → IsTextBelow l k
  first_among_others is =
      let here : IsTrue (eq (Some v) (member_at k ns)) = subst (λ o. IsTrue (eq o (member_at k ns)))
      (first_found k v ms)
      (subst (λ o. IsTrue (eq (member_at k (add_member k v ms)) o)) (other_found k l w ns is)
      (by_name k)) in
      let found = eq_some v (member_at k ns) here in
      names_above l ns others_rise.1 others_rise.2 k found.0 found.1

  second_among_others : text_eq l k ≡ false → IsTextBelow k l
  second_among_others is =
      let here : IsTrue (eq (member_at l ms) (Some w)) = subst (λ o. IsTrue (eq o (Some w)))
      (other_found l k v ms is)
      (subst (λ o. IsTrue (eq (member_at l (add_member k v ms)) o)) (first_found l w ns) (by_name l)) in
      let found = some_eq (member_at l ms) w here in
      names_above k ms rising.1 rising.2 l found.0 found.1

  same_first_at : (b c : Bool) → text_eq k l ≡ b → text_eq l k ≡ c → k ≡ l
  same_first_at true c is is' = (bytes_eq-Decides k l).0 is
  same_first_at false true is is' = sym ((bytes_eq-Decides l k).0 is')
  same_first_at false false is is' =
      absurd (not_below_itself k (below_trans k l k (second_among_others is') (first_among_others is)))

  same_first : k ≡ l
  same_first = same_first_at (text_eq k l) (text_eq l k) refl refl

module _ (k : Text) (v w : Json) (ms ns : Members) (rising : MembersRise (add_member k v ms))
    (others_rise : MembersRise (add_member k w ns))
    (by_name : (j : Text)
    → IsTrue (eq (member_at j (add_member k v ms)) (member_at j (add_member k w ns)))) where
  same_value : same v w ≡ true
  same_value = subst (λ o. IsTrue (eq o (Some w))) (first_found k v ms)
      (subst (λ o. IsTrue (eq (member_at k (add_member k v ms)) o)) (first_found k w ns) (by_name k))

  others_by_name_at : (j : Text) (b : Bool) → text_eq j k ≡ b
      → IsTrue (eq (member_at j ms) (member_at j ns))
  others_by_name_at j true is =
      let e : j ≡ k = (bytes_eq-Decides j k).0 is in
      let none : member_at j ms ≡ None = subst (λ i. member_at i ms ≡ None) (sym e)
      (not_found k ms rising.1 rising.2 (member_at k ms) refl) in
      let none' : member_at j ns ≡ None = subst (λ i. member_at i ns ≡ None) (sym e)
      (not_found k ns others_rise.1 others_rise.2 (member_at k ns) refl) in
      rw (none, none')
  others_by_name_at j false is =
      subst (λ o. IsTrue (eq o (member_at j ns))) (other_found j k v ms is)
      (subst (λ o. IsTrue (eq (member_at j (add_member k v ms)) o)) (other_found j k w ns is) (by_name j))

  others_by_name : (j : Text) → IsTrue (eq (member_at j ms) (member_at j ns))
  others_by_name j = others_by_name_at j (text_eq j k) refl

same_by_name : (ms ns : Members) → MembersRise ms → MembersRise ns
    → ((j : Text) → IsTrue (eq (member_at j ms) (member_at j ns))) → same_members ms ns ≡ true
same_by_name no_members no_members r s f = refl
same_by_name no_members (add_member l w ns) r s f =
    let here : IsTrue (eq None (Some w)) = subst (λ o. IsTrue (eq None o)) (first_found l w ns) (f l) in
    absurd cc
same_by_name (add_member k v ms) no_members r s f =
    let here : IsTrue (eq (Some v) None) = subst (λ o. IsTrue (eq o None)) (first_found k v ms) (f k) in
    absurd cc
same_by_name (add_member k v ms) (add_member l w ns) r s f =
    let e : k ≡ l = same_first k l v w ms ns r s f in
    let s' : MembersRise (add_member k w ns) = subst (λ x. MembersRise (add_member x w ns)) (sym e) s in
    let f' : (j : Text) → IsTrue (eq (member_at j (add_member k v ms)) (member_at j (add_member k w ns)))
    =
    subst (λ x. (j : Text)
    → IsTrue (eq (member_at j (add_member k v ms)) (member_at j (add_member x w ns)))) (sym e) f in
    and_from (text_eq k l && same v w) (same_members ms ns)
    (and_from (text_eq k l) (same v w) ((bytes_eq-Decides k l).1 e) (same_value k v w ms ns r s' f'))
    (same_by_name ms ns r.2 s'.2 (others_by_name k v w ms ns r s' f'))

either_same : (b : Bool) (v w : Json) (o p : Option Json) → same v w ≡ true → IsTrue (eq o p)
    → IsTrue (eq (cond b (Some v) o) (cond b (Some w) p))
either_same true v w o p h g = h
either_same false v w o p h g = g

-- equal objects have equal values by each name
same_at : (k : Text) (ms ns : Members) → same_members ms ns ≡ true
    → IsTrue (eq (member_at k ms) (member_at k ns))
same_at k no_members no_members h = refl
same_at k no_members (add_member l w ns) h = absurd cc
same_at k (add_member j v ms) no_members h = absurd cc
same_at k (add_member j v ms) (add_member l w ns) h =
    let p = and_parts (text_eq j l && same v w) (same_members ms ns) h in
    let q = and_parts (text_eq j l) (same v w) p.0 in
    let e : j ≡ l = (bytes_eq-Decides j l).0 q.0 in
    subst (λ i. IsTrue (eq (cond (text_eq k i) (Some v) (member_at k ms)) (member_at k (add_member l w ns))))
    (sym e)
    (either_same (text_eq k l) v w (member_at k ms) (member_at k ns) q.1 (same_at k ms ns p.1))

pub objects_by_name : (ms ns : Members) → MembersRise ms → MembersRise ns
    → IsTrue (eq (Some (object ms)) (Some (object ns)))
    ↔ ((k : Text) → IsTrue (eq (member_at k ms) (member_at k ns)))
objects_by_name ms ns r s = (λ h k. same_at k ms ns h, λ f. same_by_name ms ns r s f)
