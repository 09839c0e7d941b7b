-- Members whose names rise: a name's value tells them, and those that are put together rise.
use Rattle.std.proofs.Common.{◌≡◌, Bool, true, false, List, [], ◌∷◌, Option, Some, None, Ordering, Less}
use Rattle.std.proofs.Common.{Equal, Greater}
use Rattle.std.proofs.Common.{is_eq, refl, sym, ap, ◌∙◌, subst, if◌then◌else◌}
use Rattle.std.proofs.lemmas.Cmp.{nat_list_cmp_total}
use Rattle.std.proofs.lemmas.Slice.Eq.{bytes_eq-Decides}
use Rattle.std.specs.Ordering.{match_ordering, ordering_reverse}
use Rattle.std.specs.Prelude.{encode_utf8_all}
use Rattle.json.proofs.Found.{Some_inj}
use Rattle.jp_doc.specs.Json.{Text, text_cmp, text_eq, Json, Members, no_members, add_member}
use Rattle.jp_doc.specs.Location.{member_at}
use Rattle.jp_doc.specs.Rising.{IsTextBelow}
use Rattle.jp_doc.specs.Tree.{put_member}
use Rattle.jp_flat.specs.Gathered.{AreAbove, NamesRise}
use Rattle.jp_flat.specs.Members.{put_all, last_of}
use Rattle.jp_flat.proofs.Entries.{by_order, same_text, last_found}

pub below_trans : (j k l : Text) → IsTextBelow j k → IsTextBelow k l → IsTextBelow j l
below_trans j k l p q =
    nat_list_cmp_total.trans (encode_utf8_all j) (encode_utf8_all k) (encode_utf8_all l) p q

pub turned : (k l : Text) → text_cmp k l ≡ Greater → IsTextBelow l k
turned k l e = nat_list_cmp_total.antisymm (encode_utf8_all l) (encode_utf8_all k) ∙ ap ordering_reverse e

pub same : (k l : Text) → text_cmp k l ≡ Equal → k ≡ l
same k l e = (bytes_eq-Decides k l).0 (sym (by_order k l) ∙ ap is_eq e)

pub above : (k l : Text) → IsTextBelow k l → text_cmp l k ≡ Greater
above k l p = nat_list_cmp_total.antisymm (encode_utf8_all l) (encode_utf8_all k) ∙ ap ordering_reverse p

apart : (k l : Text) → IsTextBelow k l → text_eq k l ≡ false
apart k l p = sym (by_order k l) ∙ ap is_eq p

pub above_below : (k l : Text) (ms : Members) → IsTextBelow k l → AreAbove l ms → AreAbove k ms
above_below k l no_members p q = tt
above_below k l (add_member j v ms) p q = (below_trans k l j p q.0, above_below k l ms p q.1)

-- a name that is below all is not found
pub absent : (k : Text) (ms : Members) → AreAbove k ms → member_at k ms ≡ None
absent k no_members h = refl
absent k (add_member l v ms) h =
    ap (λ b. if b then Some v else member_at k ms) (apart k l h.0) ∙ absent k ms h.1

-- ---- what is put together rises

above_at : (o : Ordering) (m k l : Text) (v w : Json) (ms : Members) → IsTextBelow m k
    → AreAbove m (add_member l w ms) → AreAbove m (put_member k v ms)
    → AreAbove m (match_ordering o (add_member k v (add_member l w ms)) (add_member l v ms)
    (add_member l w (put_member k v ms)))
above_at Less m k l v w ms p q later = (p, q)
above_at Equal m k l v w ms p q later = q
above_at Greater m k l v w ms p q later = (q.0, later)

above_put : (m k : Text) (v : Json) (ms : Members) → IsTextBelow m k → AreAbove m ms
    → AreAbove m (put_member k v ms)
above_put m k v no_members p q = (p, tt)
above_put m k v (add_member l w ms) p q =
    above_at (text_cmp k l) m k l v w ms p q (above_put m k v ms p q.1)

rise_at : (o : Ordering) (k l : Text) (v w : Json) (ms : Members) → text_cmp k l ≡ o
    → NamesRise (add_member l w ms) → NamesRise (put_member k v ms)
    → NamesRise (match_ordering o (add_member k v (add_member l w ms)) (add_member l v ms)
    (add_member l w (put_member k v ms)))
rise_at Less k l v w ms e h later = ((e, above_below k l ms e h.0), h)
rise_at Equal k l v w ms e h later = h
rise_at Greater k l v w ms e h later = (above_put l k v ms (turned k l e) h.0, later)

pub rise_put : (k : Text) (v : Json) (ms : Members) → NamesRise ms → NamesRise (put_member k v ms)
rise_put k v no_members h = (tt, tt)
rise_put k v (add_member l w ms) h = rise_at (text_cmp k l) k l v w ms refl h (rise_put k v ms h.1)

pub all_rise : (es : List (Text × Json)) (ms : Members) → NamesRise ms → NamesRise (put_all es ms)
all_rise [] ms h = h
all_rise (e ∷ es) ms h = all_rise es (put_member e.0 e.1 ms) (rise_put e.0 e.1 ms h)

-- ---- members that rise are the same where each name has the same value

abbrev Alike : Members → Members → Type 0
Alike a b = (q : Text) → member_at q a ≡ member_at q b

first_found : (k : Text) (v : Json) (ms : Members) → member_at k (add_member k v ms) ≡ Some v
first_found k v ms = ap (λ b. if b then Some v else member_at k ms) (same_text k)

not_there : {v : Json} → ◌≡◌ {A = Option Json} (Some v) None → ⊥
not_there e = absurd cc

-- the first name of one is the first of the other
no_lower : (k l : Text) (v w : Json) (a b : Members) → IsTextBelow k l → NamesRise (add_member l w b)
    → member_at k (add_member k v a) ≡ member_at k (add_member l w b) → ⊥
no_lower k l v w a b p h e =
    not_there (sym (first_found k v a) ∙ e ∙ absent k (add_member l w b) (p, above_below k l b p h.0))

rest_at : (c : Bool) (q k : Text) (v w : Json) (a b : Members) → text_eq q k ≡ c → AreAbove k a → AreAbove k b
    → (if c then Some v else member_at q a) ≡ (if c then Some w else member_at q b)
    → member_at q a ≡ member_at q b
rest_at true q k v w a b e p r h =
    let is : q ≡ k = (bytes_eq-Decides q k).0 e in
    subst (λ x. member_at x a ≡ member_at x b) (sym is) (absent k a p ∙ sym (absent k b r))
rest_at false q k v w a b e p r h = h

rest_alike : (k : Text) (v w : Json) (a b : Members) → AreAbove k a → AreAbove k b
    → Alike (add_member k v a) (add_member k w b) → Alike a b
rest_alike k v w a b p r h q = rest_at (text_eq q k) q k v w a b refl p r (h q)

same_at : (o : Ordering) (k l : Text) (v w : Json) (a b : Members) → text_cmp k l ≡ o
    → NamesRise (add_member k v a) → NamesRise (add_member l w b)
    → Alike (add_member k v a) (add_member l w b) → (Alike a b → a ≡ b) → add_member k v a ≡ add_member l w b
same_at Less k l v w a b e p r h others = absurd (no_lower k l v w a b e r (h k))
same_at Greater k l v w a b e p r h others = absurd (no_lower l k w v b a (turned k l e) p (sym (h l)))
same_at Equal k l v w a b e p r h others =
    let is = same k l e in
    let again = subst (λ x. Alike (add_member k v a) (add_member x w b)) (sym is) h in
    let above = subst (λ x. AreAbove x b) (sym is) r.0 in
    let value : v ≡ w = Some_inj v w (sym (first_found k v a) ∙ again k ∙ first_found k w b) in
    let rest = others (rest_alike k v w a b p.0 above again) in
    ap (λ x. add_member k x a) value ∙ ap (add_member k w) rest ∙ ap (λ x. add_member x w b) is

same_members : (a b : Members) → NamesRise a → NamesRise b → Alike a b → a ≡ b
same_members no_members no_members p r h = refl
same_members no_members (add_member l w b) p r h = absurd (not_there (sym (first_found l w b) ∙ sym (h l)))
same_members (add_member k v a) no_members p r h = absurd (not_there (sym (first_found k v a) ∙ h k))
same_members (add_member k v a) (add_member l w b) p r h =
    same_at (text_cmp k l) k l v w a b refl p r h (same_members a b p.1 r.1)

-- members that rise, and in which each name has the value of its last entry, are those put together
pub put_together : (ms : Members) (es : List (Text × Json)) → NamesRise ms
    → ((q : Text) → member_at q ms ≡ last_of q es None) → ms ≡ put_all es no_members
put_together ms es rise h =
    same_members ms (put_all es no_members) rise (all_rise es no_members tt)
    (λ q. h q ∙ sym (last_found q es no_members))
