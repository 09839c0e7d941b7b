-- A number that a search finds is in what the JSON crate reads: no later member of its name covers it.
use Rattle.std.proofs.Common.{◌≡◌, ℕ, zero, suc, Bool, true, false, ◌||◌, List, [], ◌∷◌, ◌++◌}
use Rattle.std.proofs.Common.{Option, Some, None, option_map, option_and_then, bytes_eq, refl, sym, ap, ◌∙◌}
use Rattle.std.proofs.Common.{subst, append_assoc, append-nil, nat_cmp, Ordering, Less, Equal, Greater, is_eq}
use Rattle.std.proofs.Common.{true≢false, if◌then◌else◌, ◌⊎◌, inl, inr}
use Rattle.std.proofs.lemmas.Map.Text.{is_eq-slice_cmp}
use Rattle.std.proofs.lemmas.Slice.Eq.{bytes_eq-Decides}
use Rattle.std.specs.Cmp.Lexicographic.{slice_cmp}
use Rattle.std.specs.Ordering.{match_ordering}
use Rattle.json.specs.Json as text
use Rattle.json.specs.Token.{Token}
use Rattle.json.specs.Tree.{json_tokens, items_tokens, members_tokens, HasNumbers, ItemsHaveNumbers}
use Rattle.json.specs.Tree.{MembersHaveNumbers}
use Rattle.json.proofs.Found.{not_found, Some_inj}
use Rattle.serde_json.specs.Data.{Num, unsigned, negative, float, Data, number, array}
use Rattle.serde_json.specs.Data.{object, Items, item, Members, no_members, member, put}
use Rattle.serde_json.specs.Read.{number_of, of_json, of_items, of_members}
use Rattle.serde_json.specs.Written.{has_float, items_have_float, members_have_float}
use Rattle.jp_flat.specs.inner.Decimals.{Place, place, search}
use Rattle.jp_flat.specs.inner.Decimals.{is_found, holds_decimal}
use Rattle.jp_flat.specs.inner.Plain.{is_whole_text}
use Rattle.jp_flat.specs.inner.Rows.{is_whole_number}
use Rattle.jp_flat.proofs.WholeTexts.{tells_row}

-- ---- a tree that has such a number which counts

-- no member has the name
abbrev IsLast : List ℕ → text.Members → Type 0
IsLast k text.no_members = Unit {0}
IsLast k (text.member l j ms) = (bytes_eq k l ≡ false) × IsLast k ms

abbrev mutual
  Has : text.Json → Type 0
  Has text.null = ⊥
  Has (text.boolean b) = ⊥
  Has (text.number s) = is_whole_text s ≡ false
  Has (text.string s) = ⊥
  Has (text.array js) = ItemsHave js
  Has (text.object ms) = MembersHave ms

  ItemsHave : text.Items → Type 0
  ItemsHave text.no_items = ⊥
  ItemsHave (text.item j js) = Has j ⊎ ItemsHave js

  MembersHave : text.Members → Type 0
  MembersHave text.no_members = ⊥
  MembersHave (text.member k j ms) = (Has j × IsLast k ms) ⊎ MembersHave ms

-- ---- a search that has found one passes over what stands beside it

abbrev beside : ℕ → List ℕ → List (List ℕ) → Place
beside n k ns = place (Some n) k ns

mutual
  past : (j : text.Json) (n : ℕ) (k : List ℕ) (ns : List (List ℕ)) (r : List Token)
      → search (json_tokens j ++ r) (beside n k ns) ≡ search r (beside n k ns)
  past text.null n k ns r = refl
  past (text.boolean b) n k ns r = refl
  past (text.number s) n k ns r = refl
  past (text.string s) n k ns r = refl
  past (text.array js) n k ns r = past_items js n k ns r
  past (text.object ms) n k ns r = past_members ms n k ns r

  past_items : (js : text.Items) (n : ℕ) (k : List ℕ) (ns : List (List ℕ)) (r : List Token)
      → search (items_tokens js ++ r) (beside (suc n) k ns) ≡ search r (beside n k ns)
  past_items text.no_items n k ns r = refl
  past_items (text.item j js) n k ns r =
      ap (λ ts. search ts (beside (suc n) k ns)) (append_assoc (json_tokens j) (items_tokens js) r)
      ∙ past j (suc n) k ns (items_tokens js ++ r) ∙ past_items js n k ns r

  past_members : (ms : text.Members) (n : ℕ) (k : List ℕ) (ns : List (List ℕ)) (r : List Token)
      → search (members_tokens ms ++ r) (beside (suc n) k ns) ≡ search r (beside n k ns)
  past_members text.no_members n k ns r = refl
  past_members (text.member l j ms) n k ns r =
      ap (λ ts. search ts (beside (suc n) k ns)) (append_assoc (json_tokens j) (members_tokens ms) r)
      ∙ past j (suc n) k ns (members_tokens ms ++ r) ∙ past_members ms n k ns r

-- the items that are left, where one before them was found
left_items : (js : text.Items) (l k : List ℕ) (ns : List (List ℕ)) (r : List Token)
    → search (items_tokens js ++ r) (beside zero l (k ∷ ns)) ≡ search r (beside zero k ns)
left_items text.no_items l k ns r = refl
left_items (text.item j js) l k ns r =
    ap (λ ts. search ts (beside zero l (k ∷ ns))) (append_assoc (json_tokens j) (items_tokens js) r)
    ∙ past j zero l (k ∷ ns) (items_tokens js ++ r) ∙ left_items js l k ns r

-- ---- what a search that finds one tells

-- from a value on, at this place
abbrev Finds : Option ℕ → List ℕ → List (List ℕ) → List Token → Type 0
Finds found k ns ts = is_found (search ts (place found k ns)) ≡ true

-- one that counts in what was passed, or one behind it
abbrev Told : Type 0 → List ℕ → List (List ℕ) → List Token → Type 0
Told Here k ns r = (Here × Finds (Some zero) k ns r) ⊎ Finds None k ns r

-- the same of members of which one before them was found
abbrev Kept : text.Members → List ℕ → List ℕ → List (List ℕ) → List Token → Type 0
Kept ms l k ns r = (IsLast l ms × Finds (Some zero) k ns r) ⊎ Told (MembersHave ms) k ns r

more_items : (j : text.Json) (js : text.Items) (k : List ℕ) (ns : List (List ℕ)) (r : List Token)
    → Told (ItemsHave js) k ns r → Told (ItemsHave (text.item j js)) k ns r
more_items j js k ns r (inl h) = inl (inr h.0, h.1)
more_items j js k ns r (inr h) = inr h

more_members : (l : List ℕ) (j : text.Json) (ms : text.Members) (k : List ℕ) (ns : List (List ℕ))
    (r : List Token)
    → Told (MembersHave ms) k ns r → Told (MembersHave (text.member l j ms)) k ns r
more_members l j ms k ns r (inl h) = inl (inr h.0, h.1)
more_members l j ms k ns r (inr h) = inr h

number_told : (b : Bool) (s k : List ℕ) (ns : List (List ℕ)) (r : List Token) → is_whole_text s ≡ b
    → is_found (search r (place (if b then None else Some zero) k ns)) ≡ true
    → Told (is_whole_text s ≡ false) k ns r
number_told true s k ns r e h = inr h
number_told false s k ns r e h = inl (e, h)

-- behind an item
after_item : (j : text.Json) (js : text.Items) (l k : List ℕ) (ns : List (List ℕ)) (r : List Token)
    → (Finds None l (k ∷ ns) (items_tokens js ++ r) → Told (ItemsHave js) k ns r)
    → Told (Has j) l (k ∷ ns) (items_tokens js ++ r) → Told (ItemsHave (text.item j js)) k ns r
after_item j js l k ns r others (inl h) = inl (inl h.0, ap is_found (sym (left_items js l k ns r)) ∙ h.1)
after_item j js l k ns r others (inr h) = more_items j js k ns r (others h)

-- a member that has one counts, where no later one has its name
counts : (m : List ℕ) (j : text.Json) (ms : text.Members) (k : List ℕ) (ns : List (List ℕ)) (r : List Token)
    → Has j → Kept ms m k ns r → Told (MembersHave (text.member m j ms)) k ns r
counts m j ms k ns r has (inl h) = inl (inl (has, h.0), h.1)
counts m j ms k ns r has (inr h) = more_members m j ms k ns r h

-- behind a member
after_member : (m : List ℕ) (j : text.Json) (ms : text.Members) (k : List ℕ) (ns : List (List ℕ))
    (r : List Token)
    → (Finds (Some zero) m (k ∷ ns) (members_tokens ms ++ r) → Kept ms m k ns r)
    → (Finds None m (k ∷ ns) (members_tokens ms ++ r) → Told (MembersHave ms) k ns r)
    → Told (Has j) m (k ∷ ns) (members_tokens ms ++ r) → Told (MembersHave (text.member m j ms)) k ns r
after_member m j ms k ns r kept others (inl h) = counts m j ms k ns r h.0 (kept h.1)
after_member m j ms k ns r kept others (inr h) = more_members m j ms k ns r (others h)

-- a member behind one that has one, which has another name
other_name : (l m : List ℕ) (j : text.Json) (ms : text.Members) (k : List ℕ) (ns : List (List ℕ))
    (r : List Token) → bytes_eq l m ≡ false → Kept ms l k ns r → Kept (text.member m j ms) l k ns r
other_name l m j ms k ns r e (inl h) = inl ((e, h.0), h.1)
other_name l m j ms k ns r e (inr h) = inr (more_members m j ms k ns r h)

kept_if : (b : Bool) (l m : List ℕ) (j : text.Json) (ms : text.Members) (k : List ℕ) (ns : List (List ℕ))
    (r : List Token) → bytes_eq l m ≡ b
    → (Finds (Some zero) l (k ∷ ns) (members_tokens ms ++ r) → Kept ms l k ns r)
    → (Finds None l (k ∷ ns) (members_tokens ms ++ r) → Told (MembersHave ms) k ns r)
    → (Finds None l (k ∷ ns) (json_tokens j ++ (members_tokens ms ++ r))
    → Told (Has j) l (k ∷ ns) (members_tokens ms ++ r))
    → Finds (if b then None else Some zero) l (k ∷ ns) (json_tokens j ++ (members_tokens ms ++ r))
    → Kept (text.member m j ms) l k ns r
kept_if true l m j ms k ns r e kept others one h =
    let same : l ≡ m = (bytes_eq-Decides l m).0 e in
    inr (subst (λ x. Told (MembersHave (text.member x j ms)) k ns r) same
    (after_member l j ms k ns r kept others (one h)))
kept_if false l m j ms k ns r e kept others one h =
    other_name l m j ms k ns r e
    (kept (ap is_found (sym (past j zero l (k ∷ ns) (members_tokens ms ++ r))) ∙ h))

mutual
  told : (j : text.Json) (k : List ℕ) (ns : List (List ℕ)) (r : List Token)
      → Finds None k ns (json_tokens j ++ r) → Told (Has j) k ns r
  told text.null k ns r h = inr h
  told (text.boolean b) k ns r h = inr h
  told (text.number s) k ns r h = number_told (is_whole_text s) s k ns r refl h
  told (text.string s) k ns r h = inr h
  told (text.array js) k ns r h = items_told js [] k ns r h
  told (text.object ms) k ns r h = members_told ms [] k ns r h

  items_told : (js : text.Items) (l k : List ℕ) (ns : List (List ℕ)) (r : List Token)
      → Finds None l (k ∷ ns) (items_tokens js ++ r) → Told (ItemsHave js) k ns r
  items_told text.no_items l k ns r h = inr h
  items_told (text.item j js) l k ns r h =
      after_item j js l k ns r (λ g. items_told js l k ns r g)
      (told j l (k ∷ ns) (items_tokens js ++ r)
      (subst (Finds None l (k ∷ ns)) (append_assoc (json_tokens j) (items_tokens js) r) h))

  members_told : (ms : text.Members) (l k : List ℕ) (ns : List (List ℕ)) (r : List Token)
      → Finds None l (k ∷ ns) (members_tokens ms ++ r) → Told (MembersHave ms) k ns r
  members_told text.no_members l k ns r h = inr h
  members_told (text.member m j ms) l k ns r h =
      after_member m j ms k ns r (λ g. kept ms m k ns r g) (λ g. members_told ms m k ns r g)
      (told j m (k ∷ ns) (members_tokens ms ++ r)
      (subst (Finds None m (k ∷ ns)) (append_assoc (json_tokens j) (members_tokens ms) r) h))

  kept : (ms : text.Members) (l k : List ℕ) (ns : List (List ℕ)) (r : List Token)
      → Finds (Some zero) l (k ∷ ns) (members_tokens ms ++ r) → Kept ms l k ns r
  kept text.no_members l k ns r h = inl (tt, h)
  kept (text.member m j ms) l k ns r h =
      kept_if (bytes_eq l m) l m j ms k ns r refl (λ g. kept ms l k ns r g)
      (λ g. members_told ms l k ns r g) (λ g. told j l (k ∷ ns) (members_tokens ms ++ r) g)
      (subst (Finds (if bytes_eq l m then None else Some zero) l (k ∷ ns))
      (append_assoc (json_tokens j) (members_tokens ms) r) h)

-- so in the tree of a line there is one that counts
found_in_tree : (j : text.Json) → holds_decimal (json_tokens j) ≡ true → Has j
found_in_tree j h = last (told j [] [] []
    (subst (Finds None [] []) (sym (append-nil (json_tokens j))) h))
  where
    last : Told (Has j) [] [] [] → Has j
    last (inl h) = h.0
    last (inr h) = absurd (cc)

-- ---- what the JSON crate makes of such a tree

either_true : (a b : Bool) → a ≡ true → (a || b) ≡ true
either_true a b h = rw h refl

other_true : (a b : Bool) → b ≡ true → (a || b) ≡ true
other_true true b h = refl
other_true false b h = h

-- a member of this name has one
abbrev Holds : List ℕ → Members → Type 0
Holds k no_members = ⊥
Holds k (member l d ms) = ((k ≡ l) × (has_float d ≡ true)) ⊎ Holds k ms

holds_float : (k : List ℕ) (ms : Members) → Holds k ms → members_have_float ms ≡ true
holds_float k no_members h = absurd h
holds_float k (member l d ms) (inl h) = either_true (has_float d) _ h.1
holds_float k (member l d ms) (inr h) = other_true (has_float d) _ (holds_float k ms h)

same_name : (o : Ordering) (k l : List ℕ) → slice_cmp nat_cmp k l ≡ o → is_eq o ≡ true → k ≡ l
same_name o k l e h = (bytes_eq-Decides k l).0 (sym (is_eq-slice_cmp k l) ∙ ap is_eq e ∙ h)

put_if : (o : Ordering) (k l : List ℕ) (d e : Data) (ms : Members) → slice_cmp nat_cmp k l ≡ o
    → has_float d ≡ true → Holds k (put k d ms)
    → Holds k (match_ordering o (member k d (member l e ms)) (member l d ms) (member l e (put k d ms)))
put_if Less k l d e ms is h others = inl (refl, h)
put_if Equal k l d e ms is h others = inl (same_name Equal k l is refl, h)
put_if Greater k l d e ms is h others = inr others

put_holds : (k : List ℕ) (d : Data) (ms : Members) → has_float d ≡ true → Holds k (put k d ms)
put_holds k d no_members h = inl (refl, h)
put_holds k d (member l e ms) h =
    put_if (slice_cmp nat_cmp k l) k l d e ms refl h (put_holds k d ms h)

stay_if : (o : Ordering) (k l m : List ℕ) (d e : Data) (ms : Members) → slice_cmp nat_cmp l m ≡ o
    → bytes_eq k l ≡ false → Holds k (member m e ms) → (Holds k ms → Holds k (put l d ms))
    → Holds k (match_ordering o (member l d (member m e ms)) (member m d ms) (member m e (put l d ms)))
stay_if Less k l m d e ms is other h others = inr h
stay_if Equal k l m d e ms is other (inl h) others =
    let same : k ≡ l = h.0 ∙ sym (same_name Equal l m is refl) in
    absurd (true≢false (sym ((bytes_eq-Decides k l).1 same) ∙ other))
stay_if Equal k l m d e ms is other (inr h) others = inr h
stay_if Greater k l m d e ms is other (inl h) others = inl h
stay_if Greater k l m d e ms is other (inr h) others = inr (others h)

put_stays : (k l : List ℕ) (d : Data) (ms : Members) → bytes_eq k l ≡ false → Holds k ms
    → Holds k (put l d ms)
put_stays k l d no_members other h = absurd h
put_stays k l d (member m e ms) other h =
    stay_if (slice_cmp nat_cmp l m) k l m d e ms refl other h (λ g. put_stays k l d ms other g)

-- a member stays, where no later one has its name
stays_from : (o : Option Data) (k l : List ℕ) (ms : text.Members) (old found : Members)
    → bytes_eq k l ≡ false → Holds k old
    → ((d : Data) → Holds k (put l d old) → of_members ms (put l d old) ≡ Some found → Holds k found)
    → option_and_then (λ d. of_members ms (put l d old)) o ≡ Some found → Holds k found
stays_from None k l ms old found other h others e = not_found found e
stays_from (Some d) k l ms old found other h others e = others d (put_stays k l d old other h) e

stays : (k : List ℕ) (ms : text.Members) (old found : Members) → IsLast k ms → Holds k old
    → of_members ms old ≡ Some found → Holds k found
stays k text.no_members old found last h e = subst (Holds k) (Some_inj old found e) h
stays k (text.member l j ms) old found last h e =
    stays_from (of_json j) k l ms old found last.0 h
    (λ d g is. stays k ms (put l d old) found last.1 g is) e

-- ---- one level, from those inside it

number_if : (s : List ℕ) (o : Option Num) (d : Data) → is_whole_number o ≡ false
    → option_map number o ≡ Some d → has_float d ≡ true
number_if s None d h e = not_found d e
number_if s (Some (unsigned n)) d h e = absurd (cc)
number_if s (Some (negative z)) d h e = absurd (cc)
number_if s (Some (float x)) d h e = sym (ap has_float (Some_inj (number (float x)) d e))

array_if : (o : Option Items) (d : Data) → ((ds : Items) → o ≡ Some ds → items_have_float ds ≡ true)
    → option_map array o ≡ Some d → has_float d ≡ true
array_if None d inner e = not_found d e
array_if (Some ds) d inner e = sym (ap has_float (Some_inj (array ds) d e)) ∙ inner ds refl

object_if : (o : Option Members) (d : Data)
    → ((ms : Members) → o ≡ Some ms → members_have_float ms ≡ true)
    → option_map object o ≡ Some d → has_float d ≡ true
object_if None d inner e = not_found d e
object_if (Some ms) d inner e = sym (ap has_float (Some_inj (object ms) d e)) ∙ inner ms refl

item_if : (o : Option Data) (p : Option Items) (ds : Items) (Here : Type 0) (Later : Type 0) → Here ⊎ Later
    → (Here → (d : Data) → o ≡ Some d → has_float d ≡ true)
    → (Later → (es : Items) → p ≡ Some es → items_have_float es ≡ true)
    → option_and_then (λ d. option_map (item d) p) o ≡ Some ds → items_have_float ds ≡ true
item_if None p ds Here Later h one others e = not_found ds e
item_if (Some d) None ds Here Later h one others e = not_found ds e
item_if (Some d) (Some es) ds Here Later (inl h) one others e =
    sym (ap items_have_float (Some_inj (item d es) ds e)) ∙ either_true _ _ (one h d refl)
item_if (Some d) (Some es) ds Here Later (inr h) one others e =
    sym (ap items_have_float (Some_inj (item d es) ds e)) ∙ other_true (has_float d) _ (others h es refl)

member_if : (o : Option Data) (k : List ℕ) (j : text.Json) (ms : text.Members) (old found : Members)
    → (Has j × IsLast k ms) ⊎ MembersHave ms
    → (Has j → (d : Data) → o ≡ Some d → has_float d ≡ true)
    → (MembersHave ms → (d : Data) → of_members ms (put k d old) ≡ Some found
    → members_have_float found ≡ true)
    → option_and_then (λ d. of_members ms (put k d old)) o ≡ Some found → members_have_float found ≡ true
member_if None k j ms old found h one others e = not_found found e
member_if (Some d) k j ms old found (inl h) one others e =
    holds_float k found (stays k ms (put k d old) found h.1 (put_holds k d old (one h.0 d refl)) e)
member_if (Some d) k j ms old found (inr h) one others e = others h d e

mutual
  floats : (j : text.Json) (d : Data) → HasNumbers j → Has j → of_json j ≡ Some d → has_float d ≡ true
  floats text.null d n h e = absurd h
  floats (text.boolean b) d n h e = absurd h
  floats (text.number s) d n h e = number_if s (number_of s) d (sym (tells_row s n) ∙ h) e
  floats (text.string s) d n h e = absurd h
  floats (text.array js) d n h e = array_if (of_items js) d (λ ds is. item_floats js ds n h is) e
  floats (text.object ms) d n h e =
      object_if (of_members ms no_members) d (λ found is. member_floats ms no_members found n h is) e

  item_floats : (js : text.Items) (ds : Items) → ItemsHaveNumbers js → ItemsHave js → of_items js ≡ Some ds
      → items_have_float ds ≡ true
  item_floats text.no_items ds n h e = absurd h
  item_floats (text.item j js) ds n h e =
      item_if (of_json j) (of_items js) ds (Has j) (ItemsHave js) h (λ g d is. floats j d n.0 g is)
      (λ g es is. item_floats js es n.1 g is) e

  member_floats : (ms : text.Members) (old found : Members) → MembersHaveNumbers ms → MembersHave ms
      → of_members ms old ≡ Some found → members_have_float found ≡ true
  member_floats text.no_members old found n h e = absurd h
  member_floats (text.member k j ms) old found n h e =
      member_if (of_json j) k j ms old found h (λ g d is. floats j d n.0 g is)
      (λ g d is. member_floats ms (put k d old) found n.1 g is) e

-- where a search of the tokens finds one, the JSON crate reads a float
pub float_found : (j : text.Json) (d : Data) → HasNumbers j → holds_decimal (json_tokens j) ≡ true
    → of_json j ≡ Some d → has_float d ≡ true
float_found j d n h e = floats j d n (found_in_tree j h) e
