-- Members in a list: listed, sorted, and each name once.
use Rattle.std.proofs.Common.{◌≡◌, Bool, true, false, cond, not, ◌&&◌, List, [], ◌∷◌, ◌++◌, map, reverse}
use Rattle.std.proofs.Common.{Option, Some, None}
use Rattle.std.proofs.Common.{Ordering, Less, Equal, Greater, is_eq, refl, sym, ap, ◌∙◌, subst}
use Rattle.std.proofs.Common.{if◌then◌else◌, ◌⊎◌, inl, inr}
use Rattle.std.proofs.lemmas.Cmp.{nat_list_cmp_total, on_total}
use Rattle.std.proofs.lemmas.Grind.{reverse_onto}
use Rattle.std.proofs.lemmas.List.Kept.{IsStrictlySortedBy-dedup}
use Rattle.std.proofs.lemmas.List.Sorted.{ranks_by}
use Rattle.std.proofs.lemmas.Slice.Eq.{bytes_eq-Decides}
use Rattle.std.specs.Borrow.{Bor}
use Rattle.std.specs.Cmp.{IsTotalOrder, IsStrictWeakOrder}
use Rattle.std.specs.List.{filter, dedup, dedup_from}
use Rattle.std.specs.List.Sorted.{IsSortedBy, IsStableBy, IsStrictlySortedBy, ties}
use Rattle.std.specs.Ordering.{is_lt, ordering_reverse}
use Rattle.std.specs.Prelude.{ℕ, encode_utf8_all}
use Rattle.std.specs.Str.{chars}
use Rattle.jp_doc.specs.Json.{Text, text_cmp, text_eq, Json, Members, no_members, add_member}
use Rattle.jp_doc.specs.Location.{member_at}
use Rattle.jp_flat.specs.inner.Above.{IsAbove}
use Rattle.jp_flat.specs.Gathered.{entry, onto, gathered, AreAbove, NamesRise}
use Rattle.jp_flat.specs.Members.{put_all, last_of}
use Rattle.jp_flat.specs.Value.{flat_value}
use Rattle.jp_flat.specs.declared.value.FlatMember.{FlatMember}
use Rattle.jp_flat.proofs.Entries.{by_order}
use Rattle.jp_flat.proofs.Rising.{absent, above_below, put_together}

pub onto_both : (xs ys : List FlatMember) (ms : Members) → onto (xs ++ ys) ms ≡ onto xs (onto ys ms)
onto_both [] ys ms = refl
onto_both (x ∷ xs) ys ms = ap (add_member (chars x.name.now) (flat_value x.value)) (onto_both xs ys ms)

-- ---- a list whose names rise

abbrev or_else : Option Json → Option Json → Option Json
or_else None other = other
or_else (Some v) other = Some v

rising_at : (b : Bool) (q k : Text) (v : Json) (found other : Option Json) → (b ≡ true → found ≡ None)
    → or_else found (if b then Some v else other) ≡ or_else (if b then Some v else found) other
rising_at true q k v found other h = ap (λ f. or_else f (Some v)) (h refl)
rising_at false q k v found other h = refl

rising_last : (q : Text) (xs : List FlatMember) (other : Option Json) → NamesRise (gathered xs)
    → last_of q (map entry xs) other ≡ or_else (member_at q (gathered xs)) other
rising_last q [] other h = refl
rising_last q (x ∷ xs) other h =
    let k = chars x.name.now in
    let v = flat_value x.value in
    rising_last q xs (if text_eq q k then Some v else other) h.1
    ∙ rising_at (text_eq q k) q k v (member_at q (gathered xs)) other (λ e. let is : q ≡ k =
    (bytes_eq-Decides q k).0
    e in subst (λ y. member_at y (gathered xs) ≡ None) (sym is) (absent k (gathered xs) h.0))

or_none : (found : Option Json) → or_else found None ≡ found
or_none None = refl
or_none (Some v) = refl

pub listed_rising : (xs : List FlatMember) (es : List (Text × Json)) → map entry xs ≡ es
    → NamesRise (gathered xs)
    → gathered xs ≡ put_all es no_members
listed_rising xs es is rise =
    put_together (gathered xs) es rise (λ q. sym (or_none (member_at q (gathered xs)))
    ∙ sym (rising_last q xs None rise) ∙ ap (λ l. last_of q l None) is)

-- all names are above the one before, if there is one
abbrev pub AreBehind : Option (Bor (List ℕ)) → Members → Type 0
AreBehind None ms = Unit {0}
AreBehind (Some s) ms = AreAbove (chars s.now) ms

-- members that are listed rise with whatever rises behind the last of them
abbrev pub RisesWith : Option (Bor (List ℕ)) → List FlatMember → Type 0
RisesWith before xs = (ms : Members) → AreBehind before ms → NamesRise ms → NamesRise (onto xs ms)

behind : (before : Option (Bor (List ℕ))) (k : Text) (v : Json) (ms : Members) → IsAbove before k
    → AreAbove k ms
    → AreBehind before (add_member k v ms)
behind None k v ms p h = tt
behind (Some s) k v ms p h = (p, above_below (chars s.now) k ms p h)

pub one_more : (before : Option (Bor (List ℕ))) (xs ys : List FlatMember) (m : FlatMember)
    → (name : Bor (List ℕ)) → ys ≡ xs ++ m ∷ [] → name.now ≡ m.name.now → RisesWith before xs
    → IsAbove before (chars m.name.now)
    → RisesWith (Some name) ys
one_more before xs ys m name is called h p ms up rise =
    let k = chars m.name.now in
    let v = flat_value m.value in
    let above : AreAbove k ms = subst (λ s. AreAbove (chars s) ms) called up in
    subst NamesRise (sym (ap (λ l. onto l ms) is ∙ onto_both xs (m ∷ []) ms))
    (h (add_member k v ms) (behind before k v ms p above) (above, rise))

map_more : (xs : List FlatMember) (m : FlatMember) (es : List (Text × Json))
    → map entry (xs ++ m ∷ []) ++ es ≡ map entry xs ++ entry m ∷ es
map_more [] m es = refl
map_more (x ∷ xs) m es = ap (λ l. entry x ∷ l) (map_more xs m es)

pub listed_more : (xs ys : List FlatMember) (m : FlatMember) (left es whole : List (Text × Json))
    → ys ≡ xs ++ m ∷ [] → left ≡ entry m ∷ es → map entry xs ++ left ≡ whole → map entry ys ++ es ≡ whole
listed_more xs ys m left es whole is first h =
    ap (λ l. map entry l ++ es) is ∙ map_more xs m es ∙ ap (λ l. map entry xs ++ l) (sym first) ∙ h

pub all_listed : (before : Option (Bor (List ℕ))) (xs : List FlatMember) → RisesWith before xs
    → AreBehind before no_members → NamesRise (gathered xs)
all_listed before xs h p = h no_members p tt

pub none_behind : (before : Option (Bor (List ℕ))) → AreBehind before no_members
none_behind None = tt
none_behind (Some s) = tt

-- ---- the order of members by their names

abbrev bytes_of : FlatMember → List ℕ
bytes_of m = encode_utf8_all (chars m.name.now)

abbrev pub by_name : FlatMember → FlatMember → Ordering
by_name x y = text_cmp (chars x.name.now) (chars y.name.now)

abbrev pub lower : FlatMember → FlatMember → Bool
lower x y = is_lt (by_name x y)

abbrev pub of_one_name : FlatMember → FlatMember → Bool
of_one_name x y = text_eq (chars x.name.now) (chars y.name.now)

name_order : IsTotalOrder by_name
name_order = on_total bytes_of nat_list_cmp_total

pub weak_order : IsStrictWeakOrder lower
weak_order = ranks_by nat_list_cmp_total bytes_of

all_above : (x : FlatMember) (xs : List FlatMember) → IsStrictlySortedBy by_name (x ∷ xs)
    → AreAbove (chars x.name.now) (gathered xs)
unfolding IsStrictlySortedBy
all_above x [] h = tt
all_above x (y ∷ ys) h = (h.0.0, all_above x ys (h.0.1, h.1.1))

names_rise : (xs : List FlatMember) → IsStrictlySortedBy by_name xs → NamesRise (gathered xs)
unfolding IsStrictlySortedBy
names_rise [] h = tt
names_rise (x ∷ xs) h = (all_above x xs h, names_rise xs h.1)

pub sorted_rise : (ys zs : List FlatMember) → IsSortedBy lower ys → zs ≡ dedup of_one_name ys
    → NamesRise (gathered zs)
sorted_rise ys zs h is =
    subst (λ l. NamesRise (gathered l)) (sym is) (names_rise (dedup of_one_name ys)
    (IsStrictlySortedBy-dedup name_order (λ x y. sym (by_order (chars x.name.now) (chars y.name.now))) ys h))

-- ---- the value of a name stays

first_of_two : (b c : Bool) (v w : Json) (found : Option Json) → (b ≡ false → c ≡ false)
    → (if b then Some v else (if c then Some w else found)) ≡ (if b then Some v else found)
first_of_two true c v w found h = refl
first_of_two false c v w found h = ap (λ d. if d then Some w else found) (h refl)

kept_at : (b : Bool) (q : Text) (x y : FlatMember) (ys : List FlatMember) → of_one_name y x ≡ b
    → member_at q (gathered (dedup_from of_one_name x ys)) ≡ member_at q (gathered (x ∷ ys))
    → member_at q (gathered (dedup_from of_one_name y ys)) ≡ member_at q (gathered (y ∷ ys))
    → member_at q (gathered (cond b (dedup_from of_one_name x ys) (x ∷ dedup_from of_one_name y ys)))
    ≡ member_at q (gathered (x ∷ y ∷ ys))
kept_at true q x y ys e one other =
    let k = chars x.name.now in
    let is : chars y.name.now ≡ k = (bytes_eq-Decides (chars y.name.now) k).0 e in
    one ∙ sym (first_of_two (text_eq q k) (text_eq q (chars y.name.now)) (flat_value x.value)
    (flat_value y.value)
    (member_at q (gathered ys)) (λ no. ap (text_eq q) is ∙ no))
kept_at false q x y ys e one other =
    ap (λ found. if text_eq q (chars x.name.now) then Some (flat_value x.value) else found) other

kept : (q : Text) (x : FlatMember) (xs : List FlatMember)
    → member_at q (gathered (dedup_from of_one_name x xs)) ≡ member_at q (gathered (x ∷ xs))
kept q x [] = refl
kept q x (y ∷ ys) = kept_at (of_one_name y x) q x y ys refl (kept q x ys) (kept q y ys)

kept_all : (q : Text) (xs : List FlatMember)
    → member_at q (gathered (dedup of_one_name xs)) ≡ member_at q (gathered xs)
kept_all q [] = refl
kept_all q (x ∷ xs) = kept q x xs

abbrev has_name : Text → FlatMember → Bool
has_name q m = text_eq q (chars m.name.now)

filtered_at : (b : Bool) (q : Text) (x : FlatMember) (xs : List FlatMember) → has_name q x ≡ b
    → member_at q (gathered xs) ≡ member_at q (gathered (filter (has_name q) xs))
    → (if b then Some (flat_value x.value) else member_at q (gathered xs))
    ≡ member_at q (gathered (cond b (x ∷ filter (has_name q) xs) (filter (has_name q) xs)))
filtered_at true q x xs e later =
    ap (λ b. if b then Some (flat_value x.value) else member_at q (gathered (filter (has_name q) xs))) (sym e)
filtered_at false q x xs e later = later

filtered : (q : Text) (xs : List FlatMember)
    → member_at q (gathered xs) ≡ member_at q (gathered (filter (has_name q) xs))
filtered q [] = refl
filtered q (x ∷ xs) = filtered_at (has_name q x) q x xs refl (filtered q xs)

tie_at : (o : Ordering) → (not (is_lt o) && not (is_lt (ordering_reverse o))) ≡ is_eq o
tie_at Less = refl
tie_at Equal = refl
tie_at Greater = refl

tie : (x y : FlatMember) → ties lower x y ≡ has_name (chars x.name.now) y
tie x y =
    ap (λ o. not (lower x y) && not (is_lt o)) (name_order.antisymm y x) ∙ tie_at (by_name x y)
    ∙ by_order (chars x.name.now) (chars y.name.now)

filter_same : (p r : FlatMember → Bool) → ((m : FlatMember) → p m ≡ r m) → (xs : List FlatMember)
    → filter p xs ≡ filter r xs
filter_same p r h [] = refl
filter_same p r h (x ∷ xs) =
    ap (λ b. cond b (x ∷ filter p xs) (filter p xs)) (h x)
    ∙ ap (λ l. cond (r x) (x ∷ l) l) (filter_same p r h xs)

-- some member of the list has the name, or none
abbrev Named : Text → List FlatMember → Type 0
Named q xs = ((x : FlatMember) × (q ≡ chars x.name.now)) ⊎ (filter (has_name q) xs ≡ [])

named_at : (b : Bool) (q : Text) (x : FlatMember) (xs : List FlatMember) → has_name q x ≡ b → Named q xs
    → Named q (x ∷ xs)
named_at true q x xs e later = inl (x, (bytes_eq-Decides q (chars x.name.now)).0 e)
named_at false q x xs e (inl y) = inl y
named_at false q x xs e (inr none) = inr (ap (λ b. cond b (x ∷ filter (has_name q) xs) (filter
    (has_name q) xs)) e ∙ none)

named : (q : Text) (xs : List FlatMember) → Named q xs
named q [] = inr refl
named q (x ∷ xs) = named_at (has_name q x) q x xs refl (named q xs)

stable_at : (q : Text) (xs ys : List FlatMember) → IsStableBy lower xs ys → (x : FlatMember)
    → q ≡ chars x.name.now
    → filter (has_name q) ys ≡ filter (has_name q) xs
stable_at q xs ys h x e =
    let by = filter_same (ties lower x) (has_name (chars x.name.now)) (tie x) in
    subst (λ k. filter (has_name k) ys ≡ filter (has_name k) xs) (sym e) (sym (by ys) ∙ h x ∙ by xs)

stable_by : (q : Text) (xs ys : List FlatMember) → IsStableBy lower xs ys → Named q xs → Named q ys
    → filter (has_name q) ys ≡ filter (has_name q) xs
stable_by q xs ys h (inl x) other = stable_at q xs ys h x.0 x.1
stable_by q xs ys h (inr none) (inl y) = stable_at q xs ys h y.0 y.1
stable_by q xs ys h (inr none) (inr neither) = neither ∙ sym none

stays : (q : Text) (xs ys : List FlatMember) → IsStableBy lower xs ys
    → member_at q (gathered ys) ≡ member_at q (gathered xs)
stays q xs ys h =
    filtered q ys
    ∙ ap (λ l. member_at q (gathered l)) (stable_by q xs ys h (named q xs) (named q ys))
    ∙ sym (filtered q xs)

turned : (q : Text) (xs : List FlatMember) (ms : Members)
    → member_at q (onto (reverse xs) ms) ≡ last_of q (map entry xs) (member_at q ms)
turned q [] ms = refl
turned q (x ∷ xs) ms =
    ap (λ l. member_at q (onto l ms)) (reverse_onto xs x [])
    ∙ ap (member_at q) (onto_both (reverse xs) (x ∷ []) ms)
    ∙ turned q xs (add_member (chars x.name.now) (flat_value x.value) ms)

-- sorted the other way round, with the first of each name
pub sorted_last : (xs turned_round ys zs : List FlatMember) → turned_round ≡ reverse xs
    → IsStableBy lower turned_round ys → zs ≡ dedup of_one_name ys
    → (q : Text) → member_at q (gathered zs) ≡ last_of q (map entry xs) None
sorted_last xs turned_round ys zs is stable only q =
    ap (λ l. member_at q (gathered l)) only ∙ kept_all q ys ∙ stays q turned_round ys stable
    ∙ ap (λ l. member_at q (gathered l)) is ∙ turned q xs no_members
