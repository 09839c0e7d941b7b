-- Members whose values are structured, where members are put one after another.
use Rattle.std.proofs.Common.{◌≡◌, Bool, true, false, List, [], ◌∷◌, Ordering, Less, Equal, Greater}
use Rattle.std.proofs.Common.{is_eq, refl, sym, ap, ◌∙◌, subst, cond, if◌then◌else◌}
use Rattle.std.specs.List.{filter}
use Rattle.std.specs.Ordering.{match_ordering}
use Rattle.std.specs.Str.{chars}
use Rattle.jp_doc.specs.Json.{Text, text_cmp, text_eq, Json, null, truth, number, text, array, object}
use Rattle.jp_doc.specs.Json.{Members, no_members, add_member}
use Rattle.jp_doc.specs.Rising.{IsTextBelow}
use Rattle.jp_doc.specs.Tree.{put_member}
use Rattle.jp_flat.specs.Gathered.{onto, gathered, AreAbove, NamesRise}
use Rattle.jp_flat.specs.Structured.{is_structured, structured}
use Rattle.jp_flat.specs.Value.{flat_value, IsNoArray, IsNoObject}
use Rattle.jp_flat.specs.declared.value.FlatMember.{FlatMember}
use Rattle.jp_flat.specs.inner.Without.{without}
use Rattle.jp_flat.proofs.Entries.{by_order, same_text}
use Rattle.jp_flat.proofs.Placed.{in_front}
use Rattle.jp_flat.proofs.Rising.{same, above, above_below, rise_put}

-- what is neither an array nor an object
pub primitive : (v : Json) → IsNoArray v → IsNoObject v → is_structured v ≡ false
primitive (array vs) p q = absurd p
primitive (object ms) p q = absurd q
primitive null p q = refl
primitive (truth b) p q = refl
primitive (number x) p q = refl
primitive (text s) p q = refl

abbrev kept_if : Bool → Text → Json → Members → Members
kept_if b k v ms = if b then add_member k v ms else ms

-- ---- they rise

above_if : (b : Bool) (k l : Text) (w : Json) (ms : Members) → IsTextBelow k l → AreAbove k ms
    → AreAbove k (kept_if b l w ms)
above_if true k l w ms p h = (p, h)
above_if false k l w ms p h = h

above_structured : (k : Text) (ms : Members) → AreAbove k ms → AreAbove k (structured ms)
above_structured k no_members h = tt
above_structured k (add_member l w ms) h =
    above_if (is_structured w) k l w (structured ms) h.0 (above_structured k ms h.1)

rise_if : (b : Bool) (l : Text) (w : Json) (ms : Members) → AreAbove l ms → NamesRise ms
    → NamesRise (kept_if b l w ms)
rise_if true l w ms p h = (p, h)
rise_if false l w ms p h = h

pub rise_structured : (ms : Members) → NamesRise ms → NamesRise (structured ms)
rise_structured no_members h = tt
rise_structured (add_member l w ms) h =
    rise_if (is_structured w) l w (structured ms) (above_structured l ms h.0) (rise_structured ms h.1)

-- the names below a member's, where it stands among members that rise
all_above : (k l : Text) (w : Json) (ms : Members) → IsTextBelow k l → NamesRise (add_member l w ms)
    → AreAbove k (structured (add_member l w ms))
all_above k l w ms p h = above_structured k (add_member l w ms) (p, above_below k l ms p h.0)

-- ---- a structured value is put

put_same : (b : Bool) (k l : Text) (v w : Json) (ms : Members) → text_cmp k l ≡ Equal → AreAbove k ms
    → add_member l v ms ≡ put_member k v (kept_if b l w ms)
put_same true k l v w ms e h =
    sym (ap (λ o. match_ordering o (add_member k v (add_member l w ms)) (add_member l v ms)
    (add_member l w (put_member k v ms))) e)
put_same false k l v w ms e h =
    ap (λ x. add_member x v ms) (sym (same k l e)) ∙ sym (in_front k v ms h)

put_behind : (b : Bool) (k l : Text) (v w : Json) (ms more : Members) → text_cmp k l ≡ Greater
    → more ≡ put_member k v ms → kept_if b l w more ≡ put_member k v (kept_if b l w ms)
put_behind true k l v w ms more e h =
    ap (add_member l w) h
    ∙ sym (ap (λ o. match_ordering o (add_member k v (add_member l w ms)) (add_member l v ms)
    (add_member l w (put_member k v ms))) e)
put_behind false k l v w ms more e h = h

put_at : (o : Ordering) (k l : Text) (v w : Json) (ms : Members) → text_cmp k l ≡ o
    → is_structured v ≡ true → NamesRise (add_member l w ms)
    → structured (put_member k v ms) ≡ put_member k v (structured ms)
    → structured (match_ordering o (add_member k v (add_member l w ms)) (add_member l v ms)
    (add_member l w (put_member k v ms))) ≡ put_member k v (structured (add_member l w ms))
put_at Less k l v w ms e is h later =
    ap (λ b. kept_if b k v (structured (add_member l w ms))) is
    ∙ sym (in_front k v (structured (add_member l w ms)) (all_above k l w ms e h))
put_at Equal k l v w ms e is h later =
    let behind : AreAbove k (structured ms) =
    subst (λ x. AreAbove x (structured ms)) (sym (same k l e)) (above_structured l ms h.0) in
    ap (λ b. kept_if b l v (structured ms)) is
    ∙ put_same (is_structured w) k l v w (structured ms) e behind
put_at Greater k l v w ms e is h later =
    put_behind (is_structured w) k l v w (structured ms) (structured (put_member k v ms)) e later

pub structured_put : (k : Text) (v : Json) (ms : Members) → is_structured v ≡ true → NamesRise ms
    → structured (put_member k v ms) ≡ put_member k v (structured ms)
structured_put k v no_members is h = ap (λ b. kept_if b k v no_members) is
structured_put k v (add_member l w ms) is h =
    put_at (text_cmp k l) k l v w ms refl is h (structured_put k v ms is h.1)

-- ---- another value is put: then none of its name is structured

abbrev less_if : Bool → Text → Text → Json → Members → Members
less_if b k l w ms = if b then without k ms else add_member l w (without k ms)

is_other : (k l : Text) → IsTextBelow k l → text_eq k l ≡ false
is_other k l p = sym (by_order k l) ∙ ap is_eq p

is_this : (k l : Text) → text_cmp k l ≡ Equal → text_eq k l ≡ true
is_this k l e = sym (by_order k l) ∙ ap is_eq e

is_further : (k l : Text) → text_cmp k l ≡ Greater → text_eq k l ≡ false
is_further k l e = sym (by_order k l) ∙ ap is_eq e

absent_without : (k : Text) (ms : Members) → AreAbove k ms → without k ms ≡ ms
absent_without k no_members h = refl
absent_without k (add_member l w ms) h =
    ap (λ b. less_if b k l w ms) (is_other k l h.0) ∙ ap (add_member l w) (absent_without k ms h.1)

gone_same : (b : Bool) (k l : Text) (w : Json) (ms : Members) → text_cmp k l ≡ Equal → AreAbove k ms
    → ms ≡ without k (kept_if b l w ms)
gone_same true k l w ms e h =
    sym (absent_without k ms h) ∙ sym (ap (λ b. less_if b k l w ms) (is_this k l e))
gone_same false k l w ms e h = sym (absent_without k ms h)

gone_behind : (b : Bool) (k l : Text) (w : Json) (ms less : Members) → text_cmp k l ≡ Greater
    → less ≡ without k ms → kept_if b l w less ≡ without k (kept_if b l w ms)
gone_behind true k l w ms less e h =
    ap (add_member l w) h ∙ sym (ap (λ b. less_if b k l w ms) (is_further k l e))
gone_behind false k l w ms less e h = h

gone_at : (o : Ordering) (k l : Text) (v w : Json) (ms : Members) → text_cmp k l ≡ o
    → is_structured v ≡ false → NamesRise (add_member l w ms)
    → structured (put_member k v ms) ≡ without k (structured ms)
    → structured (match_ordering o (add_member k v (add_member l w ms)) (add_member l v ms)
    (add_member l w (put_member k v ms))) ≡ without k (structured (add_member l w ms))
gone_at Less k l v w ms e is h later =
    ap (λ b. kept_if b k v (structured (add_member l w ms))) is
    ∙ sym (absent_without k (structured (add_member l w ms)) (all_above k l w ms e h))
gone_at Equal k l v w ms e is h later =
    let behind : AreAbove k (structured ms) =
    subst (λ x. AreAbove x (structured ms)) (sym (same k l e)) (above_structured l ms h.0) in
    ap (λ b. kept_if b l v (structured ms)) is
    ∙ gone_same (is_structured w) k l w (structured ms) e behind
gone_at Greater k l v w ms e is h later =
    gone_behind (is_structured w) k l w (structured ms) (structured (put_member k v ms)) e later

pub structured_gone : (k : Text) (v : Json) (ms : Members) → is_structured v ≡ false → NamesRise ms
    → structured (put_member k v ms) ≡ without k (structured ms)
structured_gone k v no_members is h = ap (λ b. kept_if b k v no_members) is
structured_gone k v (add_member l w ms) is h =
    gone_at (text_cmp k l) k l v w ms refl is h (structured_gone k v ms is h.1)

-- ---- a name is taken out of a list

put_gone_at : (o : Ordering) (k l : Text) (v w : Json) (ms : Members) → text_cmp k l ≡ o
    → without k (put_member k v ms) ≡ without k ms
    → without k (match_ordering o (add_member k v (add_member l w ms)) (add_member l v ms)
    (add_member l w (put_member k v ms))) ≡ without k (add_member l w ms)
put_gone_at Less k l v w ms e later =
    ap (λ b. less_if b k k v (add_member l w ms)) (same_text k)
put_gone_at Equal k l v w ms e later =
    ap (λ b. less_if b k l v ms) (is_this k l e) ∙ sym (ap (λ b. less_if b k l w ms) (is_this k l e))
put_gone_at Greater k l v w ms e later =
    ap (λ b. less_if b k l w (put_member k v ms)) (is_further k l e) ∙ ap (add_member l w) later
    ∙ sym (ap (λ b. less_if b k l w ms) (is_further k l e))

put_gone : (k : Text) (v : Json) (ms : Members) → without k (put_member k v ms) ≡ without k ms
put_gone k v no_members = ap (λ b. less_if b k k v no_members) (same_text k)
put_gone k v (add_member l w ms) = put_gone_at (text_cmp k l) k l v w ms refl (put_gone k v ms)

below_all : (j k : Text) (v : Json) (xs : List FlatMember) (ms : Members)
    → AreAbove j (onto xs (add_member k v ms)) → IsTextBelow j k
below_all j k v [] ms h = h.0
below_all j k v (x ∷ xs) ms h = below_all j k v xs ms h.1

onto_gone : (xs : List FlatMember) (k : Text) (v : Json) (ms : Members)
    → NamesRise (onto xs (add_member k v ms)) → without k (onto xs (add_member k v ms)) ≡ onto xs ms
onto_gone [] k v ms h = ap (λ b. less_if b k k v ms) (same_text k) ∙ absent_without k ms h.0
onto_gone (x ∷ xs) k v ms h =
    let l = chars x.name.now in
    let w = flat_value x.value in
    let apart : text_eq k l ≡ false = is_further k l (above l k (below_all l k v xs ms h.0)) in
    ap (λ b. less_if b k l w (onto xs (add_member k v ms))) apart
    ∙ ap (add_member l w) (onto_gone xs k v ms h.1)

-- what is left where the name would be put between these
pub taken_out : (k : Text) (ms : Members) (xs : List FlatMember) (rest : Members) → NamesRise ms
    → ((v : Json) → put_member k v ms ≡ onto xs (add_member k v rest)) → without k ms ≡ onto xs rest
taken_out k ms xs rest h place =
    sym (put_gone k null ms) ∙ ap (without k) (place null)
    ∙ onto_gone xs k null rest (subst NamesRise (place null) (rise_put k null ms h))

-- ---- a list of members, without those that are not structured

abbrev pub has_structured : FlatMember → Bool
has_structured m = is_structured (flat_value m.value)

filtered_at : (b : Bool) (x : FlatMember) (xs ys : List FlatMember) → structured (gathered xs) ≡ gathered ys
    → kept_if b (chars x.name.now) (flat_value x.value) (structured (gathered xs))
    ≡ gathered (cond b (x ∷ ys) ys)
filtered_at true x xs ys h = ap (add_member (chars x.name.now) (flat_value x.value)) h
filtered_at false x xs ys h = h

pub filtered : (xs : List FlatMember) → structured (gathered xs) ≡ gathered (filter has_structured xs)
filtered [] = refl
filtered (x ∷ xs) = filtered_at (has_structured x) x xs (filter has_structured xs) (filtered xs)
