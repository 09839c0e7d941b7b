-- Where a name belongs among names that rise: behind those below it, and in front of those above it.
use Rattle.std.proofs.Common.{◌≡◌, ◌<◌, ℕ, zero, suc, take, drop, length, arith, List, [], ◌∷◌, ◌++◌, refl}
use Rattle.std.proofs.Common.{sym, ap, ◌∙◌, subst, slice_index_or, slice_set, Equal}
use Rattle.std.specs.Ordering.{match_ordering}
use Rattle.std.specs.Str.{chars}
use Rattle.jp_doc.specs.Json.{Text, text_cmp, Json, Members, no_members, add_member}
use Rattle.jp_doc.specs.Rising.{IsTextBelow}
use Rattle.jp_doc.specs.Tree.{put_member}
use Rattle.jp_flat.specs.Gathered.{onto, gathered, AreAbove, NamesRise}
use Rattle.jp_flat.specs.Value.{flat_value}
use Rattle.jp_flat.specs.declared.value.FlatMember.{FlatMember}
use Rattle.jp_flat.proofs.Rising.{below_trans, same, above}
use Rattle.jp_flat.proofs.Sorted.{onto_both}

-- the name of the member at this index
abbrev pub name_at : List FlatMember → ℕ → FlatMember → Text
name_at xs i d = chars (slice_index_or xs i d).name.now

-- what is put in front of members whose names are all above it
pub in_front : (k : Text) (v : Json) (ms : Members) → AreAbove k ms → put_member k v ms ≡ add_member k v ms
in_front k v no_members h = refl
in_front k v (add_member l w ms) h =
    ap (λ o. match_ordering o (add_member k v (add_member l w ms)) (add_member l v ms)
    (add_member l w (put_member k v ms))) h.0

-- what is put behind the first
behind_first : (k l : Text) (v w : Json) (ms rest : Members) → IsTextBelow l k → put_member k v ms ≡ rest
    → put_member k v (add_member l w ms) ≡ add_member l w rest
behind_first k l v w ms rest p e =
    ap (λ o. match_ordering o (add_member k v (add_member l w ms)) (add_member l v ms)
    (add_member l w (put_member k v ms))) (above l k p)
    ∙ ap (add_member l w) e

above_all : (k : Text) (xs : List FlatMember) (i : ℕ) (d : FlatMember) → AreAbove k (gathered xs)
    → i < length xs → IsTextBelow k (name_at xs i d)
above_all k [] i d h within = absurd (omega (arith, within))
above_all k (x ∷ xs) zero d h within = h.0
above_all k (x ∷ xs) (suc i) d h within = above_all k xs i d h.1 (omega (arith, within))

-- behind the member at this index, whose name is below
pub placed_behind : (xs : List FlatMember) (i : ℕ) (d : FlatMember) (k : Text) (v : Json) → i < length xs
    → NamesRise (gathered xs) → IsTextBelow (name_at xs i d) k → AreAbove k (gathered (drop (suc i) xs))
    → put_member k v (gathered xs) ≡ onto (take (suc i) xs) (add_member k v (gathered (drop (suc i) xs)))
placed_behind [] i d k v within rise p h = absurd (omega (arith, within))
placed_behind (x ∷ xs) zero d k v within rise p h =
    behind_first k (chars x.name.now) v (flat_value x.value) (gathered xs) _ p
    (in_front k v (gathered xs) h)
placed_behind (x ∷ xs) (suc i) d k v within rise p h =
    let l = chars x.name.now in
    let inside : i < length xs = omega (arith, within) in
    let first : IsTextBelow l k = below_trans l (name_at xs i d) k (above_all l xs i d rise.0 inside) p in
    behind_first k l v (flat_value x.value) (gathered xs) _ first
    (placed_behind xs i d k v inside rise.1 p h)

-- in the place of the member at this index, which has the name
pub placed_at : (xs : List FlatMember) (i : ℕ) (d : FlatMember) (k : Text) (v : Json) → i < length xs
    → NamesRise (gathered xs) → text_cmp k (name_at xs i d) ≡ Equal
    → put_member k v (gathered xs) ≡ onto (take i xs) (add_member k v (gathered (drop (suc i) xs)))
placed_at [] i d k v within rise e = absurd (omega (arith, within))
placed_at (x ∷ xs) zero d k v within rise e =
    let l = chars x.name.now in
    ap (λ o. match_ordering o (add_member k v (add_member l (flat_value x.value) (gathered xs)))
    (add_member l v (gathered xs)) (add_member l (flat_value x.value) (put_member k v (gathered xs)))) e
    ∙ ap (λ n. add_member n v (gathered xs)) (sym (same k l e))
placed_at (x ∷ xs) (suc i) d k v within rise e =
    let l = chars x.name.now in
    let inside : i < length xs = omega (arith, within) in
    let first : IsTextBelow l k =
    subst (IsTextBelow l) (sym (same k (name_at xs i d) e)) (above_all l xs i d rise.0 inside) in
    behind_first k l v (flat_value x.value) (gathered xs) _ first (placed_at xs i d k v inside rise.1 e)

-- the names from this index on are above, where those behind it are and it is itself
pub above_from : (xs : List FlatMember) (i : ℕ) (d : FlatMember) (k : Text) → i < length xs
    → IsTextBelow k (name_at xs i d) → AreAbove k (gathered (drop (suc i) xs))
    → AreAbove k (gathered (drop i xs))
above_from [] i d k within p h = absurd (omega (arith, within))
above_from (x ∷ xs) zero d k within p h = (p, h)
above_from (x ∷ xs) (suc i) d k within p h = above_from xs i d k (omega (arith, within)) p h

-- none stand behind the last
pub none_above : (xs : List FlatMember) (k : Text) → AreAbove k (gathered (drop (length xs) xs))
none_above [] k = tt
none_above (x ∷ xs) k = none_above xs k

-- a member between those before an index and others
pub between : (xs ys : List FlatMember) (m : FlatMember) → gathered (xs ++ m ∷ ys)
    ≡ onto xs (add_member (chars m.name.now) (flat_value m.value) (gathered ys))
between xs ys m = onto_both xs (m ∷ ys) no_members

-- a member in the place of another
pub replaced : (xs : List FlatMember) (i : ℕ) (m : FlatMember) → i < length xs
    → gathered (slice_set xs i m)
    ≡ onto (take i xs) (add_member (chars m.name.now) (flat_value m.value) (gathered (drop (suc i) xs)))
replaced [] i m within = absurd (omega (arith, within))
replaced (x ∷ xs) zero m within = refl
replaced (x ∷ xs) (suc i) m within =
    ap (add_member (chars x.name.now) (flat_value x.value)) (replaced xs i m (omega (arith, within)))
