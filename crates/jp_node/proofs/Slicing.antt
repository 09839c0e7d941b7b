-- Items at the places of a slice: ahead of a cursor, and between two places.
use Rattle.std.proofs.Common.{◌≡◌, ℕ, zero, suc, ◌+◌, ◌-◌, ◌<◌, ◌≤◌, true, false, ◌&&◌}
use Rattle.std.proofs.Common.{List, [], ◌∷◌, ◌++◌, length, map, take, drop, Option, Some, None, IfSome}
use Rattle.std.proofs.Common.{refl, sym, ap, ap₂, ◌∙◌, subst, arith, zero-add, append_assoc}
use Rattle.std.specs.Prelude.{ℤ, pos, negsuc, ◌-ℤ◌, ◌<ℤ◌, ◌≤ℤ◌, int_lt, int_le}
use Rattle.std.specs.List.{slice_get, filter, range_with_len}
use Rattle.std.proofs.lemmas.Bool.{and_parts}
use Rattle.std.proofs.lemmas.Int.{ints}
use Rattle.std.proofs.lemmas.List.{drop-drop, map-append}
use Rattle.jp_doc.specs.Json.{Json, array, items}
use Rattle.jp_doc.specs.Location.{Node, index, item_at}
use Rattle.jp_flat.specs.Value.{item_count}
use Rattle.jp_node.proofs.Lists.{list_back}
use Rattle.jp_node.specs.Part.{part_value}
use Rattle.jp_node.specs.declared.part.Part.{Part}
use Rattle.jp_node.specs.Places.{AreWithin, IsPlace, from_place, later}
use Rattle.jp_node.specs.Slice.{Bounds, meets_rising, meets_falling, is_multiple}
use Rattle.jp_node.specs.Slice.{numbers_down, RisesFrom, FallsBelow}
use Rattle.jp_node.proofs.SliceOrder.{filtered_rises, filtered_falls}
use Rattle.jp_node.proofs.SlicePlaces.{less}
use Rattle.jp_node.specs.Nodes.{child, items_at}
use Rattle.jp_node.proofs.ChildRanges.{take_none}

-- ---- items at places

pub items_counted : (v : Json) (xs : List Json) → v ≡ array (items xs) → item_count v ≡ length xs
items_counted v xs is = ap item_count is ∙ ap length (list_back xs)

item_got : (i : ℕ) (xs : List Json) → slice_get xs i ≡ item_at i (items xs)
item_got i [] = refl
item_got zero (x ∷ xs) = refl
item_got (suc i) (x ∷ xs) = item_got i xs

get_front : (n i : ℕ) (xs : List Json) → i < n → slice_get (take n xs) i ≡ slice_get xs i
get_front n i [] h = ap (λ l. slice_get l i) (take_none n)
get_front zero i (x ∷ xs) h = absurd (omega (arith, h))
get_front (suc n) zero (x ∷ xs) h = refl
get_front (suc n) (suc i) (x ∷ xs) h = get_front n i xs (omega (arith, h))

get_behind : (low k : ℕ) (xs : List Json) → slice_get (drop low xs) k ≡ slice_get xs (low + k)
get_behind zero k xs = ap (slice_get xs) (sym (zero-add k))
get_behind (suc low) k [] = refl
get_behind (suc low) k (x ∷ xs) =
    let e : suc low + k ≡ suc (low + k) = omega arith in
    rw e (get_behind low k xs)

-- between two places
pub got_between : (low count place : ℕ) (xs : List Json) → low ≤ place → place - low < count
    → slice_get (take count (drop low xs)) (place - low) ≡ item_at place (items xs)
got_between low count place xs h within =
    let e : low + (place - low) ≡ place = omega (arith, h) in
    get_front count (place - low) (drop low xs) within ∙ get_behind low (place - low) xs
    ∙ ap (slice_get xs) e ∙ item_got place xs

-- one more of those that are listed
pub one_listed : (list more : List Part) (p : Part) (n i : ℕ) (left others all : List Json)
    → more ≡ list ++ p ∷ [] → i < n → left ≡ part_value p ∷ others
    → map part_value list ++ take (n - i) left ≡ all
    → map part_value more ++ take (n - (i + 1)) others ≡ all
one_listed list more p n i left others all e h first inv =
    let behind = take (n - (i + 1)) others in
    let count : n - i ≡ suc (n - (i + 1)) = omega (arith, h) in
    let front : take (n - i) left ≡ part_value p ∷ behind =
    ap (take (n - i)) first ∙ ap (λ k. take k (part_value p ∷ others)) count in
    ap (λ l. map part_value l ++ behind) e
    ∙ ap (λ l. l ++ behind) (map-append part_value list (p ∷ []))
    ∙ append_assoc (map part_value list) (part_value p ∷ []) behind
    ∙ ap (λ l. map part_value list ++ l) (sym front) ∙ inv

-- ahead of a cursor
pub ahead : (passed place : ℕ) (xs left : List Json) → passed ≤ place → left ≡ drop passed xs
    → drop (place - passed) left ≡ drop place xs
ahead passed place xs left h is =
    let e : passed + (place - passed) ≡ place = omega (arith, h) in
    ap (drop (place - passed)) is ∙ drop-drop (place - passed) passed xs ∙ ap (λ n. drop n xs) e

pub first_ahead : (place : ℕ) (xs others : List Json) (x : Json) → drop place xs ≡ x ∷ others
    → Some x ≡ item_at place (items xs)
first_ahead zero [] others x h = absurd cc
first_ahead (suc n) [] others x h = absurd cc
first_ahead zero (y ∷ ys) others x h = cc
first_ahead (suc n) (y ∷ ys) others x h = first_ahead n ys others x h

pub none_ahead : (place : ℕ) (xs : List Json) → drop place xs ≡ [] → None ≡ item_at place (items xs)
none_ahead place [] h = refl
none_ahead zero (y ∷ ys) h = absurd cc
none_ahead (suc n) (y ∷ ys) h = none_ahead n ys h

-- ---- places within bounds

no_more : (y z : ℤ) → int_le y z ≡ true → y ≤ℤ z
no_more y z h = grind (arith, ints)

rises : (z : ℤ) → pos 0 <ℤ z → int_lt (pos 0) z ≡ true
rises z h = grind (arith, ints)

falls : (z : ℤ) → z <ℤ pos 0 → int_lt z (pos 0) ≡ true
falls z h = grind (arith, ints)

falls_only : (z : ℤ) → z <ℤ pos 0 → int_lt (pos 0) z ≡ false
falls_only z h = grind (arith, ints)

-- a place of a rising slice is one of the array, and one of a falling slice is above the lower bound
pub in_reach : (b : Bounds) (len i : ℕ) → pos 0 <ℤ b.step → AreWithin b len → IsPlace b i → i < len
in_reach b len i up within at =
    let parts = and_parts (int_le b.lower (pos i) && int_lt (pos i) b.upper)
    (is_multiple (pos i -ℤ b.lower) b.step) (at.rising (rises b.step up)) in
    let below = less (pos i) b.upper (and_parts (int_le b.lower (pos i)) (int_lt (pos i) b.upper) parts.0).1
    in let top = within.upper in omega (arith, ints)

pub above_lower : (b : Bounds) (i : ℕ) → b.step <ℤ pos 0 → IsPlace b i → b.lower <ℤ pos i
above_lower b i down at =
    let parts = and_parts (int_lt b.lower (pos i) && int_le (pos i) b.upper)
    (is_multiple (b.upper -ℤ pos i) b.step) (at.falling (falls b.step down)) in
    less b.lower (pos i) (and_parts (int_lt b.lower (pos i)) (int_le (pos i) b.upper) parts.0).0

pub up_to_upper : (b : Bounds) (i : ℕ) → b.step <ℤ pos 0 → IsPlace b i → pos i ≤ℤ b.upper
up_to_upper b i down at =
    let parts = and_parts (int_lt b.lower (pos i) && int_le (pos i) b.upper)
    (is_multiple (b.upper -ℤ pos i) b.step) (at.falling (falls b.step down)) in
    no_more (pos i) b.upper (and_parts (int_lt b.lower (pos i)) (int_le (pos i) b.upper) parts.0).1

pub step_down : (z : ℤ) → z <ℤ pos 0 → z ≤ℤ negsuc 0
step_down z h = omega (arith, ints)

-- the next place of a rising slice is further on, and that of a falling slice further down
pub further_on : (b : Bounds) (len place : ℕ) (next : Option ℕ) → pos 0 <ℤ b.step
    → from_place b len next ≡ later b len place → IfSome next (λ n. place + 1 ≤ n)
further_on b len place None up h = tt
further_on b len place (Some n) up h =
    let test = meets_rising b in
    let behind = range_with_len (place + 1) (len - (place + 1)) in
    let e : (n ∷ later b len n) ≡ filter test behind = h ∙ rw (rises b.step up) refl in
    (subst (RisesFrom (place + 1)) (sym e) (filtered_rises test (len - (place + 1)) (place + 1))).0

pub further_down : (b : Bounds) (len place top : ℕ) (next : Option ℕ) → b.step <ℤ pos 0 → place ≤ top
    → from_place b len next ≡ later b len place → IfSome next (λ n. n ≤ top)
further_down b len place top None down high h = tt
further_down b len place top (Some n) down high h =
    let test = meets_falling b in
    let e : (n ∷ later b len n) ≡ filter test (numbers_down place) =
    h ∙ rw (falls_only b.step down, falls b.step down) refl in
    let below = (subst (FallsBelow place) (sym e) (filtered_falls test place)).0 in
    omega (arith, below, high)

-- ---- the items so far

-- once the item at the place is added, those at the places behind it are left
pub added : (b : Bounds) (len place : ℕ) (next : Option ℕ) (n : Node) (before now all : List Node)
    → now ≡ before ++ child (index place) n → from_place b len next ≡ later b len place
    → before ++ items_at n (from_place b len (Some place)) ≡ all
    → now ++ items_at n (from_place b len next) ≡ all
added b len place next n before now all e goes inv =
    ap₂ (λ ns is. ns ++ items_at n is) e goes
    ∙ append_assoc before (child (index place) n) (items_at n (later b len place)) ∙ inv

pub fewer_left : (b : Bounds) (len place : ℕ) (last next : Option ℕ) → last ≡ Some place
    → from_place b len next ≡ later b len place
    → length (from_place b len next) < length (from_place b len last)
fewer_left b len place last next is goes =
    subst (λ o. length (from_place b len next) < length (from_place b len o)) (sym is)
    (subst (λ l. length l < suc (length (later b len place))) (sym goes) (omega arith))
