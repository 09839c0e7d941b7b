-- Where the places of slices lie.
use Rattle.std.proofs.Common.{◌≡◌, ℕ, zero, suc, ◌≤◌, ℤ, pos, negsuc, Bool, true, false, cond, List, [], ◌∷◌}
use Rattle.std.proofs.Common.{◌++◌, length, Option, None, if◌then◌else◌, refl, sym, ap, ap₂, ◌∙◌, arith}
use Rattle.std.specs.Prelude.{nat_lt}
use Rattle.std.specs.Prelude.{◌≤ℤ◌, ◌<ℤ◌}
use Rattle.std.proofs.lemmas.Bool.Decides.{nat_tests}
use Rattle.std.proofs.lemmas.Int.{ints}
use lib.IntN.{nat_abs}
use Rattle.jp_doc.specs.Json.{Json, null, truth, number, text, array, object, Items, no_items, add_item}
use Rattle.jp_doc.specs.Json.{item_list}
use Rattle.jp_doc.specs.Location.{Location, node, index, item_at}
use Rattle.jp_doc.specs.Reading.{max_line}
use Rattle.jp_node.specs.Nodes.{items_at, node_if_some}
use Rattle.jp_node.specs.Selected.{index_places, slice_places}
use Rattle.jp_node.specs.Index.{place_of}
use Rattle.jp_node.specs.Places.{max_place}
use Rattle.jp_flat.specs.Value.{item_count}
use Rattle.jp_node.specs.Slice.{Bounds, slice_bounds, slice_indexes}

no_place : (z : ℤ) → place_of z 0 ≡ []
no_place (pos n) = let t : nat_lt n 0 ≡ false = grind (arith, nat_tests) in rw t refl
no_place (negsuc n) = let t : nat_lt n 0 ≡ false = grind (arith, nat_tests) in rw t refl

index_level : (z : ℤ) (v : Json) → place_of z (item_count v) ≡ index_places z v
index_level z null = no_place z
index_level z (truth b) = no_place z
index_level z (number x) = no_place z
index_level z (text t) = no_place z
index_level z (array vs) = refl
index_level z (object ms) = no_place z

pub index_found : (v : Json) (z place : ℤ) (len : ℕ) → place ≡ z → len ≡ item_count v
    → place_of place len ≡ index_places z v
index_found v z place len e same = ap₂ place_of e same ∙ index_level z v

abbrev nothing : List ℕ
nothing = []

no_indexes : (b : Bool) (c : Bool) → cond b nothing (cond c nothing nothing) ≡ nothing
no_indexes true c = refl
no_indexes false true = refl
no_indexes false false = refl

slice_level : (first past step : Option ℤ) (v : Json)
    → slice_indexes (slice_bounds first past step (item_count v)) (item_count v) ≡ slice_places first past
    step v
slice_level first past step null = no_indexes _ _
slice_level first past step (truth b) = no_indexes _ _
slice_level first past step (number x) = no_indexes _ _
slice_level first past step (text t) = no_indexes _ _
slice_level first past step (array vs) = refl
slice_level first past step (object ms) = no_indexes _ _

pub slice_found : (v : Json) (first past step : Option ℤ) (len : ℕ) (b : Bounds) → len ≡ item_count v
    → b ≡ slice_bounds first past step len
    → slice_indexes b (item_count v) ≡ slice_places first past step v
slice_found v first past step len b same e = ap (λ c. slice_indexes c (item_count v)) (e
    ∙ ap (slice_bounds first past step) same) ∙ slice_level first past step v

-- ---- an index that is not from the end

no_item : (vs : Items) (i : ℕ) → length (item_list vs) ≤ i → item_at i vs ≡ None
no_item no_items i h = refl
no_item (add_item v vs) zero h = absurd (omega arith)
no_item (add_item v vs) (suc i) h = no_item vs i (omega arith)

item_or_none : (at : Location) (vs : Items) (i : ℕ) (b : Bool) → nat_lt i (length (item_list vs)) ≡ b
    → items_at (node at (array vs)) (i ∷ []) ≡ items_at (node at (array vs)) (if b then i ∷ [] else [])
item_or_none at vs i true h = refl
item_or_none at vs i false h =
    let past : length (item_list vs) ≤ i = grind (arith, nat_tests) in
    ap (λ o. node_if_some (at ++ index i ∷ []) o ++ []) (no_item vs i past)

-- the item at its place, be there one or not
pub free_place : (at : Location) (v : Json) (i : ℕ)
    → items_at (node at v) (i ∷ []) ≡ items_at (node at v) (index_places (pos i) v)
free_place at null i = refl
free_place at (truth b) i = refl
free_place at (number x) i = refl
free_place at (text t) i = refl
free_place at (array vs) i = item_or_none at vs i (nat_lt i (length (item_list vs))) refl
free_place at (object ms) i = refl

none_far : (i len : ℕ) → len ≤ i → place_of (pos i) len ≡ []
none_far i len h = let t : nat_lt i len ≡ false = grind (arith, nat_tests) in rw t refl

pub far_place : (v : Json) (i : ℕ) → item_count v ≤ i → index_places (pos i) v ≡ []
far_place v i h = sym (index_level (pos i) v) ∙ none_far i (item_count v) h

-- the same of a number that is not negative, and of one that is above all places
pub place_or_none : (at : Location) (v : Json) (z : ℤ) → pos 0 ≤ℤ z
    → items_at (node at v) (nat_abs z ∷ []) ≡ items_at (node at v) (index_places z v)
place_or_none at v (pos i) low = free_place at v i
place_or_none at v (negsuc i) low = absurd (omega (arith, ints, low))

pub none_above : (at : Location) (v : Json) (z : ℤ) → item_count v ≤ max_line → pos 0 ≤ℤ z
    → pos max_place <ℤ z → [] ≡ items_at (node at v) (index_places z v)
none_above at v (pos i) few low high =
    let past : item_count v ≤ i = omega (arith, ints, few, high) in
    sym (ap (items_at (node at v)) (far_place v i past))
none_above at v (negsuc i) few low high = absurd (omega (arith, ints, low))
