-- Items of an array, and members of an object, that stand one behind another.
use Rattle.std.proofs.Common.{◌≡◌, ℕ, zero, suc, ◌+◌, ◌-◌, ◌≤◌, List, [], ◌∷◌, ◌++◌, length, take, drop}
use Rattle.std.proofs.Common.{refl, ap, ◌∙◌, subst, arith, add-zero}
use Rattle.jp_doc.specs.Height.{items_height, members_height}
use Rattle.jp_doc.specs.Json.{Text, Json, items}
use Rattle.jp_doc.specs.Location.{Location, node, index, name}
use Rattle.jp_node.specs.Members.{members}
use Rattle.jp_node.specs.Nodes.{item_nodes, member_nodes}

-- ---- so many items

pub take_none : (n : ℕ) → take {A = Json} n [] ≡ []
take_none zero = refl
take_none (suc n) = refl

drop_none : (n : ℕ) → drop {A = Json} n [] ≡ []
drop_none zero = refl
drop_none (suc n) = refl

pub take_enough : (n : ℕ) (xs : List Json) → length xs ≤ n → take n xs ≡ xs
take_enough n [] h = take_none n
take_enough zero (x ∷ xs) h = absurd (omega (arith, h))
take_enough (suc n) (x ∷ xs) h = ap (λ ys. x ∷ ys) (take_enough n xs (omega (arith, h)))

joined : (at : Location) (i m k : ℕ) (xs : List Json)
    → item_nodes at i (items (take m xs)) ++ item_nodes at (i + m) (items (take k (drop m xs)))
    ≡ item_nodes at i (items (take (m + k) xs))
joined at i zero k xs = let e : zero + k ≡ k = omega arith in rw (add-zero i, e) refl
joined at i (suc m) k [] =
    rw (take_none k, take_none (suc m + k)) refl
joined at i (suc m) k (x ∷ xs) =
    let e : i + suc m ≡ (i + 1) + m = omega arith in
    let f : suc m + k ≡ suc (m + k) = omega arith in
    rw (e, f) (ap (λ ns. node (at ++ index i ∷ []) x ∷ ns) (joined at (i + 1) m k xs))

-- the items of two halves
pub halves_of_items : (at : Location) (first half past : ℕ) (xs : List Json) → half ≤ past - first
    → item_nodes at first (items (take (first + half - first) xs))
    ++ item_nodes at (first + half) (items (take (past - (first + half)) (drop half xs)))
    ≡ item_nodes at first (items (take (past - first) xs))
halves_of_items at first half past xs h =
    let e : first + half - first ≡ half = omega arith in
    let f : half + (past - (first + half)) ≡ past - first = omega (arith, h) in
    rw e (joined at first half (past - (first + half)) xs
    ∙ ap (λ n. item_nodes at first (items (take n xs))) f)

-- those behind the first so many are no higher
pub others_height : (m : ℕ) (xs : List Json) → items_height (items (drop m xs)) ≤ items_height (items xs)
others_height zero xs = omega arith
others_height (suc m) [] = omega arith
others_height (suc m) (x ∷ xs) = let h = others_height m xs in omega (arith, h)

-- ---- members in two parts

abbrev Entries : Type 0
Entries = List (Text × Json)

members_joined : (at : Location) (es fs : Entries)
    → member_nodes at (members es) ++ member_nodes at (members fs) ≡ member_nodes at (members (es ++ fs))
members_joined at [] fs = refl
members_joined at (e ∷ es) fs = ap (λ ns. node (at ++ name e.0 ∷ []) e.1 ∷ ns) (members_joined at es fs)

pub halves_of_members : (at : Location) (es fs all : Entries) → es ++ fs ≡ all
    → member_nodes at (members es) ++ member_nodes at (members fs) ≡ member_nodes at (members all)
halves_of_members at es fs all is = members_joined at es fs
    ∙ ap (λ (l : Entries). member_nodes at (members l)) is

front_height : (es fs : Entries) → members_height (members es) ≤ members_height (members (es ++ fs))
front_height [] fs = omega arith
front_height (e ∷ es) fs = let h = front_height es fs in omega (arith, h)

back_height : (es fs : Entries) → members_height (members fs) ≤ members_height (members (es ++ fs))
back_height [] fs = omega arith
back_height (e ∷ es) fs = let h = back_height es fs in omega (arith, h)

pub front_members : (es fs all : Entries) → es ++ fs ≡ all
    → suc (members_height (members es)) ≤ suc (members_height (members all))
front_members es fs all is =
    subst (λ (l : Entries). suc (members_height (members es)) ≤ suc (members_height (members l))) is
    (let h = front_height es fs in omega (arith, h))

pub back_members : (es fs all : Entries) → es ++ fs ≡ all
    → suc (members_height (members fs)) ≤ suc (members_height (members all))
back_members es fs all is =
    subst (λ (l : Entries). suc (members_height (members fs)) ≤ suc (members_height (members l))) is
    (let h = back_height es fs in omega (arith, h))
