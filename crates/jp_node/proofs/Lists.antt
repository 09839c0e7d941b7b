-- Items and members as lists.
use Rattle.std.proofs.Common.{◌≡◌, ℕ, zero, suc, ◌+◌, ◌<◌, ◌≤◌, List, [], ◌∷◌, map, drop, Option}
use Rattle.std.proofs.Common.{Some, IfSome}
use Rattle.std.proofs.Common.{refl, ap, sym, ◌∙◌, subst, arith}
use Rattle.std.specs.Str.{chars}
use Rattle.jp_doc.specs.Height.{height}
use Rattle.jp_doc.specs.Json as json
use Rattle.jp_doc.specs.Json.{Json, array, object, items, item_list}
use Rattle.jp_doc.specs.Json.{no_items, add_item}
use Rattle.jp_doc.specs.Json.{add_member}
use Rattle.jp_flat.specs.Gathered.{entry, gathered}
use Rattle.jp_flat.specs.Value.{flat_value}
use Rattle.jp_flat.specs.declared.value.FlatMember.{FlatMember}
use Rattle.jp_node.specs.Inside.{items_inside, members_inside}
use Rattle.jp_node.specs.Members.{members}

pub items_back : (vs : json.Items) → items (item_list vs) ≡ vs
items_back no_items = refl
items_back (add_item v vs) = ap (add_item v) (items_back vs)

pub list_back : (xs : List Json) → item_list (items xs) ≡ xs
list_back [] = refl
list_back (x ∷ xs) = ap (λ ys. x ∷ ys) (list_back xs)

-- the array that a value is, of its items
pub array_of : (v w : Json) (vs : json.Items) → w ≡ array vs → v ≡ w
    → w ≡ array (items (item_list (items_inside v)))
array_of v w vs is same =
    is ∙ ap array (sym (items_back vs))
    ∙ ap (λ x. array (items (item_list (items_inside x)))) (sym (same ∙ is))

pub object_of : (v w : Json) (ms : json.Members) → w ≡ object ms → v ≡ w → w ≡ object (members_inside v)
object_of v w ms is same = is ∙ ap (λ x. object (members_inside x)) (sym (same ∙ is))

-- a child is below its value
pub of_child : (o : Option Json) (w : Json) (n : ℕ) → Some w ≡ o → IfSome o (λ x. height x < n)
    → height w < n
of_child o w n is h = subst (λ x. IfSome x (λ y. height y < n)) (sym is) h

-- members that were gathered
pub gathered_members : (list : List FlatMember) → gathered list ≡ members (map entry list)
gathered_members [] = refl
gathered_members (m ∷ list) = ap (add_member (chars m.name.now) (flat_value m.value)) (gathered_members list)

-- ---- behind the first so many

pub drop_more : (xs left : List Json) (x : Json) (i : ℕ) → drop i xs ≡ x ∷ left → drop (i + 1) xs ≡ left
drop_more [] left x zero h = absurd cc
drop_more [] left x (suc i) h = absurd cc
drop_more (y ∷ ys) left x zero h = ap (drop 1) h
drop_more (y ∷ ys) left x (suc i) h =
    let e : suc i + 1 ≡ suc (i + 1) = omega arith in rw e (drop_more ys left x i h)

pub drop_enough : (xs : List Json) (i n : ℕ) → drop i xs ≡ [] → i ≤ n → drop n xs ≡ []
drop_enough [] i zero h le = refl
drop_enough [] i (suc n) h le = refl
drop_enough (y ∷ ys) zero n h le = absurd cc
drop_enough (y ∷ ys) (suc i) zero h le = absurd (omega (arith, le))
drop_enough (y ∷ ys) (suc i) (suc n) h le = drop_enough ys i n h (omega (arith, le))
