-- A child is less high than its value.
use Rattle.std.proofs.Common.{ℕ, zero, suc, ◌<◌, Option, Some, Bool, true, false, cond, IfSome, arith}
use Rattle.jp_doc.specs.Json.{Text, text_eq, Json, null, truth, number, text, array, object, Items, no_items}
use Rattle.jp_doc.specs.Json.{add_item, Members, no_members, add_member}
use Rattle.jp_doc.specs.Location.{Step, name, index, member_at, item_at, member_of, item_of, child_at}
use Rattle.jp_doc.specs.Height.{height, items_height, members_height}

pick : (b : Bool) (n : ℕ) (v : Json) (rest : Option Json) → height v < n
    → IfSome rest (λ w. height w < n) → IfSome (cond b (Some v) rest) (λ w. height w < n)
pick true n v rest p q = p
pick false n v rest p q = q

member_at_below : (k : Text) (n : ℕ) (ms : Members) → members_height ms < n
    → IfSome (member_at k ms) (λ w. height w < n)
member_at_below k n no_members h = tt
member_at_below k n (add_member l v ms) h = pick (text_eq k l) n v (member_at k ms) (omega (arith, h))
    (member_at_below k n ms (omega (arith, h)))

pub member_below : (k : Text) (v : Json) → IfSome (member_of k v) (λ w. height w < height v)
member_below k null = tt
member_below k (truth b) = tt
member_below k (number x) = tt
member_below k (text s) = tt
member_below k (array vs) = tt
member_below k (object ms) = member_at_below k (suc (members_height ms)) ms (omega arith)

item_at_below : (i n : ℕ) (vs : Items) → items_height vs < n → IfSome (item_at i vs) (λ w. height w < n)
item_at_below i n no_items h = tt
item_at_below zero n (add_item v vs) h = omega (arith, h)
item_at_below (suc i) n (add_item v vs) h = item_at_below i n vs (omega (arith, h))

pub item_below : (i : ℕ) (v : Json) → IfSome (item_of i v) (λ w. height w < height v)
item_below i null = tt
item_below i (truth b) = tt
item_below i (number x) = tt
item_below i (text s) = tt
item_below i (array vs) = item_at_below i (suc (items_height vs)) vs (omega arith)
item_below i (object ms) = tt

pub child_below : (s : Step) (v : Json) → IfSome (child_at s v) (λ w. height w < height v)
child_below (name k) v = member_below k v
child_below (index i) v = item_below i v
