-- Values whose members are in order.
use Rattle.std.proofs.Common.{◌≡◌, suc, Bool, true, false, ◌&&◌, cond, List, [], ◌∷◌, length, map, Option}
use Rattle.std.proofs.Common.{Some, None, Vec, Global, is_some, refl, ap, sym, ◌∙◌, ◌||◌, arith}
use Rattle.jp_doc.specs.Json.{Text, text_eq, Json, null, truth, number, text, array, object}
use Rattle.jp_doc.specs.Json.{Members}
use Rattle.jp_doc.specs.Location.{member_at}
use Rattle.jp_node.specs.Members.{members, list_entries}
use Rattle.jp_node.specs.declared.members.MemberList.{MemberList}
use Rattle.jp_node.specs.declared.members.Members as code
use Rattle.jp_value.specs.Comparison.{same, same_members, below, lt, eq, le}
use Rattle.jp_value.specs.Operands.{IsCompound}
use Rattle.jp_value.specs.Ordered.{named, ordered_value, ordered_values, value_of_layer}
use Rattle.jp_value.specs.declared.ordered.Ordered.{Ordered}
use Rattle.jp_value.specs.declared.ordered.Ordered.TheFolds.{fold-roll-Ordered}
use Rattle.jp_value.specs.declared.ordered.Ordered.TheVariants.{Object, rolls-Object}
use Rattle.jp_value.proofs.Apart.{apart}
use Rattle.jp_value.proofs.Lengths.{and_false}
use Rattle.jp_value.proofs.Sameness.{eq_turn}

pub ordered_object : (ms : code.Members) (l : MemberList) (vs : Vec Ordered Global)
    → ordered_value (Object ms l vs) ≡ object (named (list_entries l) (ordered_values vs.items))
ordered_object ms l vs =
    ap ordered_value (sym (rolls-Object ms l vs)) ∙ fold-roll-Ordered Json value_of_layer _

-- the members of names and of their own values
pub named_members : (es : List (Text × Json)) (vs : List Json) → vs ≡ map (λ e. e.1) es
    → named es vs ≡ members es
named_members [] [] is = refl
named_members [] (v ∷ vs) is = refl
named_members (e ∷ es) [] is = absurd cc
named_members (e ∷ es) (v ∷ vs) is =
    let first : v ≡ e.1 = cc in
    let others : vs ≡ map (λ d. d.1) es = cc in
    rw (first, named_members es vs others)

not_found : (b : Bool) (v w : Json) (o p : Option Json) → cond b (Some v) o ≡ None
    → (o ≡ None → p ≡ None) → cond b (Some w) p ≡ None
not_found true v w o p h f = absurd cc
not_found false v w o p h f = f h

-- a name that is none of the names
lacking : (k : Text) (es : List (Text × Json)) (vs : List Json) → member_at k (members es) ≡ None
    → member_at k (named es vs) ≡ None
lacking k [] [] h = refl
lacking k [] (v ∷ vs) h = refl
lacking k (e ∷ es) [] h = refl
lacking k (e ∷ es) (v ∷ vs) h =
    not_found (text_eq k e.0) e.1 v (member_at k (members es)) (member_at k (named es vs)) h (lacking k es vs)

pub apart_from_named : (k : Text) (ms : Members) (es : List (Text × Json)) (vs : List Json)
    → is_some (member_at k ms) ≡ true → member_at k (members es) ≡ None
    → false ≡ same_members ms (named es vs)
apart_from_named k ms es vs has lacks = apart k ms (named es vs) has (lacking k es vs lacks)

-- as many names as values, and another number of members
pub unequally_named : (es fs : List (Text × Json)) (os : List Ordered) → (length es ≡ length fs → ⊥)
    → length fs ≡ length os → false ≡ same_members (members es) (named fs (map ordered_value os))
unequally_named [] [] os h is = absurd (h refl)
unequally_named [] (f ∷ fs) [] h is = absurd cc
unequally_named [] (f ∷ fs) (o ∷ os) h is = refl
unequally_named (e ∷ es) [] [] h is = refl
unequally_named (e ∷ es) [] (o ∷ os) h is = refl
unequally_named (e ∷ es) (f ∷ fs) [] h is = refl
unequally_named (e ∷ es) (f ∷ fs) (o ∷ os) h is =
    and_false (text_eq e.0 f.0 && same e.1 (ordered_value o))
    (same_members (members es) (named fs (map ordered_value os)))
    (unequally_named es fs os (λ e. h (ap (λ n. suc n) e)) (omega (arith, is)))

-- an array or an object is above nothing, and below nothing

none_below : (v w : Json) → IsCompound w → below v w ≡ false
none_below null (array ws) h = refl
none_below (truth b) (array ws) h = refl
none_below (number x) (array ws) h = refl
none_below (text s) (array ws) h = refl
none_below (array vs) (array ws) h = refl
none_below (object ms) (array ws) h = refl
none_below null (object ns) h = refl
none_below (truth b) (object ns) h = refl
none_below (number x) (object ns) h = refl
none_below (text s) (object ns) h = refl
none_below (array vs) (object ns) h = refl
none_below (object ms) (object ns) h = refl
none_below v null h = absurd h
none_below v (truth b) h = absurd h
none_below v (number x) h = absurd h
none_below v (text s) h = absurd h

none_above : (v w : Json) → IsCompound w → below w v ≡ false
none_above v (array ws) h = refl
none_above v (object ns) h = refl
none_above v null h = absurd h
none_above v (truth b) h = absurd h
none_above v (number x) h = absurd h
none_above v (text s) h = absurd h

pub not_above : (a : Option Json) (w : Json) → IsCompound w → lt a (Some w) ≡ false
not_above None w h = refl
not_above (Some v) w h = none_below v w h

pub not_below : (a : Option Json) (w : Json) → IsCompound w → lt (Some w) a ≡ false
not_below None w h = refl
not_below (Some v) w h = none_above v w h

-- such a value is at most, or at least, what it is equal to

pub at_most : (a : Option Json) (w : Json) → IsCompound w → eq a (Some w) ≡ le a (Some w)
at_most a w h = sym (ap (λ x. x || eq a (Some w)) (not_above a w h))

pub at_least : (a : Option Json) (w : Json) → IsCompound w → eq a (Some w) ≡ le (Some w) a
at_least a w h = eq_turn a (Some w) ∙ sym (ap (λ x. x || eq (Some w) a) (not_below a w h))
