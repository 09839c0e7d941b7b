-- A search counts at most one bracket more with each node.
use Rattle.std.proofs.Common.{◌≡◌, ℕ, zero, suc, ◌+◌, ◌≤◌, Bool, true, false, List, [], ◌∷◌, Option, Some}
use Rattle.std.proofs.Common.{None, IfSome, sym, subst, arith, if◌then◌else◌, bytes_eq}
use Rattle.json.specs.Token.{Token}
use Rattle.jp_flat.specs.inner.Decimals.{Place, place, opened, outer, closed, named, counted, after}
use Rattle.jp_flat.specs.inner.Plain.{is_whole_text}

abbrev count_of : Place → Option ℕ
count_of (place found k ns) = found

-- a search that has found a number has counted at most so many brackets since
abbrev IsWithin : ℕ → Place → Type 0
IsWithin most p = IfSome (count_of p) (λ n. n ≤ most)

more : (most : ℕ) (found : Option ℕ) → IfSome found (λ n. n ≤ most) → IfSome found (λ n. n ≤ most + 1)
more most None h = tt
more most (Some n) h = omega (arith, h)

open_within : (most : ℕ) (p : Place) → IsWithin most p → IsWithin (most + 1) (opened p)
open_within most (place None k ns) h = tt
open_within most (place (Some n) k ns) h = omega (arith, h)

outer_within : (most : ℕ) (found : Option ℕ) (ns : List (List ℕ)) → IfSome found (λ n. n ≤ most)
    → IsWithin (most + 1) (outer found ns)
outer_within most found [] h = more most found h
outer_within most found (k ∷ ns) h = more most found h

close_within : (most : ℕ) (p : Place) → IsWithin most p → IsWithin (most + 1) (closed p)
close_within most (place None k ns) h = outer_within most None ns tt
close_within most (place (Some zero) k ns) h = outer_within most (Some zero) ns h
close_within most (place (Some (suc n)) k ns) h = omega (arith, h)

covered_within : (b : Bool) (most : ℕ) → IfSome (if b then None else Some zero) (λ n. n ≤ most + 1)
covered_within true most = tt
covered_within false most = omega arith

name_within : (l : List ℕ) (most : ℕ) (p : Place) → IsWithin most p → IsWithin (most + 1) (named l p)
name_within l most (place None k ns) h = tt
name_within l most (place (Some zero) k ns) h = covered_within (bytes_eq k l) most
name_within l most (place (Some (suc n)) k ns) h = omega (arith, h)

number_within : (s : List ℕ) (most : ℕ) (p : Place) → IsWithin most p → IsWithin (most + 1) (counted s p)
number_within s most (place None k ns) h = covered_within (is_whole_text s) most
number_within s most (place (Some n) k ns) h = more most (Some n) h

stays_within : (most : ℕ) (p : Place) → IsWithin most p → IsWithin (most + 1) p
stays_within most (place found k ns) h = more most found h

after_within : (t : Token) (most : ℕ) (p : Place) → IsWithin most p → IsWithin (most + 1) (after t p)
after_within Token.begin_object most p h = open_within most p h
after_within Token.end_object most p h = close_within most p h
after_within Token.begin_array most p h = open_within most p h
after_within Token.end_array most p h = close_within most p h
after_within (Token.key k) most p h = name_within k most p h
after_within (Token.string s) most p h = stays_within most p h
after_within (Token.number s) most p h = number_within s most p h
after_within (Token.boolean b) most p h = stays_within most p h
after_within Token.null most p h = stays_within most p h
after_within Token.bad most p h = stays_within most p h

pub one_more : (t : Token) (most : ℕ) (p : Place) (found : Option ℕ) (k : List ℕ) (ns : List (List ℕ))
    → IsWithin most p → place found k ns ≡ after t p → IfSome found (λ n. n ≤ most + 1)
one_more t most p found k ns h is = subst (IsWithin (most + 1)) (sym is) (after_within t most p h)
