-- Whether tokens hold a number that is not whole, and that no later member of its name covers: a working
-- file, which nobody has to believe.
use Rattle.std.specs.Prelude.{ℕ, zero, suc, Bool, ◌&&◌, ◌||◌, ◌==◌, List, [], ◌∷◌, drop, slice_index, map}
use Rattle.std.specs.Prelude.{reverse, true, false, Option, Some, None, if◌then◌else◌}
use Rattle.std.specs.Borrow.{Bor}
use Rattle.std.specs.Float.{binary64, float_is_finite}
use Rattle.std.specs.Str.{bytes_eq}
use Rattle.fast_float.specs.Text.{scan, nearest}
use Rattle.json.specs.Token.{Token}
use Rattle.jp_doc.specs.declared.fault.DocFault.{DocFault}
use Rattle.jp_doc.specs.declared.fault.DocFault.TheVariants.{Unreadable, NotWhole}
use Rattle.jp_flat.specs.inner.Nesting.{nests_from}
use Rattle.jp_flat.specs.inner.Plain.{is_whole_text}
use Rattle.jp_flat.specs.declared.decimals.Search.{Search}

-- Where a search stands: whether a number was found, and then how many brackets were opened since in what
-- stands around it; the name of the member here, or around what was found; and the names around that one, the
-- innermost first.
pub data Place : Type 0 where
  place : Option ℕ → List ℕ → List (List ℕ) → Place

abbrev pub opened : Place → Place
opened (place None k ns) = place None [] (k ∷ ns)
opened (place (Some n) k ns) = place (Some (suc n)) k ns

abbrev pub outer : Option ℕ → List (List ℕ) → Place
outer found [] = place found [] []
outer found (k ∷ ns) = place found k ns

abbrev pub closed : Place → Place
closed (place None k ns) = outer None ns
closed (place (Some zero) k ns) = outer (Some zero) ns
closed (place (Some (suc n)) k ns) = place (Some n) k ns

-- a later member of the name covers what was found
abbrev pub named : List ℕ → Place → Place
named l (place None k ns) = place None l ns
named l (place (Some zero) k ns) = place (if bytes_eq k l then None else Some zero) k ns
named l (place (Some (suc n)) k ns) = place (Some (suc n)) k ns

abbrev pub counted : List ℕ → Place → Place
counted s (place None k ns) = place (if is_whole_text s then None else Some zero) k ns
counted s (place (Some n) k ns) = place (Some n) k ns

abbrev pub after : Token → Place → Place
after Token.begin_object p = opened p
after Token.end_object p = closed p
after Token.begin_array p = opened p
after Token.end_array p = closed p
after (Token.key k) p = named k p
after (Token.string s) p = p
after (Token.number s) p = counted s p
after (Token.boolean b) p = p
after Token.null p = p
after Token.bad p = p

abbrev pub search : List Token → Place → Place
search [] p = p
search (t ∷ ts) p = search ts (after t p)

abbrev pub is_found : Place → Bool
is_found (place None k ns) = false
is_found (place (Some n) k ns) = true

abbrev pub holds_decimal : List Token → Bool
holds_decimal ts = is_found (search ts (place None [] []))

-- where the code's search stands
abbrev pub names_of : List (Bor (List ℕ)) → List (List ℕ)
names_of names = map (λ s. s.now) (reverse names)

abbrev pub place_of : Search → Place
place_of s = place s.found s.name.now (names_of s.above.items)

-- The JSON crate reads a number of this text: a whole one of 64 bits, or a float that is finite.
abbrev pub is_finite_text : List ℕ → Bool
is_finite_text s =
    if slice_index s 0 == 45 then float_is_finite (nearest binary64 true (scan (drop 1 s)))
    else float_is_finite (nearest binary64 false (scan s))

abbrev pub is_readable : List ℕ → Bool
is_readable s = is_whole_text s || is_finite_text s

abbrev pub are_readable : List Token → Bool
are_readable [] = true
are_readable (Token.begin_object ∷ ts) = are_readable ts
are_readable (Token.end_object ∷ ts) = are_readable ts
are_readable (Token.begin_array ∷ ts) = are_readable ts
are_readable (Token.end_array ∷ ts) = are_readable ts
are_readable (Token.key s ∷ ts) = are_readable ts
are_readable (Token.string s ∷ ts) = are_readable ts
are_readable (Token.number s ∷ ts) = is_readable s && are_readable ts
are_readable (Token.boolean b ∷ ts) = are_readable ts
are_readable (Token.null ∷ ts) = are_readable ts
are_readable (Token.bad ∷ ts) = are_readable ts

-- the fault that a pass over the tokens of a line tells, where numbers have to be whole
abbrev pub whole_fault : List Token → Option DocFault
whole_fault ts =
    if nests_from 0 ts && are_readable ts then (if holds_decimal ts then Some NotWhole else None)
    else Some Unreadable
