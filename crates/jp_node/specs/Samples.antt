-- Values and steps that worked examples speak of, here and in the crates above.
use Rattle.std.specs.Prelude.{ℕ, pos, List, [], ◌∷◌, codes}
use Rattle.jp_doc.specs.Json.{Text, Json, null, number, array, object, items, no_members, add_member}
use Rattle.jp_doc.specs.Location as at
use Rattle.jp_number.specs.Number.{whole}

-- a number, and an array of values
abbrev pub num : ℕ → Json
num n = number (whole (pos n))

abbrev pub arr : List Json → Json
arr vs = array (items vs)

-- an object with one member, and with two
abbrev pub obj : Text → Json → Json
obj k v = object (add_member k v no_members)

abbrev pub obj2 : Text → Json → Text → Json → Json
obj2 k v l w = object (add_member k v (add_member l w no_members))

-- steps
abbrev pub to : Text → at.Step
to k = at.name k

abbrev pub item : ℕ → at.Step
item i = at.index i

-- `[1,{"c":2}]`
abbrev pub listed : Json
listed = arr (num 1 ∷ obj (codes "c") (num 2) ∷ [])

-- `{"a":null,"b":[1,{"c":2}]}`
abbrev pub nested : Json
nested = obj2 (codes "a") null (codes "b") listed

-- `[5,6]`
abbrev pub five_six : Json
five_six = arr (num 5 ∷ num 6 ∷ [])
