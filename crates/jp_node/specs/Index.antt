-- Indexes (RFC 9535, 2.3.3).
use Rattle.std.specs.Prelude.{ℕ, ◌-◌, ◌+◌, nat_lt, ℤ, pos, negsuc, List, [], ◌∷◌, if◌then◌else◌}

-- the place of an index in an array with len items: a negative one counts from the end
abbrev pub place_of : ℤ → ℕ → List ℕ
place_of (pos i) len = if nat_lt i len then i ∷ [] else []
place_of (negsuc i) len = if nat_lt i len then (len - (i + 1)) ∷ [] else []
