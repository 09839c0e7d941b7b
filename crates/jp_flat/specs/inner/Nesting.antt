-- How deep tokens nest, whatever else they hold: a working file, which nobody has to believe.
use Rattle.std.specs.Prelude.{ℕ, suc, ◌-◌, Bool, true, ◌&&◌, nat_lt, List, [], ◌∷◌}
use Rattle.json.specs.Token.{Token}

-- The tokens open at most 127 brackets at once, where so many are open before them.
abbrev pub nests_from : ℕ → List Token → Bool
nests_from level [] = true
nests_from level (Token.begin_object ∷ ts) = nat_lt level 127 && nests_from (suc level) ts
nests_from level (Token.end_object ∷ ts) = nests_from (level - 1) ts
nests_from level (Token.begin_array ∷ ts) = nat_lt level 127 && nests_from (suc level) ts
nests_from level (Token.end_array ∷ ts) = nests_from (level - 1) ts
nests_from level (Token.key s ∷ ts) = nests_from level ts
nests_from level (Token.string s ∷ ts) = nests_from level ts
nests_from level (Token.number s ∷ ts) = nests_from level ts
nests_from level (Token.boolean b ∷ ts) = nests_from level ts
nests_from level (Token.null ∷ ts) = nests_from level ts
nests_from level (Token.bad ∷ ts) = nests_from level ts
