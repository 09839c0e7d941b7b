-- What a set of positions of a pattern stands for.
use Rattle.std.specs.Prelude.{ℕ, Bool, List, ◌∷◌, ◌⊎◌, ◌↔◌, IsTrue}
use Rattle.jp_automaton.specs.declared.terms.Terms.{Terms}
use Rattle.jp_automaton.specs.Held.{pattern_of}
use Rattle.jp_pattern.specs.Language.{Member}
use Rattle.jp_pattern.specs.Pattern.{Text, Pattern}
use Rattle.jp_pattern.specs.Unrolled.{SomePositionHas, all_positions}

-- the pattern that is read by
abbrev pub pattern_read_by : Terms → Pattern
pattern_read_by terms = pattern_of terms.pattern.now

-- the positions in the set
abbrev pub positions_of : Terms → List ℕ
positions_of terms = all_positions terms.at_start terms.active.items

-- the text is among those that are left to read
abbrev pub IsLeft : Terms → Text → Type 0
IsLeft terms t = SomePositionHas (pattern_read_by terms) (positions_of terms) t

-- what is left once c was read, with the whole language where anew
abbrev pub TakesStep : (old : Terms) (c : ℕ) (anew : Bool) (new : Terms) → Type 0
TakesStep old c anew new =
    (t : Text) → IsLeft new t ↔ (IsLeft old (c ∷ t) ⊎ (IsTrue anew × Member (pattern_read_by old) t))
