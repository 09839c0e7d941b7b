-- A working file, which nobody has to believe: one pattern that stands for another and is no greater. No
-- public contract names it.
use Rattle.std.specs.Prelude.{◌≡◌, ◌≤◌, ◌++◌, Bool, IsTrue, List, []}
use Rattle.jp_automaton.specs.SameLanguage.{SameLanguage}
use Rattle.jp_pattern.specs.Language.{Member}
use Rattle.jp_pattern.specs.Pattern.{Pattern}
use Rattle.jp_pattern.specs.Profile.{HasCounts, depth, size}
use Rattle.jp_pattern.specs.Tree.{in_turn, before_last}

-- q has the language of p, and keeps to the limits that p keeps to
pub record IsSimpler (p q : Pattern) : Type 0 where
  pub counts : HasCounts q
  pub no_deeper : depth q ≤ depth p
  pub language : SameLanguage p q

-- q may stand for p, if p keeps to the limits of counts
abbrev pub StandsFor : Pattern → Pattern → Type 0
StandsFor p q = HasCounts p → IsSimpler p q

-- a branch of the second pieces may stand for one of the first, whatever pieces follow
abbrev pub StandInTurn : List Pattern → List Pattern → Type 0
StandInTurn ps qs = (others : List Pattern) → StandsFor (in_turn (ps ++ others)) (in_turn (qs ++ others))

-- the second branches may stand for the first, whatever branches follow, and the last of them has the empty
-- text where the flag says so
abbrev pub StandBefore : Bool → List Pattern → List Pattern → Type 0
StandBefore is_last_empty ps qs =
    (others : List Pattern) (last : Pattern) → (IsTrue is_last_empty → size last ≡ 0)
    → StandsFor (before_last (ps ++ others) last) (before_last (qs ++ others) last)

-- one of these branches and those that follow has the empty text, where the second flag says so; the first
-- flag is as above
abbrev pub HasEmpty : Bool → Bool → List Pattern → Type 0
HasEmpty is_last_empty has_empty qs =
    IsTrue has_empty → (others : List Pattern) (last : Pattern) → (IsTrue is_last_empty → size last ≡ 0)
    → HasCounts (before_last (qs ++ others) last) → Member (before_last (qs ++ others) last) []
