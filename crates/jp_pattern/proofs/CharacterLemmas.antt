-- A member of a pattern consists of characters.
use Rattle.std.proofs.Common.{◌≡◌, Bool, true, false, ◌&&◌, List, [], ◌∷◌, ◌++◌, IsTrue, refl, sym, subst}
use Rattle.std.proofs.Common.{inl, inr}
use Rattle.std.specs.List.{concat, AllByRecursion}
use Rattle.jp_pattern.specs.Pattern.{Text, Pattern, empty, letter, group, seq, either, repeat, plus}
use Rattle.jp_pattern.specs.CharSets.{is_scalar, holds}
use Rattle.jp_pattern.specs.Language.{Member}

abbrev AreCharacters : Text → Type 0
AreCharacters t = AllByRecursion (λ c. IsTrue (is_scalar c)) t

append_characters : (s t : Text) → AreCharacters s → AreCharacters t → AreCharacters (s ++ t)
append_characters [] t h k = k
append_characters (c ∷ s) t h k = (h.0, append_characters s t h.1 k)

join_characters : (Part : Text → Type 0) (parts : List Text) → ((t : Text) → Part t → AreCharacters t)
    → AllByRecursion Part parts → AreCharacters (concat parts)
join_characters Part [] each all = tt
join_characters Part (t ∷ parts) each all = append_characters t (concat parts) (each t all.0)
    (join_characters Part parts each all.1)

scalar_of : (a b : Bool) → (a && b) ≡ true → a ≡ true
scalar_of true b e = refl
scalar_of false b e = absurd cc

pub member_characters : (p : Pattern) (t : Text) → Member p t → AreCharacters t
member_characters empty t e = subst AreCharacters (sym e) tt
member_characters (letter set) t (c, e, h) =
    subst AreCharacters (sym e) (scalar_of (is_scalar c) (holds set c) h, tt)
member_characters (group p) t m = member_characters p t m
member_characters (seq p q) t (u, v, e, m, n) =
    subst AreCharacters (sym e) (append_characters u v (member_characters p u m) (member_characters q v n))
member_characters (either p q) t (inl m) = member_characters p t m
member_characters (either p q) t (inr m) = member_characters q t m
member_characters (repeat least most p) t (parts, all, low, high, e) =
    subst AreCharacters (sym e) (join_characters (Member p) parts (λ s m. member_characters p s m) all)
member_characters (plus p) t (parts, all, low, high, e) =
    subst AreCharacters (sym e) (join_characters (Member p) parts (λ s m. member_characters p s m) all)
