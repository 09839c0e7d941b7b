-- Patterns that are read answer as right tests do.
use Rattle.std.proofs.Common.{◌≡◌, Bool, false, sym, ap, ◌∙◌, subst}
use mathlib.Core.Path.{fun_ext}
use Rattle.std.specs.Prelude.{IsTrue, ◌↔◌}
use Rattle.std.proofs.lemmas.Bool.{false_from_ne_true}
use Rattle.std.proofs.lemmas.Bool.Decides.{same_from_decides}
use Rattle.jp_pattern.proofs.PatternsRead.{one_tree}
use Rattle.jp_pattern.specs.Pattern.{Text, Pattern}
use Rattle.jp_pattern.specs.Language.{Found, HasPart, Matches, Member}
use Rattle.jp_pattern.specs.Profile.{IsPatternOf}
use Rattle.jp_pattern.specs.Tests.{Tests, AreRight}
use Rattle.jp_automaton.specs.SameLanguage.{IsWrittenAs}
use Rattle.jp_value.specs.RightTests.{tests, are_right}

-- what was read has the texts of the pattern that the text is
matches_held : (text pattern_text : Text) (p : Pattern) → IsWrittenAs pattern_text p
    → Matches text pattern_text → Member p text
matches_held text pattern_text p (r, is, same) (q, of, member) =
    (same.members text).0
    (subst (λ s. Member s text) (one_tree pattern_text q r of.shapes is.shapes) member)

held_matches : (text pattern_text : Text) (p : Pattern) → IsWrittenAs pattern_text p
    → Member p text → Matches text pattern_text
held_matches text pattern_text p (r, is, same) member = (r, is, (same.members text).1 member)

found_held : (text pattern_text : Text) (p : Pattern) → IsWrittenAs pattern_text p
    → Found text pattern_text → HasPart p text
found_held text pattern_text p is (before, part, after, e, matches) =
    (before, part, after, e, matches_held part pattern_text p is matches)

pub matching : (text pattern_text : Text) (p : Pattern) (b : Bool) → IsWrittenAs pattern_text p
    → (IsTrue b ↔ Member p text) → b ≡ tests.is_match text pattern_text
matching text pattern_text p b is h =
    same_from_decides b (tests.is_match text pattern_text) h (
      λ t. matches_held text pattern_text p is ((are_right.matching text pattern_text).0 t),
      λ m.
          (are_right.matching text pattern_text).1 (held_matches text pattern_text p is m),
    )

pub finding : (text pattern_text : Text) (p : Pattern) (b : Bool) → IsWrittenAs pattern_text p
    → (IsTrue b ↔ HasPart p text) → b ≡ tests.is_found text pattern_text
finding text pattern_text p b is h =
    same_from_decides b (tests.is_found text pattern_text) h (
      λ t. found_held text pattern_text p is ((are_right.finding text pattern_text).0 t),
      λ m.
          (are_right.finding text pattern_text).1
          (m.0, m.1, m.2, m.3, held_matches m.1 pattern_text p is m.4),
    )

pub matching_none : (text pattern_text : Text) → ((p : Pattern) → IsPatternOf pattern_text p → ⊥)
    → false ≡ tests.is_match text pattern_text
matching_none text pattern_text none =
    sym (false_from_ne_true (tests.is_match text pattern_text)
    (λ t. let m = (are_right.matching text pattern_text).0 t in none m.0 m.1))

pub finding_none : (text pattern_text : Text) → ((p : Pattern) → IsPatternOf pattern_text p → ⊥)
    → false ≡ tests.is_found text pattern_text
finding_none text pattern_text none =
    sym (false_from_ne_true (tests.is_found text pattern_text)
    (λ t. let m = ((are_right.finding text pattern_text).0 t).4 in none m.0 m.1))

-- any right tests answer as these do
same_matching : (t : Tests) → AreRight t → (s p : Text) → t.is_match s p ≡ tests.is_match s p
same_matching t right s p = same_from_decides _ _ (right.matching s p) (are_right.matching s p)

same_finding : (t : Tests) → AreRight t → (s p : Text) → t.is_found s p ≡ tests.is_found s p
same_finding t right s p = same_from_decides _ _ (right.finding s p) (are_right.finding s p)

abbrev tests_of : (Text → Text → Bool) → (Text → Text → Bool) → Tests
tests_of f g = record { is_match = f; is_found = g }

pub same_tests : (t : Tests) → AreRight t → tests ≡ t
same_tests t right =
    sym (ap (λ f. tests_of f t.is_found) (fun_ext (λ s. fun_ext (λ p. same_matching t right s p)))
    ∙ ap (λ g. tests_of tests.is_match g) (fun_ext (λ s. fun_ext (λ p. same_finding t right s p))))
