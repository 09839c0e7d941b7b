-- The two tests that the functions `match` and `search` of a query ask. A language is a relation, so the
-- definitions of the evaluator take the two tests as given, and say that they are right.
use Rattle.std.specs.Prelude.{Bool, IsTrue, ◌↔◌}
use Rattle.jp_pattern.specs.Pattern.{Text}
use Rattle.jp_pattern.specs.Language.{Matches, Found}

-- how `match` and `search` answer, at a text and then a pattern's text (RFC 9535, 2.4.6 and 2.4.7)
pub record Tests : Type 0 where
  pub is_match : Text → Text → Bool
  pub is_found : Text → Text → Bool

-- the tests answer as the language says (RFC 9535, 2.4.6 and 2.4.7)
pub record AreRight (t : Tests) : Type 0 where
  pub matching : (s p : Text) → IsTrue (t.is_match s p) ↔ Matches s p
  pub finding : (s p : Text) → IsTrue (t.is_found s p) ↔ Found s p
