-- The two tests that the contracts of `match` and `search` name. They are right, which is a law of this crate
-- too (`right_tests`), and any two right tests answer alike: so nobody has to know which they are.
use Rattle.jp_pattern.specs.Tests.{Tests, AreRight}
use Rattle.jp_pattern.proofs.RightTests.{right_tests}

pub tests : Tests
tests = right_tests.0

pub are_right : AreRight tests
unfolding tests
are_right = right_tests.1
