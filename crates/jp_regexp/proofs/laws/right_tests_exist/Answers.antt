use Rattle.jp_pattern.proofs.RightTests.{right_tests}
use Rattle.jp_regexp.proofs.laws.right_tests_exist.Goals as goal

pub returns : goal.returns
returns c = right_tests
