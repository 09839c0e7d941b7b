use Rattle.std.proofs.Common.{[], refl}
use Rattle.std.specs.Prelude.{codes}
use Rattle.jp_pattern.proofs.MemberExamples.{matches, nowhere, capital_A}
use Rattle.jp_pattern.proofs.TextExamples as text
use Rattle.jp_pattern.proofs.examples.found.Goals as goal

pub returns : goal.returns
returns c = record {
  empty_everywhere = λ t. ([], [], t, refl, matches text.nothing refl);
  a_part = ([], codes "A", codes "b", refl, matches text.capitals (rw capital_A refl));
  nowhere = nowhere;
}
