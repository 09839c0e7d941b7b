use Rattle.std.proofs.Common.{refl}
use Rattle.jp_pattern.proofs.MemberExamples.{capital_A, small_a}
use Rattle.jp_pattern.proofs.examples.sets.Goals as goal

pub returns : goal.returns
returns c = record {
  dot = (refl, refl, refl, refl, refl, refl, refl);
  characters = (refl, refl, refl, refl, refl, refl);
  lone = (refl, refl, refl);
  ranges = (refl, refl, refl, refl);
  classes = (refl, refl, refl, refl, refl);
  categories = (rw capital_A refl, rw small_a refl, rw capital_A refl, rw small_a refl, rw small_a refl);
  in_classes = (rw capital_A refl, rw capital_A refl, rw capital_A refl);
}
