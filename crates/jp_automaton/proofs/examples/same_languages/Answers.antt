use Rattle.std.proofs.Common.{◌≡◌, [], ◌∷◌, true, refl, sym, subst, true≢false, arith}
use Rattle.jp_pattern.specs.CharSets.{in_set}
use Rattle.jp_pattern.specs.Pattern.{CharSet, Pattern}
use Rattle.jp_pattern.specs.Samples.{branch, letter_a}
use Rattle.jp_automaton.proofs.SimplerLemmas.{leave_piece, stands_itself}
use Rattle.jp_automaton.proofs.examples.same_languages.Goals as goal

pub returns : goal.returns
returns c = record {
  without_nothing = (leave_piece (Pattern.group (branch [])) (Pattern.group (branch []))
      (branch (letter_a ∷ []))
      (stands_itself (Pattern.group (branch []))) refl (tt, (tt, tt))).language;
  other_size = λ s. let e = s.same_size in absurd (omega arith);
  other_text = λ s.
      let (d, e, k) = (s.members (98 ∷ [])).0 (98, refl, refl) in
      let same : 98 ≡ d = cc in
      absurd (true≢false (sym (subst (λ x. in_set (CharSet.only 97) x ≡ true) (sym same) k)));
}
