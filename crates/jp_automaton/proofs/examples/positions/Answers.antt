use Rattle.std.proofs.Common.{[], ◌∷◌, false, refl, sym, inl, inr, arith, true≢false}
use Rattle.std.specs.Prelude.{codes}
use Rattle.jp_pattern.specs.Samples.{a_or_ab, once_a}
use Rattle.jp_pattern.specs.Pattern.{CharSet}
use Rattle.jp_pattern.specs.Unrolled.{Unrolled, unrolled, Has, After}
use Rattle.jp_automaton.specs.inner.Simulation.{is_elem}
use Rattle.jp_automaton.proofs.StepLemmas.{After-within, exits_whole, step_whole}
use Rattle.jp_automaton.proofs.SetLemmas.{has_left}
use Rattle.jp_automaton.proofs.examples.positions.Goals as goal

abbrev once_b : Unrolled
once_b = Unrolled.letter (CharSet.only 98)

abbrev ab : Unrolled
ab = Unrolled.seq once_a (Unrolled.seq once_b Unrolled.nothing)

has_b : Has (Unrolled.seq once_b Unrolled.nothing) (codes "b")
has_b = (codes "b", [], refl, (98, refl, refl), refl)

has_ab : Has ab (codes "ab")
has_ab = (codes "a", codes "b", refl, (97, refl, refl), has_b)

behind_a : After ab 1 (codes "b")
behind_a = inl ([], codes "b", refl, (refl, refl), has_b)

behind_b : After ab 2 []
behind_b = inr (1, refl, inl ([], [], refl, (refl, refl), refl))

pub returns : goal.returns
returns c = record {
  start = inr (codes "a", codes "b", refl, (97, refl, refl), (codes "b", [], refl, (98, refl, refl), refl));
  behind_first = inl (inl ([], [], refl, (refl, refl), refl));
  nothing_behind_first =
      λ m. (step_whole (is_elem (1 ∷ [])) 98 (unrolled a_or_ab) 0 false [] (inr (1, refl, m))).1;
  behind_second = inr (1, refl, behind_a);
  not_complete = λ m. true≢false
      (sym (exits_whole (is_elem (2 ∷ [])) (unrolled a_or_ab) 0 false (inr (2, refl, m))));
  behind_third = inr (2, refl, behind_b);
  no_fourth = λ t m. let r = After-within (unrolled a_or_ab) 4 t m in omega arith;
  repeated = inl (
    codes "ab",
    [],
    refl,
    ([], codes "ab", refl, behind_b, (codes "ab" ∷ [], (has_ab, tt), omega arith, tt, refl)),
    refl,
  );
  complete = inl ([], [], refl, ([], [], refl, behind_b, ([], tt, omega arith, tt, refl)), refl);
  begun = inl (
    codes "bab",
    [],
    refl,
    (codes "b", codes "ab", refl, behind_a, (codes "ab" ∷ [], (has_ab, tt), omega arith, tt, refl)),
    refl,
  );
  left = (2, (1, omega arith, refl), inr (1, refl, behind_a));
  not_left = λ h. (step_whole (is_elem (1 ∷ 3 ∷ [])) 98 (unrolled a_or_ab) 0 false []
      (has_left a_or_ab false (1 ∷ 3 ∷ []) (codes "b") (omega arith, (omega arith, tt)) h)).1;
}
