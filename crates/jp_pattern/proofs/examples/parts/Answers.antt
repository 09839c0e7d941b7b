use Rattle.std.proofs.Common.{◌≡◌, ℕ, true, [], ◌∷◌, ◌++◌, get_or, refl, ap, ap₂, ◌∙◌, arith}
use Rattle.std.proofs.lemmas.Bool.{and_parts, eqb-true}
use Rattle.jp_pattern.specs.CharSets.{in_set}
use Rattle.std.specs.Prelude.{codes}
use Rattle.jp_pattern.specs.Pattern.{Text, only}
use Rattle.jp_pattern.proofs.examples.parts.Goals as goal

-- `ab` is not in `ba`
no_cut : (before after : Text) → codes "ba" ≡ before ++ (97 ∷ 98 ∷ after) → ⊥
no_cut [] after e = let h : 98 ≡ 97 = ap (λ t. get_or t 0 0) e in absurd (omega (arith, h))
no_cut (x ∷ []) after e = let h : [] ≡ 98 ∷ after = cc in absurd (cc h)
no_cut (x ∷ y ∷ before) after e = let h : [] ≡ before ++ (97 ∷ 98 ∷ after) = cc in none before h where
  none : (before : Text) → [] ≡ before ++ (97 ∷ 98 ∷ after) → ⊥
  none [] f = absurd (cc f)
  none (z ∷ before) f = absurd (cc f)

whole : (before part after u v : Text) (c d : ℕ) → codes "ba" ≡ before ++ (part ++ after) → part ≡ u ++ v
    → u ≡ c ∷ [] → v ≡ d ∷ [] →
    in_set (only 97) c ≡ true → in_set (only 98) d ≡ true → codes "ba" ≡ before ++ (97 ∷ 98 ∷ after)
whole before part after u v c d e f g k h l =
    let is : part ≡ c ∷ d ∷ [] = f ∙ ap₂ (λ x y. x ++ y) g k in
    let first : c ≡ 97 = eqb-true c 97 (and_parts _ _ h).1 in
    let second : d ≡ 98 = eqb-true d 98 (and_parts _ _ l).1 in
    e ∙ ap (λ p. before ++ (p ++ after)) (is ∙ ap₂ (λ x y. x ∷ y ∷ []) first second)

pub returns : goal.returns
returns c = record {
  before = ([], codes "a", codes "b", refl, (97, refl, refl));
  between = (codes "a", codes "b", codes "c", refl, (98, refl, refl));
  behind = (codes "a", codes "b", [], refl, (98, refl, refl));
  nothing = (codes "a", [], codes "b", refl, refl);
  not_in_turn = λ (before, part, after, e, (u, v, f, (c, g, h), (d, k, l))).
      no_cut before after (whole before part after u v c d e f g k h l);
}
