-- Texts that patterns have, or do not have, by computing.
use Rattle.std.proofs.Common.{◌≡◌, None, Bool, ◌&&◌, ◌==◌, ◌≤◌, true, false, [], ◌∷◌, ◌++◌, length}
use Rattle.std.proofs.Common.{refl, sym, subst, arith, true≢false, ◌∙◌}
use Rattle.std.proofs.lemmas.Bool.{eqb-true}
use Rattle.std.specs.Prelude.{codes}
use Rattle.unicode.specs.GeneralCategory.{general_category}
use Rattle.unicode.specs.declared.properties.GeneralCategory.TheVariants.{UppercaseLetter, LowercaseLetter}
use Rattle.unicode.specs.declared.properties.GeneralCategory.TheVariants.{DecimalNumber}
use Rattle.unicode.proofs.CategoryComputing.{ucd_category}
use Rattle.jp_pattern.specs.Pattern.{Text, Pattern, only, plus}
use Rattle.jp_pattern.specs.CharSets.{is_scalar}
use Rattle.jp_pattern.specs.Language.{Matches, Found}
use Rattle.jp_pattern.specs.Profile.{IsPatternOf}
use Rattle.jp_pattern.specs.Samples.{letter_a}
use Rattle.jp_pattern.proofs.Derivatives.{decide, decided}
use Rattle.jp_pattern.proofs.MemberLemmas.{EachIn, from_lone, from_letters, each_split}
use Rattle.jp_pattern.proofs.PatternsRead.{matched, unmatched}
use Rattle.jp_pattern.proofs.TextExamples as text

pub matches : {text pattern : Text} {p : Pattern} → IsPatternOf pattern p → decide p text ≡ true
    → Matches text pattern
matches {text} {pattern} {p} of e = (p, of, (decided p text).0 e)

pub no_match : {text pattern : Text} {p : Pattern} → IsPatternOf pattern p → decide p text ≡ false
    → Matches text pattern → ⊥
no_match {text} {pattern} {p} of e =
    unmatched text pattern p of.shapes (λ m. true≢false (sym ((decided p text).1 m) ∙ e))

-- ---- categories

pub capital_A : general_category 65 ≡ UppercaseLetter
unfolding ucd_category
capital_A = refl

pub capital_B : general_category 66 ≡ UppercaseLetter
unfolding ucd_category
capital_B = refl

pub small_a : general_category 97 ≡ LowercaseLetter
unfolding ucd_category
small_a = refl

pub small_b : general_category 98 ≡ LowercaseLetter
unfolding ucd_category
small_b = refl

pub digit_1 : general_category 49 ≡ DecimalNumber
unfolding ucd_category
digit_1 = refl

pub digit_5 : general_category 53 ≡ DecimalNumber
unfolding ucd_category
digit_5 = refl

-- ---- where nothing is found

second_true : (a b : Bool) → (a && b) ≡ true → b ≡ true
second_true true b e = e
second_true false b e = absurd cc

no_a_of_b : (t : Text) → 1 ≤ length t → EachIn (only 97) t → EachIn (only 98) t → ⊥
no_a_of_b [] long each other = absurd (omega arith)
no_a_of_b (c ∷ t) long each other =
    let first : c ≡ 97 = eqb-true c 97 (second_true (is_scalar c) (c == 97) each.0) in
    let second : c ≡ 98 = eqb-true c 98 (second_true (is_scalar c) (c == 98) other.0) in
    omega arith

pub nowhere : Found (codes "bb") (codes "a+") → ⊥
nowhere (before, part, after, e, m) =
    let letters = from_letters (only 97) 1 None part
    (from_lone (plus letter_a) part (matched part (codes "a+") text.some_letters_tree
    text.some_letters.shapes m)) in
    let others : EachIn (only 98) (before ++ (part ++ after)) =
    subst (EachIn (only 98)) e (refl, (refl, tt)) in
    no_a_of_b part letters.1 letters.0
    (each_split (only 98) part after (each_split (only 98) before (part ++ after) others).1).0
