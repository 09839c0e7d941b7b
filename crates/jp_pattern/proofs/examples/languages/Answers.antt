use Rattle.std.proofs.Common.{◌≡◌, Bool, true, false, List, [], ◌∷◌, Some, None, refl, sym, true≢false}
use Rattle.std.specs.Prelude.{not, codes}
use Rattle.std.specs.List.{AllByRecursion, list_all}
use Rattle.std.proofs.lemmas.Bool.{and_parts}
use Rattle.jp_pattern.specs.Language.{Member}
use Rattle.jp_pattern.specs.Pattern.{Text, Pattern, empty, group, seq, either, repeat, plus}
use Rattle.jp_pattern.specs.Samples.{letter_a, letter_b, HasOnly}
use Rattle.jp_pattern.proofs.Derivatives.{decide, decided}
use Rattle.jp_pattern.proofs.examples.languages.Goals as goal

has : (p : Pattern) (ts : List Text) → list_all (decide p) ts ≡ true → AllByRecursion (λ t. Member p t) ts
has p [] e = tt
has p (t ∷ ts) e = let both = and_parts (decide p t) (list_all (decide p) ts) e in
    ((decided p t).0 both.0, has p ts both.1)

denied : (b : Bool) → not b ≡ true → b ≡ true → ⊥
denied true e f = true≢false (sym e)
denied false e f = true≢false (sym f)

lacks : (p : Pattern) (ts : List Text) → list_all (λ t. not (decide p t)) ts ≡ true
    → AllByRecursion (λ t. Member p t → ⊥) ts
lacks p [] e = tt
lacks p (t ∷ ts) e =
    let both = and_parts (not (decide p t)) (list_all (λ u. not (decide p u)) ts) e in
    ((λ m. denied (decide p t) both.0 ((decided p t).1 m)), lacks p ts both.1)

only : (p : Pattern) (ts others : List Text) → list_all (decide p) ts ≡ true
    → list_all (λ t. not (decide p t)) others ≡ true → HasOnly p ts others
only p ts others e f = (has p ts e, lacks p others f)

pub returns : goal.returns
returns c = record {
  nothing = only empty (codes "" ∷ []) (codes "a" ∷ []) refl refl;
  a_character = only letter_a (codes "a" ∷ []) (codes "" ∷ codes "b" ∷ codes "aa" ∷ []) refl refl;
  parentheses = only (group letter_a) (codes "a" ∷ []) (codes "" ∷ codes "b" ∷ []) refl refl;
  in_turn = only (seq letter_a letter_b) (codes "ab" ∷ []) (codes "a" ∷ codes "b" ∷ codes "ba" ∷ []) refl
      refl;
  branches = only (either letter_a letter_b) (codes "a" ∷ codes "b" ∷ []) (codes "" ∷ codes "ab" ∷ []) refl
      refl;
  no_copies = only (repeat 0 (Some 0) letter_a) (codes "" ∷ []) (codes "a" ∷ []) refl refl;
  question = only (repeat 0 (Some 1) letter_a) (codes "" ∷ codes "a" ∷ []) (codes "aa" ∷ []) refl refl;
  one_to_two = only (repeat 1 (Some 2) letter_a) (codes "a" ∷ codes "aa" ∷ []) (codes "" ∷ codes "aaa" ∷ [])
      refl refl;
  star = only (repeat 0 None letter_a) (codes "" ∷ codes "a" ∷ codes "aaa" ∷ []) (codes "ab" ∷ []) refl refl;
  two_or_more = only (repeat 2 None letter_a) (codes "aa" ∷ codes "aaa" ∷ []) (codes "" ∷ codes "a" ∷ []) refl
      refl;
  some_letters = only (plus letter_a) (codes "a" ∷ codes "aa" ∷ []) (codes "" ∷ codes "ba" ∷ []) refl refl;
  some_nothing = only (plus empty) (codes "" ∷ []) (codes "a" ∷ []) refl refl;
  parts_of_two = only (repeat 2 (Some 2) (either letter_a (seq letter_a letter_b)))
      (codes "aa" ∷ codes "aba" ∷ codes "aab" ∷ codes "abab" ∷ []) (codes "a" ∷ codes "abb" ∷ []) refl refl;
  never = only (repeat 0 (Some 0)
      (repeat 1000 (Some 1000) (repeat 1000 (Some 1000) (repeat 1000 (Some 1000) letter_a)))) (codes "" ∷ [])
      (codes "a" ∷ []) refl refl;
}
