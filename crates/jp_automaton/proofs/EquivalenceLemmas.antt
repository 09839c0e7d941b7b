-- Which characters a pattern does not tell apart.
use Rattle.std.proofs.Common.{◌≡◌, ℕ, zero, suc, ◌+◌, ◌<◌, ◌≤◌, ◌&&◌, ◌||◌, ◌++◌, Bool, true, false, not}
use Rattle.std.proofs.Common.{nat_eq, nat_le}
use Rattle.std.proofs.Common.{List, [], ◌∷◌, Some, None, Option, Vec, Box, Global, length, map}
use Rattle.std.proofs.Common.{slice_index_or, if◌then◌else◌, refl, sym, ap, ap₂, ◌∙◌, subst, arith}
use Rattle.std.proofs.lemmas.Bool.{and_right, eqb-true, lt-leb, ne_eqb}
use Rattle.std.specs.List.{list_any}
use Rattle.jp_automaton.specs.declared.ranges.Span.{Span}
use Rattle.jp_automaton.specs.Letters.{span_element}
use Rattle.jp_automaton.specs.declared.expressions.Expression.{Expression}
use Rattle.jp_automaton.specs.declared.candidate.Candidate.{Candidate}
use Rattle.jp_automaton.specs.declared.candidate.Candidate.TheVariants as candidate
use Rattle.jp_automaton.specs.inner.Equivalence.{Equivalent, EquivalentInAll, IsAscii, EquivalentInSet}
use Rattle.jp_pattern.specs.CharSets.{in_element, is_scalar}
use Rattle.jp_automaton.specs.Expressions.{before_last_of, in_turn_of, meaning, pattern_in, unrolled_in}
use Rattle.jp_pattern.specs.Pattern.{CharSet, Element, Pattern}
use Rattle.jp_pattern.specs.Unrolled.{Unrolled, counted, counted_on, letter, letters, maybe, nothing, plus}
use Rattle.jp_pattern.specs.Unrolled.{seq, unrolled}
use Rattle.jp_pattern.specs.Unrolled as u
use Rattle.jp_automaton.specs.inner.Simulation.{exits}
use Rattle.jp_automaton.specs.declared.expressions.Expression.TheVariants.{Pieces, Branches, Repeat}
use Rattle.jp_automaton.proofs.MeaningLemmas.{expression_pieces, expression_branches, expression_repeat}

module _ (candidate : Candidate) where
  equivalent_nothing : Equivalent nothing candidate
  equivalent_nothing = record { reads = λ c d h active off entered. refl }

  pub equivalent_letter : (set : CharSet) → EquivalentInSet set candidate → Equivalent (letter set) candidate
  equivalent_letter set of = record {
    reads = λ c d h active off entered. ap (λ b. if entered && b then (off + 1) ∷ [] else [])
        (of.holds c d h);
  }

  module _ (a b : Unrolled) (one : Equivalent a candidate) (two : Equivalent b candidate) where
    pub equivalent_seq : Equivalent (seq a b) candidate
    equivalent_seq = record {
      reads = λ c d h active off entered. ap₂ (λ xs ys. xs ++ ys) (one.reads c d h active off entered)
          (two.reads c d h active (off + letters a) (exits active a off entered));
    }

    pub equivalent_either : Equivalent (u.either a b) candidate
    equivalent_either = record {
      reads = λ c d h active off entered. ap₂ (λ xs ys. xs ++ ys) (one.reads c d h active off entered)
          (two.reads c d h active (off + letters a) entered);
    }

  module _ (a : Unrolled) (one : Equivalent a candidate) where
    equivalent_maybe : Equivalent (maybe a) candidate
    equivalent_maybe = record { reads = λ c d h active off entered. one.reads c d h active off entered }

    pub equivalent_plus : Equivalent (plus a) candidate
    equivalent_plus = record {
      reads = λ c d h active off entered. one.reads c d h active off
          (entered || exits active a off false);
    }

    pub equivalent_counted : (least most : ℕ) → Equivalent (counted least most a) candidate
    equivalent_counted least zero = equivalent_nothing
    equivalent_counted zero (suc most) = equivalent_maybe_seq most (equivalent_counted zero most) where
      equivalent_maybe_seq : (most : ℕ) → Equivalent (counted zero most a) candidate → Equivalent
          (maybe (seq a (counted zero most a))) candidate
      equivalent_maybe_seq most rest =
          let both = equivalent_seq a (counted zero most a) one rest in
          record { reads = λ c d h active off entered. both.reads c d h active off entered }
    equivalent_counted (suc least) (suc most) = equivalent_seq a (counted least most a) one
        (equivalent_counted least most)

    pub equivalent_counted_on : (least : ℕ) → Equivalent (counted_on least a) candidate
    equivalent_counted_on zero = record {
      reads = λ c d h active off entered. equivalent_plus.reads c d h active off
          entered;
    }
    equivalent_counted_on (suc least) = equivalent_seq a (counted_on least a) one
        (equivalent_counted_on least)

  pub equivalent_repeat : (p : Pattern) → Equivalent (unrolled p) candidate → (least : ℕ) (most : Option ℕ) →
      Equivalent (unrolled (Pattern.repeat least most p)) candidate
  equivalent_repeat p one least None = equivalent_counted_on (unrolled p) one least
  equivalent_repeat p one least (Some most) = equivalent_counted (unrolled p) one least most

  -- the first of the expressions, and the others
  first_equivalent : (expression : Expression) (expressions : List Expression) →
      EquivalentInAll (expression ∷ expressions) candidate →
      Equivalent (unrolled_in expression)
      candidate
  first_equivalent expression expressions of = of.each 0 expression (omega arith)

  others_equivalent : (expression : Expression) (expressions : List Expression) →
      EquivalentInAll (expression ∷ expressions) candidate →
      EquivalentInAll expressions candidate
  others_equivalent expression expressions of = record { each = λ k x lt. of.each (suc k) x (omega arith) }

  pub equivalent_turn : (expressions : List Expression) → EquivalentInAll expressions candidate → Equivalent
      (unrolled (in_turn_of (map meaning expressions))) candidate
  equivalent_turn [] of = equivalent_nothing
  equivalent_turn (expression ∷ expressions) of =
      equivalent_seq (unrolled_in expression) (unrolled (in_turn_of (map meaning expressions)))
      (first_equivalent expression expressions of)
      (equivalent_turn expressions (others_equivalent expression expressions of))

  pub equivalent_before : (expressions : List Expression) (q : Pattern) →
      EquivalentInAll expressions candidate →
      Equivalent (unrolled q) candidate →
      Equivalent (unrolled (before_last_of (map meaning expressions) q)) candidate
  equivalent_before [] q of last = last
  equivalent_before (expression ∷ expressions) q of last =
      equivalent_either (unrolled_in expression) (unrolled (before_last_of (map meaning expressions) q))
      (first_equivalent expression expressions of)
      (equivalent_before expressions q (others_equivalent expression expressions of) last)

  -- ---- expressions of each kind

  pub equivalent_as : (p q : Pattern) → p ≡ q → Equivalent (unrolled q) candidate →
      Equivalent (unrolled p) candidate
  equivalent_as p q e of = subst (λ r. Equivalent (unrolled r) candidate) (sym e) of

  pub equivalent_pieces : (expression : Expression) (n : ℕ) (pieces : Vec Expression Global)
      (xs : List Expression) → expression ≡ Pieces n
      pieces → xs ≡ pieces.items →
      EquivalentInAll xs candidate → Equivalent (unrolled_in expression) candidate
  equivalent_pieces expression n pieces xs is items of =
      equivalent_as (pattern_in expression) (in_turn_of (map meaning pieces.items))
      (ap pattern_in is ∙ ap (λ m. m.pattern) (expression_pieces n pieces))
      (equivalent_turn pieces.items (subst (λ ys. EquivalentInAll ys candidate) items of))

  pub equivalent_branches : (expression : Expression) (n : ℕ) (before : Vec Expression Global)
      (last : Box Expression Global)
      (xs : List Expression) (x : Expression) →
      expression ≡ Branches n before last → xs ≡ before.items → x ≡ last.value →
      EquivalentInAll xs candidate → Equivalent
      (unrolled_in x) candidate →
      Equivalent (unrolled_in expression) candidate
  equivalent_branches expression n before last xs x is items value of one =
      equivalent_as (pattern_in expression)
      (before_last_of (map meaning before.items) (pattern_in last.value))
      (ap pattern_in is ∙ ap (λ m. m.pattern) (expression_branches n before last))
      (equivalent_before before.items (pattern_in last.value)
      (subst (λ ys. EquivalentInAll ys candidate) items of)
      (subst (λ y. Equivalent (unrolled_in y) candidate) value one))

  pub equivalent_copies : (expression : Expression) (n least : ℕ) (most : Option ℕ)
      (atom : Box Expression Global) (x : Expression) →
      expression ≡ Repeat n least most atom → x ≡ atom.value → Equivalent (unrolled_in x) candidate →
      Equivalent
      (unrolled_in expression) candidate
  equivalent_copies expression n least most atom x is value one =
      equivalent_as (pattern_in expression) (Pattern.repeat least most (pattern_in atom.value))
      (ap pattern_in is ∙ ap (λ m. m.pattern) (expression_repeat n least most atom))
      (equivalent_repeat (pattern_in atom.value) (subst (λ y. Equivalent (unrolled_in y) candidate) value
      one) least most)

-- ---- classes

not_past : (c : ℕ) → 128 ≤ c → (e : Element) → IsAscii e → in_element c e ≡ false
not_past c high (Element.one x) h = ne_eqb c x (λ e. omega arith)
not_past c high (Element.range low top) h = and_right (nat_le low c) (nat_le c top)
    (lt-leb c top (omega arith))
not_past c high (Element.of_category negated categories) h = absurd h

-- ranges of ASCII hold nothing else
none_past : (ss : List Span) → ((k : ℕ) (x : Span) → k < length ss → IsAscii
    (span_element (slice_index_or ss k x))) →
    (c : ℕ) → 128 ≤ c → list_any (in_element c) (map span_element ss ++ []) ≡ false
none_past [] of c high = refl
none_past (s ∷ ss) of c high =
    ap₂ (λ a b. a || b) (not_past c high (span_element s) (of 0 s (omega arith)))
    (none_past ss (λ k y lt. of (suc k) y (omega arith)) c high)

pub class_equivalent : (negated : Bool) (ss : List Span) →
    ((k : ℕ) (x : Span) → k < length ss → IsAscii (span_element (slice_index_or ss k x))) →
    EquivalentInSet (CharSet.class negated (map span_element ss ++ [])) candidate.PastAscii
class_equivalent negated ss of = record {
  holds = λ c d h.
      let low : 128 ≤ c = omega (arith, h.0) in
      let scalar : is_scalar c ≡ is_scalar d = ap is_scalar h.0 ∙ sym h.2 in
      ap₂ (λ a b. a && (if negated then not b else b)) scalar
      (none_past ss of c low ∙ sym (none_past ss of d h.1));
}

pub none_of : {A : Type 0} (xs : List A) (n : ℕ) (b : Bool) → b ≡ nat_eq n 0 → b ≡ true → n ≡ length xs
    → xs ≡ []
none_of [] n b e f same = refl
none_of (x ∷ xs) n b e f same = let none = eqb-true n 0 (sym e ∙ f) in absurd (omega arith)
