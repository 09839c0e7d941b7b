-- What is known on the quiet of reading a text as a pattern is known: a text has at most one tree, and
-- whether a text is in a language is decided.
use Rattle.std.proofs.Math.Logic.{∥∥₁_elim}
use Rattle.std.proofs.Props.{props}
use Rattle.std.proofs.Common.{◌≡◌, Option, Some, None, sym, subst, inl, inr}
use Rattle.jp_pattern.specs.Pattern.{Text, Pattern}
use Rattle.jp_pattern.specs.Profile.{InProfile}
use Rattle.jp_automaton.specs.Held.{IsRead, pattern_of}
use Rattle.jp_automaton.specs.SameLanguage.{IsWrittenAs, SameLanguage}
use Rattle.jp_automaton.specs.declared.pattern.Pattern.{Pattern as HeldPattern}
use Rattle.jp_automaton.proofs.ProfileLemmas.{profile_prop}
use Rattle.jp_pattern.proofs.Derivatives as derivatives
use Rattle.jp_pattern.proofs.PatternsRead.{one_tree}
use Rattle.jp_pattern.proofs.PatternsSound.{decided}

-- what is written as q is the tree of the text
same_written : (t : Text) (p q : Pattern) (w : IsWrittenAs t q) → p ≡ w.0 → SameLanguage p q
same_written t p q w e = subst (λ r. SameLanguage r q) (sym e) w.2

written_had : (t : Text) (q : Pattern) → ∥ IsWrittenAs t q ∥₁ → IsWrittenAs t q
written_had t q h =
    elim (decided t) [
      | inl found ↦
          let p = found.0 in (
            p,
            record {
              shapes = found.1;
              in_profile = ∥∥₁_elim h (profile_prop p)
                  (λ w. subst InProfile (one_tree t w.0 p w.1.shapes found.1) w.1.in_profile);
            },
            record {
              same_size = ∥∥₁_elim h (hlevel props) (λ w. (same_written t p q w
                  (one_tree t p w.0 found.1 w.1.shapes)).same_size);
              members = λ u. (
                λ m. (derivatives.decided q u).0 (∥∥₁_elim h (hlevel props) (λ w. (derivatives.decided q u).1
                    (((same_written t p q w (one_tree t p w.0 found.1 w.1.shapes)).members u).0 m))),
                λ m. (derivatives.decided p u).0 (∥∥₁_elim h (hlevel props) (λ w. (derivatives.decided p u).1
                    (((same_written t p q w (one_tree t p w.0 found.1 w.1.shapes)).members u).1 m))),
              );
            },
          )
      | inr none ↦ absurd (∥∥₁_elim h (hlevel props) (λ w. none w.0 w.1.shapes))
    ]

pub read_had : (t : Text) (r : Option HeldPattern) → ∥ IsRead t r ∥₁ → IsRead t r
read_had t None h = ∥∥₁_elim h (hlevel props) (λ none. none)
read_had t (Some held) h = written_had t (pattern_of held) h
