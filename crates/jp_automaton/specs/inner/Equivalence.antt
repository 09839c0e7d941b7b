-- A working file, which nobody has to believe: which characters are equivalent to a pattern. No public
-- contract names it.
use Rattle.std.specs.Prelude.{◌≡◌, ℕ, ◌<◌, ◌≤◌, Bool, true, List, IsTrue, length, slice_index_or}
use Rattle.jp_automaton.specs.declared.byte_classes.ByteClasses.{ByteClasses}
use Rattle.jp_automaton.specs.declared.expressions.Expression.{Expression}
use Rattle.jp_automaton.specs.declared.candidate.Candidate.{Candidate}
use Rattle.jp_automaton.specs.declared.candidate.Candidate.TheVariants as candidate
use Rattle.jp_pattern.specs.CharSets.{in_set, is_scalar}
use Rattle.jp_automaton.specs.Expressions.{unrolled_in}
use Rattle.jp_pattern.specs.Pattern.{CharSet, Element}
use Rattle.jp_pattern.specs.Unrolled.{Unrolled}
use Rattle.jp_automaton.specs.inner.Simulation.{step}

-- the characters c and d are compared; of those past ASCII each with the first
abbrev pub AreOf : Candidate → ℕ → ℕ → Type 0
AreOf (candidate.Both x y) c d = (c ≡ x) × (d ≡ y)
AreOf candidate.PastAscii c d = (c ≡ 128) × (128 ≤ d) × IsTrue (is_scalar d)

-- the set holds both or neither
pub record EquivalentInSet (set : CharSet) (candidate : Candidate) : Type 0 where
  pub holds : (c d : ℕ) → AreOf candidate c d → in_set set c ≡ in_set set d

-- a step by the one is a step by the other
pub record Equivalent (p : Unrolled) (candidate : Candidate) : Type 0 where
  pub reads : (c d : ℕ) → AreOf candidate c d → (active : ℕ → Bool) (off : ℕ) (entered : Bool) →
      step active c p off entered ≡ step active d p off entered

-- each of the expressions
pub record EquivalentInAll (expressions : List Expression) (candidate : Candidate) : Type 0 where
  pub each : (k : ℕ) (expression : Expression) → k < length expressions →
      Equivalent (unrolled_in (slice_index_or expressions k expression))
      candidate

-- an element of a class that holds ASCII characters alone
abbrev pub IsAscii : Element → Type 0
IsAscii (Element.one x) = x < 128
IsAscii (Element.range low high) = high < 128
IsAscii (Element.of_category negated categories) = ⊥

-- each character of ASCII stands with an equivalent one, which is not above it
pub record AreFirst (p : Unrolled) (first : List ℕ) : Type 0 where
  pub below : (k : ℕ) → k < length first → slice_index_or first k 0 ≤ k
  pub equivalent : (k : ℕ) → k < length first → Equivalent p (candidate.Both (slice_index_or first k 0) k)

-- the classes are those of the pattern
pub record AreByteClasses (p : Unrolled) (classes : ByteClasses) : Type 0 where
  pub first : AreFirst p classes.first.items
  pub all : length classes.first.items ≡ 128
  pub others : classes.past_ascii ≡ true → Equivalent p candidate.PastAscii
