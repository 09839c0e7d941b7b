-- That a pattern is within the limits has one proof, so a value that keeps it quietly keeps it.
use Rattle.std.proofs.Math.Logic.{∥∥₁_elim}
use Rattle.std.proofs.Props.{props}
use Rattle.std.proofs.Common.{ℕ, ◌≤◌, Option, Some, None, Bool, List, length}
use Rattle.jp_pattern.specs.Unrolled.{Unrolled}
use Rattle.jp_automaton.specs.inner.ByteSets.{AreInSets}
use Rattle.jp_automaton.specs.inner.Equivalence.{AreByteClasses}
use Rattle.jp_automaton.specs.declared.beginnings.Beginnings.{Beginnings}
use Rattle.jp_automaton.specs.declared.byte_classes.ByteClasses.{ByteClasses}
use Rattle.jp_automaton.specs.declared.byte_flags.ByteFlags.{ByteFlags}
use Rattle.jp_automaton.specs.declared.byte_sets.ByteSet.{ByteSet}
use Rattle.jp_automaton.specs.inner.Prefilter.{AreEndings, IsPrefilter}
use Rattle.jp_automaton.specs.inner.Dfa.{IsDfa}
use Rattle.jp_automaton.specs.inner.Simulation.{Rises-prop}
use Rattle.jp_automaton.specs.declared.dfa.Dfa.{Dfa}
use Rattle.jp_pattern.specs.Pattern.{Pattern, empty, letter, group, seq, either, repeat, plus}
use Rattle.jp_pattern.specs.Profile.{InProfile, HasCounts, size}

counts_prop : (p : Pattern) → IsProp (HasCounts p)
counts_prop empty = hlevel props
counts_prop (letter set) = hlevel props
counts_prop (group p) = counts_prop p
counts_prop (seq p q) = hlevel (counts_prop p, counts_prop q)
counts_prop (either p q) = hlevel (counts_prop p, counts_prop q)
counts_prop (repeat least None p) = hlevel (props, counts_prop p)
counts_prop (repeat least (Some most) p) = hlevel (props, counts_prop p)
counts_prop (plus p) = counts_prop p

pub profile_prop : (p : Pattern) → IsProp (InProfile p)
profile_prop p = hlevel (props, counts_prop p)

pub kept_profile : (p : Pattern) → ∥ InProfile p ∥₁ → InProfile p
kept_profile p h = ∥∥₁_elim h (profile_prop p) (λ of. of)

pub kept_size : (p : Pattern) → ∥ InProfile p ∥₁ → size p ≤ 10_000
kept_size p h = (kept_profile p h).size_fits

pub kept_dfa : (p : Unrolled) (unanchored : Bool) (dfa : Dfa) → ∥ IsDfa p unanchored dfa ∥₁ →
    IsDfa p unanchored
    dfa
kept_dfa p unanchored dfa h = ∥∥₁_elim h (hlevel (props, Rises-prop)) (λ of. of)

pub kept_endings : (cells : List ℕ) (endings : Option ByteSet) → ∥ AreEndings cells endings ∥₁ →
    AreEndings cells endings
kept_endings cells endings h = ∥∥₁_elim h (hlevel props) (λ of. of)

pub kept_prefilter : (cells : List ℕ) (flags : List ByteFlags) → ∥ IsPrefilter cells flags ∥₁ →
    IsPrefilter cells flags
kept_prefilter cells flags h = ∥∥₁_elim h (hlevel props) (λ of. of)

pub kept_sets : (sets : Beginnings) (flags : List ByteFlags) →
    ∥ AreInSets sets flags (length flags) ∥₁ → AreInSets sets flags (length flags)
kept_sets sets flags h = ∥∥₁_elim h (hlevel props) (λ of. of)

pub kept_classes : (p : Unrolled) (classes : ByteClasses) → ∥ AreByteClasses p classes ∥₁ →
    AreByteClasses p classes
kept_classes p classes h = ∥∥₁_elim h (hlevel props) (λ of. of)
