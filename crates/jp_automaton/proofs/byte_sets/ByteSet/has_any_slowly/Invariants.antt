use Rattle.std.proofs.Common.{◌≡◌, ℕ, ◌<◌, slice_index_or}
use Rattle.jp_automaton.specs.inner.ByteSets.{bits_of}
use Rattle.jp_automaton.proofs.byte_sets.ByteSet.has_any_slowly.Given as goal

abbrev pub invariant-loop-byte : goal.invariant-loop-byte
invariant-loop-byte l = (k : ℕ) → k < l.byte-index → bits_of l.self (slice_index_or l.bytes k 0) ≡ 0
