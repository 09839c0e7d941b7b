use Rattle.std.proofs.Common.{◌≡◌, ℕ, ◌<◌, length, slice_index_or}
use Rattle.jp_automaton.specs.declared.byte_flags.ByteFlags.{ByteFlags}
use Rattle.jp_automaton.specs.inner.Prefilter.{AreFlagsOf}
use Rattle.jp_automaton.proofs.prefilter.make_prefilter.Given as goal

abbrev pub invariant-loop-byte : goal.invariant-loop-byte
invariant-loop-byte l = record {
  many : length l.flags.items ≡ l.byte;
  each : (b : ℕ) (m : ByteFlags) → b < length l.flags.items →
      AreFlagsOf l.dfa.cells.items l.ones.items l.twos.items b (slice_index_or l.flags.items b m);
}
