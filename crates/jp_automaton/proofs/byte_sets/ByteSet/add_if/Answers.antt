use Rattle.std.proofs.Common.{◌/◌, ◌%◌, arith, sym}
use Rattle.jp_automaton.proofs.ByteSetLemmas.{is_added, stays}
use Rattle.jp_automaton.proofs.byte_sets.ByteSet.add_if.Goals as goal

pub returns-then-flag-ne0-clause-has : goal.returns-then-flag-ne0-clause-has
returns-then-flag-ne0-clause-has c = λ none.
    let set = c.args.self.now in
    let byte = c.args.byte in
    let low = c.from in
    let high = c.from-then-flag-ne0 in
    absurd (is_added set.low set.high low.result high.result c.bit_of-bit.result (byte % 16) (byte / 16)
    (sym low.ensures) (sym high.ensures) (omega (arith, set.low_entries, low.ensures))
    (omega (arith, set.high_entries, high.ensures, c.ranges.byte.fits)) c.bit_of-bit.ensures none)

pub returns-then-flag-ne0-clause-keeps : goal.returns-then-flag-ne0-clause-keeps
returns-then-flag-ne0-clause-keeps c = λ b none.
    let set = c.args.self.now in
    stays set.low set.high c.from.result c.from-then-flag-ne0.result c.bit_of-bit.result (b % 16) (b / 16)
    none
