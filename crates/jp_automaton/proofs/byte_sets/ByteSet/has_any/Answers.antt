use Rattle.std.proofs.Common.{◌-◌, ◌+◌, length, arith}
use Rattle.jp_automaton.proofs.EndingLemmas.{none_further}
use Rattle.jp_automaton.proofs.byte_sets.ByteSet.has_any.Goals as goal

pub loop-from-preserved : goal.loop-from-preserved
loop-from-preserved c =
    none_further c.args.self.now c.args.bytes.now c.loop-from.from (c.loop-from.from + 16) (omega arith)
    c.loop-from.invariant (c.has_any_from.ensures c.if-has_any_from.false)

pub returns : goal.returns
returns c = λ none.
    let bytes = c.args.bytes.now in
    none_further c.args.self.now bytes (length bytes - 16) (length bytes) (omega arith)
    (λ k lt. c.loop-from.invariant k (omega (arith, lt, c.loop-from-test.false)))
    (c.has_any_from-2.ensures none)
