use Rattle.std.proofs.Common.{◌≤◌, ◌+◌, length, arith, inl, inr}
use Rattle.jp_automaton.specs.inner.ByteSets.{bits_of}
use Rattle.jp_automaton.proofs.LaneLemmas.{one_is_none, none_beyond, looked_up_at, length_looked_up}
use Rattle.jp_automaton.proofs.beginnings.Beginnings.among.Goals as goal

pub returns-clause-passes : goal.returns-clause-passes
returns-clause-passes c = λ k lt unset.
    let sets = c.args.self.now in
    let bytes = c.args.bytes.now in
    let from = c.args.from in
    let xs = c.look_up-first in
    let ys = c.look_up-second in
    let zs = c.look_up-third in
    let first = bits_of sets.first in
    let second = bits_of sets.second in
    let third = bits_of sets.third in
    let in_first : from + 16 ≤ length bytes = omega (arith, c.requires) in
    let in_second : from + 1 + 16 ≤ length bytes = omega (arith, c.requires) in
    let in_third : from + 2 + 16 ≤ length bytes = omega (arith, c.requires) in
    elim (one_is_none xs.result ys.result zs.result
    (length_looked_up first xs.result bytes from xs.ensures in_first)
    (length_looked_up second ys.result bytes (from + 1) ys.ensures in_second)
    (length_looked_up third zs.result bytes (from + 2) zs.ensures in_third) k lt unset) [
      | inl x ↦
          inl (looked_up_at first xs.result bytes from xs.ensures in_first k (from + k) lt (omega arith) x)
      | inr (inl y) ↦
          inr (inl (looked_up_at second ys.result bytes (from + 1) ys.ensures in_second k (from + k + 1) lt
          (omega arith) y))
      | inr (inr z) ↦
          inr (inr (looked_up_at third zs.result bytes (from + 2) zs.ensures in_third k (from + k + 2) lt
          (omega arith) z))
    ]

pub returns-clause-within : goal.returns-clause-within
returns-clause-within c =
    let sets = c.args.self.now in
    let bytes = c.args.bytes.now in
    let from = c.args.from in
    let xs = c.look_up-first in
    let ys = c.look_up-second in
    let zs = c.look_up-third in
    none_beyond xs.result ys.result zs.result
    (length_looked_up (bits_of sets.first) xs.result bytes from xs.ensures (omega (arith, c.requires)))
    (length_looked_up (bits_of sets.second) ys.result bytes (from + 1) ys.ensures (omega (arith, c.requires)))
    (length_looked_up (bits_of sets.third) zs.result bytes (from + 2) zs.ensures (omega (arith, c.requires)))
