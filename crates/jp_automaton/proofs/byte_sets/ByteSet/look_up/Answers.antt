use Rattle.std.proofs.Common.{◌/◌, ◌%◌, arith, bit_and, get_or}
use Rattle.std.proofs.lemmas.Simd.{zip2_of_maps}
use Rattle.jp_automaton.proofs.LaneLemmas.{may_look_up, looked_up, low_halves, high_halves}
use Rattle.jp_automaton.proofs.byte_sets.ByteSet.look_up.Goals as goal

pub swizzle-low : goal.swizzle-low
swizzle-low c =
    let v = c.args.bytes in
    may_look_up v _ (λ x. x % 16) c.fits-bytes (low_halves v c.fits-bytes.0) (λ x lt. omega arith)

pub swizzle-high : goal.swizzle-high
swizzle-high c =
    let v = c.args.bytes in
    may_look_up v _ (λ x. x / 16) c.fits-bytes (high_halves v c.fits-bytes.0) (λ x lt. omega arith)

pub returns : goal.returns
returns c =
    let v = c.args.bytes in
    let set = c.args.self.now in
    zip2_of_maps bit_and (λ x. get_or set.low (x % 16) 0) (λ x. get_or set.high (x / 16) 0) v
    (looked_up v _ (λ x. x % 16) c.fits-bytes (low_halves v c.fits-bytes.0) (λ x lt. omega arith) set.low)
    (looked_up v _ (λ x. x / 16) c.fits-bytes (high_halves v c.fits-bytes.0) (λ x lt. omega arith) set.high)
