use Rattle.std.proofs.Common.{refl}
use Rattle.jp_automaton.specs.inner.ByteSets.{bits_of}
use Rattle.jp_automaton.proofs.LaneLemmas.{no_lane, looked_up_at, length_looked_up}
use Rattle.jp_automaton.proofs.EndingLemmas.{is_zero}
use Rattle.jp_automaton.proofs.byte_sets.ByteSet.has_any_from.Goals as goal

pub returns : goal.returns
returns c = λ none k lt.
    let found = c.look_up-found in
    let f = bits_of c.args.self.now in
    looked_up_at f found.result c.args.bytes.now c.args.from found.ensures c.requires k _ lt refl
    (no_lane found.result
    (length_looked_up f found.result c.args.bytes.now c.args.from found.ensures c.requires)
    (is_zero _ none) k lt)
