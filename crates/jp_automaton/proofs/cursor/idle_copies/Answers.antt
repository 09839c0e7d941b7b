use Rattle.std.proofs.Common.{◌*◌, ◌<◌, length, slice_index_or, arith}
use Rattle.jp_automaton.proofs.CursorLemmas.{passes_front, idle_cursor, position_above}
use Rattle.jp_automaton.proofs.cursor.idle_copies.Goals as goal

pub returns-clause-inactive : goal.returns-clause-inactive
returns-clause-inactive c =
    let lt : c.args.at.index < length c.args.active.now = omega arith in
    let q = slice_index_or c.args.active.now c.args.at.index 0 in
    (passes_front c.args.active.now c.args.at.past c.args.at.index c.requires.stands lt
    (c.min.result * c.args.size)
    (idle_cursor q c.args.at.past c.args.size c.min.result c.requires.some
    (position_above c.args.active.now c.args.at.past c.args.at.index c.requires.stands lt)
    (omega (arith, c.min.ensures)))).0
