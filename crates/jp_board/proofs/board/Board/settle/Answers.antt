use Rattle.std.proofs.Common.{ℕ, [], ◌∷◌, sym, subst}
use Rattle.std.specs.Slots.{slots_items}
use Rattle.atomic_table.specs.Table.{Final, Seen}
use Rattle.jp_board.specs.declared.view.View.{View}
use Rattle.jp_board.specs.Rule.{Holds}
use Rattle.jp_board.specs.Tally.{Tallies}
use Rattle.jp_board.proofs.Tallying.{settles}
use Rattle.jp_board.proofs.board.Board.settle.Goals as goal

pub returns : goal.returns
returns c =
    let v : View = c.args.all.me.0 in
    let r = c.close_with-closed.result in
    let f = subst (λ (k : ℕ × ℕ). Final (Seen (Holds k) c.args.all.id v) (slots_items r.words)
    (slots_items r.slots)) c.args.self.key_is c.close_with-closed.ensures.values.2 in
    let t = settles (c.args.self.pieces, c.args.self.made) c.args.all.id v (slots_items r.words)
    (slots_items r.slots) c.word-next.result c.word-least.result f c.requires.1 c.word-next.ensures
    c.word-least.ensures in
    subst (λ (n : ℕ). Tallies c.args.self.pieces n c.word-least.result (v ∷ [])) (sym c.min.ensures) t
