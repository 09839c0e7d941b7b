use Rattle.std.proofs.Common.{◌≡◌, ◌+◌, ◌-◌, ◌++◌, ◌∷◌, [], map, ap, ◌∙◌}
use Rattle.std.proofs.lemmas.List.{map-append}
use Rattle.std.proofs.lemmas.Result.{err_from_is_err_and}
use Rattle.jp_pattern.specs.Tree.{node_of}
use Rattle.jp_pattern.specs.inner.Reading.{pattern_within, pattern_behind}
use Rattle.jp_pattern.proofs.NodeLemmas.{node_pieces}
use Rattle.jp_pattern.proofs.TurnLemmas.{pattern_fails, pattern_ends, pattern_bar, pattern_piece}
use Rattle.jp_pattern.proofs.TurnLemmas.{pattern_over}
use Rattle.jp_pattern.proofs.read_patterns.+read_patterns.Goals as goal
use Rattle.jp_pattern.proofs.read_patterns.+read_patterns.Goals.{pattern_at-in-Bar+in_ok-push-in-Bar}
use Rattle.jp_pattern.proofs.read_patterns.+read_patterns.Goals.{pattern_at-in-Piece+in_ok-push-in-Piece}

pub pattern_at-returns-in_err-next : goal.pattern_at-returns-in_err-next
pattern_at-returns-in_err-next t c =
    let p = err_from_is_err_and c.from_residual.result c.from_residual.ensures.1 in
    rw (p.1, p.2) (pattern_fails (pattern_within c.args.left c.args.turns c.args.text.now)
    (map node_of c.loop-turn.before.items) (map node_of c.loop-turn.pieces.items) c.args.left c.args.turns
    c.loop-turn.turn c.loop-turn.rest.now
    c.loop-turn-test.true c.loop-turn.invariant c.in_err-next.field-0.0 c.in_err-next.ensures)

pub pattern_at-returns-in-End : goal.pattern_at-returns-in-End
pattern_at-returns-in-End t c =
    let next = rw c.in-End.is at c.in_ok-next.ensures in
    rw c.in_ok-branches-in-End.ensures
    (pattern_ends (pattern_within c.args.left c.args.turns c.args.text.now)
    (map node_of c.loop-turn.before.items) (map node_of c.loop-turn.pieces.items) c.args.left c.args.turns
    c.loop-turn.turn c.loop-turn.rest.now
    c.loop-turn-test.true c.loop-turn.invariant c.in_ok-next.after.now next)

pub pattern_at-loop-turn-preserved : goal.pattern_at-loop-turn-preserved
pattern_at-loop-turn-preserved t c =
    let whole = pattern_within c.args.left c.args.turns c.args.text.now in
    elim c.match-next.branch as (λ _. whole ≡ pattern_behind (map node_of c.match-next.before.items)
    (map node_of c.match-next.pieces.items)
    (pattern_within c.args.left (c.args.turns - (c.loop-turn.turn + 1)) c.in_ok-next.after.now)) [
      | pattern_at-in-Bar+in_ok-push-in-Bar w ↦
          let next = rw w.in-Bar.is at c.in_ok-next.ensures in
          let before = ap (λ v. map node_of v.items) w.before-is
          ∙ ap (map node_of) w.in_ok-push-in-Bar.ensures.items
          ∙ map-append node_of c.loop-turn.before.items _
          ∙ ap (λ p. map node_of c.loop-turn.before.items ++ (p ∷ []))
          (node_pieces c.loop-turn.pieces) in
          let pieces = ap (λ v. map node_of v.items) w.pieces-is
          ∙ ap (map node_of) w.new-pieces-in-Bar.ensures.items in
          rw (before, pieces)
          (pattern_bar whole (map node_of c.loop-turn.before.items) (map node_of c.loop-turn.pieces.items)
          c.args.left c.args.turns c.loop-turn.turn c.loop-turn.rest.now
          c.loop-turn-test.true c.loop-turn.invariant c.in_ok-next.after.now next)
      | pattern_at-in-Piece+in_ok-push-in-Piece w ↦
          let next = rw w.in-Piece.is at c.in_ok-next.ensures in
          let before = ap (λ v. map node_of v.items) w.before-is in
          let pieces = ap (λ v. map node_of v.items) w.pieces-is
          ∙ ap (map node_of) w.in_ok-push-in-Piece.ensures.items
          ∙ map-append node_of c.loop-turn.pieces.items (w.in-Piece.piece ∷ []) in
          rw (before, pieces)
          (pattern_piece whole (map node_of c.loop-turn.before.items) (map node_of c.loop-turn.pieces.items)
          c.args.left c.args.turns c.loop-turn.turn c.loop-turn.rest.now
          c.loop-turn-test.true c.loop-turn.invariant (node_of w.in-Piece.piece) c.in_ok-next.after.now next)
    ]

pub pattern_at-returns : goal.pattern_at-returns
pattern_at-returns t c =
    pattern_over (pattern_within c.args.left c.args.turns c.args.text.now)
    (map node_of c.loop-turn.before.items) (map node_of c.loop-turn.pieces.items) c.args.left c.args.turns
    c.loop-turn.turn c.loop-turn.rest.now
    c.loop-turn-test.false c.loop-turn.invariant
