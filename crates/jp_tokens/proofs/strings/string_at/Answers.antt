use Rattle.std.proofs.Common.{rules}
use Rattle.std.proofs.lemmas.Result.{err_from_is_err_and}
use Rattle.std.specs.Str.{chars}
use Rattle.jp_tree.specs.View.{text_of}
use Rattle.jp_tokens.specs.Reading.{piece_at, string_at}
use Rattle.jp_tokens.proofs.Turns.{refusal_fails, turn_fails, turn_ends, turn_goes, turn_shortens}
use Rattle.jp_tokens.proofs.Pieces.{pieces_get_on}
use Rattle.jp_tokens.proofs.strings.string_at.Goals as goal

pub returns-in_err-piece : goal.returns-in_err-piece
returns-in_err-piece c =
    let p = err_from_is_err_and c.from_residual.result c.from_residual.ensures.1 in
    rw (p.1, p.2) (turn_fails (piece_at c.args.quote) (pieces_get_on c.args.quote)
    (string_at c.args.quote (chars c.args.text.now)) (text_of c.loop-found.found)
    (chars c.loop-found.rest.now) c.loop-found.invariant.1 c.in_err-piece.field-0.0
    (refusal_fails c.in_err-piece.field-0.0 _ c.in_err-piece.ensures))

pub returns-in-None : goal.returns-in-None
returns-in-None c = turn_ends (piece_at c.args.quote) (pieces_get_on c.args.quote)
    (string_at c.args.quote (chars c.args.text.now)) (text_of c.loop-found.found)
    (chars c.loop-found.rest.now) c.loop-found.invariant.1 c.in_ok-piece.piece (chars c.in_ok-piece.after.now)
    c.in_ok-piece.ensures c.in-None.is

pub loop-found-smaller : goal.loop-found-smaller
loop-found-smaller c = turn_shortens (piece_at c.args.quote) (pieces_get_on c.args.quote)
    (chars c.loop-found.rest.now) c.in_ok-piece.piece c.in-Some.c (chars c.in_ok-piece.after.now)
    c.in_ok-piece.ensures c.in-Some.is

pub loop-found-preserved : goal.loop-found-preserved
loop-found-preserved c = (
  search rules,
  rw c.in_ok-push_character-in-Some.ensures
      (turn_goes (piece_at c.args.quote) (pieces_get_on c.args.quote)
      (string_at c.args.quote (chars c.args.text.now)) (text_of c.loop-found.found)
      (chars c.loop-found.rest.now) c.loop-found.invariant.1 c.in_ok-piece.piece c.in-Some.c
      (chars c.in_ok-piece.after.now) c.in_ok-piece.ensures c.in-Some.is),
)
