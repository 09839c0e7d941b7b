use Rattle.jp_memory.proofs.Standing.{few_come}
use Rattle.jp_memory.proofs.answering.answer_piece.Goals as goal

pub answer_come-requires-clause-few : goal.answer_come-requires-clause-few
answer_come-requires-clause-few g c =
    few_come c.args.buffer.now.cutting c.args.buffer.now.progress c.args.piece.now c.args.answering.now.faulty
    c.feed.new.self.lines c.args.buffer.now.lines c.feed.new.self.progress c.requires.few_faulty
    c.requires.none c.in_ok-feed.ensures.lines c.in_ok-feed.ensures.progress
