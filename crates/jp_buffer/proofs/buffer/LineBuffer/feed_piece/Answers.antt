use Rattle.std.proofs.Common.{◌+◌, ◌∙◌, ap, sym, length}
use Rattle.jp_doc.specs.Feeding.{cut}
use Rattle.jp_doc.proofs.CutLaws.{feedless_both, open_feedless}
use Rattle.jp_buffer.proofs.GoingLaws.{open_fed, ended_fed, more_behind, line_ended, none_left}
use Rattle.jp_buffer.proofs.buffer.LineBuffer.feed_piece.Goals as goal

pub invariant_of-self-in_default : goal.invariant_of-self-in_default
invariant_of-self-in_default c = rw c.in_ok-extend_from_slice.ensures.items
    (feedless_both c.self.inside.open_line.items c.args.piece.now c.self.invariant c.in_default.ensures.none)

pub returns-in_default-clause-lines : goal.returns-in_default-clause-lines
returns-in_default-clause-lines c =
    (open_fed c.args.self.now c.self.inside.count c.self.inside.open_line.items c.args.piece.now _
    c.self.inside.waiting c.self.view_is c.self.invariant c.in_default.ensures.none
    c.in_ok-extend_from_slice.ensures.items).0

pub returns-in_default-clause-progress : goal.returns-in_default-clause-progress
returns-in_default-clause-progress c =
    (open_fed c.args.self.now c.self.inside.count c.self.inside.open_line.items c.args.piece.now _
    c.self.inside.waiting c.self.view_is c.self.invariant c.in_default.ensures.none
    c.in_ok-extend_from_slice.ensures.items).1

pub invariant_of-self-2 : goal.invariant_of-self-2
invariant_of-self-2 c = rw (c.in_ok-put_instead.ensures.ok, c.in_ok-count.ensures.rest)
    (open_feedless c.in-Some.after.now)

pub returns-clause-lines : goal.returns-clause-lines
returns-clause-lines c =
    (ended_fed c.args.self.now c.self.inside.count c.self.inside.open_line.items _ c.in-Some.line.now
    c.in-Some.after.now c.args.piece.now c.self.inside.waiting _ _ c.self.view_is c.self.invariant
    c.in-Some.ensures.some.0 c.in-Some.ensures.some.1 c.deref.ensures.value c.in_ok-push.ensures.lines
    c.in_ok-count.ensures.lines).0

pub returns-clause-progress : goal.returns-clause-progress
returns-clause-progress c =
    let count = c.self.inside.count + 1 + length (cut c.in-Some.after.now).ended in
    ap (λ k. record { count = k; open_line = c.put_instead.new.place.items }) c.in_ok-count.ensures.count
    ∙ ap (λ l. record { count = count; open_line = l }) (c.in_ok-put_instead.ensures.ok
    ∙ c.in_ok-count.ensures.rest)
    ∙ sym (ended_fed c.args.self.now c.self.inside.count c.self.inside.open_line.items _ c.in-Some.line.now
    c.in-Some.after.now c.args.piece.now c.self.inside.waiting _ _ c.self.view_is c.self.invariant
    c.in-Some.ensures.some.0 c.in-Some.ensures.some.1 c.deref.ensures.value c.in_ok-push.ensures.lines
    c.in_ok-count.ensures.lines).1

pub returns-in_err-count-clause-more_lines : goal.returns-in_err-count-clause-more_lines
returns-in_err-count-clause-more_lines c =
    more_behind c.from_residual-in_err-count.result c.args.self.now _ c.self.inside.waiting c.push.new.self
    _ _ c.self.view_is c.in_ok-push.ensures.lines c.in_err-count.ensures.more_lines

pub returns-in_err-put_instead-clause-more_lines : goal.returns-in_err-put_instead-clause-more_lines
returns-in_err-put_instead-clause-more_lines c =
    more_behind c.from_residual-in_err-put_instead.result c.args.self.now _ c.self.inside.waiting
    c.push.new.self _ _ c.self.view_is c.in_ok-push.ensures.lines (_, c.in_ok-count.ensures.lines)

pub returns-then-is_empty-clause-lines : goal.returns-then-is_empty-clause-lines
returns-then-is_empty-clause-lines c =
    (line_ended c.args.self.now c.self.inside.count c.self.inside.open_line.items c.in-Some.line.now
    c.in-Some.after.now c.args.piece.now c.self.inside.waiting _ c.self.view_is c.self.invariant
    c.in-Some.ensures.some.0 c.in-Some.ensures.some.1
    (none_left c.in-Some.after.now c.if-is_empty.ensures) c.in_ok-end_line.ensures.lines).0

pub returns-then-is_empty-clause-progress : goal.returns-then-is_empty-clause-progress
returns-then-is_empty-clause-progress c =
    c.in_ok-end_line.ensures.progress
    ∙ sym (line_ended c.args.self.now c.self.inside.count c.self.inside.open_line.items c.in-Some.line.now
    c.in-Some.after.now c.args.piece.now c.self.inside.waiting _ c.self.view_is c.self.invariant
    c.in-Some.ensures.some.0 c.in-Some.ensures.some.1
    (none_left c.in-Some.after.now c.if-is_empty.ensures) c.in_ok-end_line.ensures.lines).1
