use Rattle.std.proofs.Common.{◌≡◌, ◌++◌, OnOk, arith, ap, sym, ◌∙◌, subst}
use Rattle.std.proofs.lemmas.Grind.{common_steps}
use Rattle.jp_doc.specs.inner.Added.{Adds}
use Rattle.jp_doc.specs.Feeding.{Progress}
use Rattle.jp_doc.proofs.CutLaws.{feedless_both}
use Rattle.jp_doc.proofs.FeedLaws.{open_piece, fed_ended, begins_kept}
use Rattle.jp_doc.proofs.lines.Lines.feed_piece.Goals as goal

pub invariant_of-self-in_default : goal.invariant_of-self-in_default
invariant_of-self-in_default c = rw c.in_ok-extend_from_slice.ensures.items
    (feedless_both c.self.inside.open_line.items c.args.piece.now c.self.invariant c.in_default.ensures.none)

pub returns-in_default-clause-lines : goal.returns-in_default-clause-lines
returns-in_default-clause-lines c =
    let e = open_piece c.args.self.now c.self.inside.count c.self.inside.open_line.items c.args.piece.now
    c.self.view_is c.self.invariant c.in_default.ensures.none in
    rw e.0 (grind (arith, common_steps))

pub returns-in_default-clause-progress : goal.returns-in_default-clause-progress
returns-in_default-clause-progress c =
    let e = open_piece c.args.self.now c.self.inside.count c.self.inside.open_line.items c.args.piece.now
    c.self.view_is c.self.invariant c.in_default.ensures.none in
    rw (e.0, e.1, c.in_ok-extend_from_slice.ensures.items) (grind (arith, common_steps))

pub invariant_of-self-2 : goal.invariant_of-self-2
invariant_of-self-2 c = rw c.in_ok-extend_from_slice-2.ensures.items
    (feedless_both c.self.inside.open_line.items c.in-Some.line.now c.self.invariant c.in-Some.ensures.some.1)

pub returns-clause-lines : goal.returns-clause-lines
returns-clause-lines c =
    let parts = c.in-Some.ensures.some in
    let is = fed_ended c.args.self.now c.self.inside.count c.self.inside.open_line.items c.in-Some.line.now
    c.in-Some.after.now c.args.piece.now _ c.self.view_is parts.0 c.self.invariant parts.1
    c.in_ok-extend_from_slice-2.ensures.items in
    subst (λ ls. OnOk c.end_line.result (Adds c.args.out.now.items c.end_line.new.out.items ls)) (sym is.0)
    c.end_line.ensures.lines

pub returns-clause-progress : goal.returns-clause-progress
returns-clause-progress c =
    let parts = c.in-Some.ensures.some in
    let is = fed_ended c.args.self.now c.self.inside.count c.self.inside.open_line.items c.in-Some.line.now
    c.in-Some.after.now c.args.piece.now _ c.self.view_is parts.0 c.self.invariant parts.1
    c.in_ok-extend_from_slice-2.ensures.items in
    subst (λ p. OnOk c.end_line.result (c.end_line.new.self ≡ p)) (sym is.1) c.end_line.ensures.progress

pub returns-clause-more_bytes : goal.returns-clause-more_bytes
returns-clause-more_bytes c =
    begins_kept c.end_line.result _ c.end_line.new.self c.args.self.now.open_line c.in-Some.line.now
    c.end_line.ensures.same_progress
    (c.in_ok-extend_from_slice-2.ensures.items ∙ ap (λ (p : Progress). p.open_line ++ c.in-Some.line.now)
    c.self.view_is)

pub invariant_of-self : goal.invariant_of-self
invariant_of-self c = grind (arith, common_steps)

pub returns-in_err-extend_from_slice-clause-lines : goal.returns-in_err-extend_from_slice-clause-lines
returns-in_err-extend_from_slice-clause-lines c = grind (arith, common_steps)

pub returns-in_err-extend_from_slice-clause-progress : goal.returns-in_err-extend_from_slice-clause-progress
returns-in_err-extend_from_slice-clause-progress c = grind (arith, common_steps)

pub returns-in_err-extend_from_slice-clause-more_lines :
    goal.returns-in_err-extend_from_slice-clause-more_lines
returns-in_err-extend_from_slice-clause-more_lines c = grind (arith, common_steps)

pub returns-in_err-extend_from_slice-clause-more_bytes :
    goal.returns-in_err-extend_from_slice-clause-more_bytes
returns-in_err-extend_from_slice-clause-more_bytes c = grind (arith, common_steps)

pub returns-in_err-extend_from_slice-clause-same_count :
    goal.returns-in_err-extend_from_slice-clause-same_count
returns-in_err-extend_from_slice-clause-same_count c = grind (arith, common_steps)

pub returns-in_default-clause-more_lines : goal.returns-in_default-clause-more_lines
returns-in_default-clause-more_lines c = grind (arith, common_steps)

pub returns-in_default-clause-more_bytes : goal.returns-in_default-clause-more_bytes
returns-in_default-clause-more_bytes c = grind (arith, common_steps)

pub returns-in_default-clause-same_count : goal.returns-in_default-clause-same_count
returns-in_default-clause-same_count c = grind (arith, common_steps)

pub invariant_of-self-in_err-extend_from_slice-2 : goal.invariant_of-self-in_err-extend_from_slice-2
invariant_of-self-in_err-extend_from_slice-2 c = grind (arith, common_steps)

pub returns-in_err-extend_from_slice-2-clause-lines : goal.returns-in_err-extend_from_slice-2-clause-lines
returns-in_err-extend_from_slice-2-clause-lines c = grind (arith, common_steps)

pub returns-in_err-extend_from_slice-2-clause-progress :
    goal.returns-in_err-extend_from_slice-2-clause-progress
returns-in_err-extend_from_slice-2-clause-progress c = grind (arith, common_steps)

pub returns-in_err-extend_from_slice-2-clause-more_lines :
    goal.returns-in_err-extend_from_slice-2-clause-more_lines
returns-in_err-extend_from_slice-2-clause-more_lines c = grind (arith, common_steps)

pub returns-in_err-extend_from_slice-2-clause-more_bytes :
    goal.returns-in_err-extend_from_slice-2-clause-more_bytes
returns-in_err-extend_from_slice-2-clause-more_bytes c = grind (arith, common_steps)

pub returns-in_err-extend_from_slice-2-clause-same_count :
    goal.returns-in_err-extend_from_slice-2-clause-same_count
returns-in_err-extend_from_slice-2-clause-same_count c = grind (arith, common_steps)

pub returns-clause-more_lines : goal.returns-clause-more_lines
returns-clause-more_lines c = grind (arith, common_steps)

pub returns-clause-same_count : goal.returns-clause-same_count
returns-clause-same_count c = grind (arith, common_steps)
