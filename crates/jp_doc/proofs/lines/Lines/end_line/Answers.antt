use Rattle.std.proofs.Common.{rules, arith}
use Rattle.std.proofs.Common.{◌≡◌, ℕ, ◌+◌, ◌∷◌, Vec, Global, true≢false, ap, sym, ◌∙◌, subst}
use Rattle.std.proofs.lemmas.Grind.{common_steps}
use Rattle.std.proofs.Math.ListN.{set}
use Rattle.jp_doc.specs.inner.Added.{Adds}
use Rattle.jp_doc.specs.Feeding.{Progress, cut, numbered}
use Rattle.jp_doc.specs.Lines.{is_blank}
use Rattle.jp_doc.specs.declared.line.Line as code
use Rattle.jp_doc.proofs.FeedLaws.{adds_blank, adds_full}
use Rattle.jp_doc.proofs.lines.Lines.end_line.Goals as goal
use Rattle.jp_doc.proofs.lines.Lines.end_line.Goals.{then-not-is_blank+in_ok-push, else-not-is_blank}
use Rattle.jp_doc.proofs.lines.Lines.end_line.Goals.{then-not-is_blank-2, else-not-is_blank-2}

pub returns-clause-lines : goal.returns-clause-lines
returns-clause-lines c =
    let lines = (cut c.args.after.now).ended in
    let later = numbered (c.self.inside.count + 1 + 1) lines in
    let full : code.Line = record { number = c.self.inside.count + 1; bytes = c.replace-bytes.result } in
    let tests : c.is_blank_line-is_blank.result ≡ is_blank c.self.inside.open_line.items =
    c.is_blank_line-is_blank.ensures.blank ∙ ap is_blank c.deref.ensures.value in
    subst (λ (p : Progress). Adds c.args.out.now.items c.if-not-is_blank-2.out.items
    (numbered (p.count + 1) (p.open_line ∷ lines))) c.self.view_is
    (elim c.if-not-is_blank-2.branch [
      | then-not-is_blank-2 w ↦ elim c.if-not-is_blank.branch [
        | then-not-is_blank+in_ok-push v ↦
            adds_full _ _ _ _ _ full (c.self.inside.count + 1) c.self.inside.open_line.items lines
            (ap (λ (o : Vec code.Line Global). o.items) v.out-is ∙ v.in_ok-push.ensures.items)
            c.in_ok-count.ensures.lines
            (ap (λ (o : Vec code.Line Global). o.items) w.out-is
            ∙ ap (λ i. set c.push_lines.new.out.items i full) (c.len-at.ensures ∙ c.args.out.now.ok.0))
            (ap (λ (b : Vec ℕ Global). (c.self.inside.count + 1, b.items)) c.replace-bytes.ensures.value)
            (sym tests ∙ v.if-not-is_blank.true)
        | else-not-is_blank v ↦ absurd (true≢false (sym v.if-not-is_blank.false ∙ w.if-not-is_blank-2.true))
      ]
      | else-not-is_blank-2 w ↦ elim c.if-not-is_blank.branch [
        | then-not-is_blank+in_ok-push v ↦ absurd (true≢false (sym w.if-not-is_blank-2.false
            ∙ v.if-not-is_blank.true))
        | else-not-is_blank v ↦ adds_blank _ _ (c.self.inside.count + 1) c.self.inside.open_line.items lines
            (subst (λ (o : Vec code.Line Global). Adds c.args.out.now.items o.items later) (sym w.out-is)
            (subst (λ (o : Vec code.Line Global). Adds o.items c.push_lines.new.out.items later) v.out-is
            c.in_ok-count.ensures.lines))
            (sym tests ∙ v.if-not-is_blank.false)
      ]
    ])

pub returns-clause-progress : goal.returns-clause-progress
returns-clause-progress c = search rules

pub returns-in_err-open_line-clause-more_lines : goal.returns-in_err-open_line-clause-more_lines
returns-in_err-open_line-clause-more_lines c = grind (arith, common_steps)

pub index_mut-requires : goal.index_mut-requires
index_mut-requires c = grind (arith, common_steps)

pub returns-in_err-count-clause-more_lines : goal.returns-in_err-count-clause-more_lines
returns-in_err-count-clause-more_lines c = grind (arith, common_steps)

pub overflow_add-number : goal.overflow_add-number
overflow_add-number c = grind (arith, common_steps)

pub returns-in_err-push-clause-lines : goal.returns-in_err-push-clause-lines
returns-in_err-push-clause-lines c = grind (arith, common_steps)

pub returns-in_err-push-clause-progress : goal.returns-in_err-push-clause-progress
returns-in_err-push-clause-progress c = grind (arith, common_steps)

pub returns-in_err-push-clause-more_lines : goal.returns-in_err-push-clause-more_lines
returns-in_err-push-clause-more_lines c = grind (arith, common_steps)

pub returns-in_err-push-clause-same_progress : goal.returns-in_err-push-clause-same_progress
returns-in_err-push-clause-same_progress c = grind (arith, common_steps)

pub returns-in_err-count-clause-lines : goal.returns-in_err-count-clause-lines
returns-in_err-count-clause-lines c = grind (arith, common_steps)

pub returns-in_err-count-clause-progress : goal.returns-in_err-count-clause-progress
returns-in_err-count-clause-progress c = grind (arith, common_steps)

pub returns-in_err-count-clause-same_progress : goal.returns-in_err-count-clause-same_progress
returns-in_err-count-clause-same_progress c = grind (arith, common_steps)

pub returns-in_err-open_line-clause-lines : goal.returns-in_err-open_line-clause-lines
returns-in_err-open_line-clause-lines c = grind (arith, common_steps)

pub returns-in_err-open_line-clause-progress : goal.returns-in_err-open_line-clause-progress
returns-in_err-open_line-clause-progress c = grind (arith, common_steps)

pub returns-in_err-open_line-clause-same_progress : goal.returns-in_err-open_line-clause-same_progress
returns-in_err-open_line-clause-same_progress c = grind (arith, common_steps)

pub invariant_of-self : goal.invariant_of-self
invariant_of-self c = grind (arith, common_steps)

pub returns-clause-more_lines : goal.returns-clause-more_lines
returns-clause-more_lines c = grind (arith, common_steps)

pub returns-clause-same_progress : goal.returns-clause-same_progress
returns-clause-same_progress c = grind (arith, common_steps)
