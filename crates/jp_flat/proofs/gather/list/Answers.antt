use Rattle.std.proofs.Common.{subst, sym, ◌∙◌, true≢false}
use Rattle.std.specs.Prelude.{IsTrue}
use Rattle.jp_flat.specs.Value.{entries}
use Rattle.jp_flat.proofs.Sorted.{one_more, listed_more}
use Rattle.jp_flat.proofs.gather.list.Goals as goal
use Rattle.jp_flat.proofs.gather.list.Goals.{then-rising, else-rising}

pub loop-member-preserved : goal.loop-member-preserved
loop-member-preserved c = (
  listed_more _ _ c.in-Some.member _ (entries c.in-Some.others) _ c.in_ok-push.ensures.items
      c.in-Some.ensures.value c.loop-member.invariant.0,
  λ yes. elim c.if-rising.branch [
    | then-rising w ↦ one_more c.loop-member.before _ _ c.in-Some.member c.name_of.result
        c.in_ok-push.ensures.items c.name_of.ensures (c.loop-member.invariant.1 w.if-rising.true)
        (w.is_above-rising.ensures (subst IsTrue w.rising-is yes))
    | else-rising w ↦ absurd (true≢false (sym yes ∙ w.rising-is ∙ w.if-rising.false))
  ],
)
