use Rattle.std.proofs.Common.{◌∙◌, subst, sym}
use Rattle.jp_answer.specs.inner.Gathering.{Gathers}
use Rattle.jp_answer.proofs.Gathering.{gathers_then, none_told}
use Rattle.jp_answer.proofs.lists.take_all.Goals as goal

pub take_front-requires-clause-gathers : goal.take_front-requires-clause-gathers
take_front-requires-clause-gathers g c κs within =
    let h = c.requires.gathers in
    let kept = c.loop-out.invariant in (
      h.0,
      h.1,
      subst (λ a. Gathers g.F.Form.says a h.0 h.1 c.loop-out.out.sent.items c.loop-out.done) (sym kept.asked)
          (kept.gathers h.0 h.1 h.2),
    )

pub returns-then-is_some-clause-gathers : goal.returns-then-is_some-clause-gathers
returns-then-is_some-clause-gathers g c = gathers_then g.F.Form.says c.args.out.now c.loop-out.out
    c.take_front.new.out c.args.done.now c.loop-out.done c.take_front.new.done c.loop-out.invariant.asked
    c.loop-out.invariant.gathers c.in_ok-take_front.ensures.gathers

pub loop-out-preserved : goal.loop-out-preserved
loop-out-preserved g c = record {
  gathers = gathers_then g.F.Form.says c.args.out.now c.loop-out.out c.take_front.new.out c.args.done.now
      c.loop-out.done c.take_front.new.done c.loop-out.invariant.asked c.loop-out.invariant.gathers
      c.in_ok-take_front.ensures.gathers;
  asked = c.in_ok-take_front.ensures.asked ∙ c.loop-out.invariant.asked;
  unstopped = none_told _ c.if-is_some.ensures;
}
