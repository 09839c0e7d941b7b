use Rattle.std.proofs.Common.{◌≡◌, false, sym, ◌∙◌}
use Rattle.jp_eval.specs.inner.Base.{base_of}
use Rattle.jp_found.specs.Links.{here}
use Rattle.jp_eval.specs.inner.Walk.{is_true}
use Rattle.jp_eval.proofs.Chains.{reached-none}
use Rattle.jp_eval.proofs.split.settled.Goals as goal

pub returns-else-holds-clause-action : goal.returns-else-holds-clause-action
returns-else-holds-clause-action g c =
    let truth : is_true (base_of c.args.context.now) c.in-Test.test.now (here c.args.path.now c.args.value)
    ≡ false = sym c.in_ok-holds-in-Test.ensures.truth ∙ c.if-holds.false in
    rw (c.in-Test.is, truth) (reached-none (base_of c.args.context.now) c.in-Test.rest.now)
