use Rattle.std.proofs.Common.{ap, map-id, sym, ◌∙◌}
use Rattle.std.proofs.lemmas.Iterator.{YieldsList-from_chars}
use Rattle.std.proofs.lemmas.Iterator.Consumers.{YieldsList-end}
use Rattle.jp_explain.specs.Slashes.{slash_next, slashes_from}
use Rattle.jp_explain.specs.declared.slashes.Slashes.{Slashes}
use Rattle.jp_explain.specs.declared.slashes.Slashes.TheVariants.{Start}
use Rattle.jp_explain.proofs.Traps.{slashes_pushed}
use Rattle.jp_explain.proofs.slashes.slashes_of.Goals as goal

pub loop-c-preserved : goal.loop-c-preserved
loop-c-preserved c =
    c.past-slashes.ensures ∙ (ap (λ (s : Slashes). slash_next s c.in-Some.c) c.loop-c.invariant
    ∙ sym (slashes_pushed Start c.loop-c.yielded c.in-Some.c))

pub returns : goal.returns
returns c =
    let end = YieldsList-end (YieldsList-from_chars c.args.text.now c.utf8.text cc) c.loop-c.yielded _
    c.loop-c.yielded_by _ _ c.in-None.is c.next.ensures.steps in
    c.loop-c.invariant ∙ ap (slashes_from Start) (sym (map-id c.loop-c.yielded) ∙ end.0)
