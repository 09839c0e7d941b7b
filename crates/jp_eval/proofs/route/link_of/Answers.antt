use Rattle.std.proofs.lemmas.Option.{IfSome_then}
use Rattle.jp_node.specs.Links.{link_step}
use Rattle.jp_eval.proofs.RouteSteps.{single_step}
use Rattle.jp_eval.proofs.route.link_of.Goals as goal

pub returns : goal.returns
returns c = IfSome_then c.selector_link.result c.selector_link.ensures (λ link h roots.
    single_step roots c.args.segment.now c.as_slice.result.now _ (link_step link) c.if-segment.false
    c.as_slice.ensures.value c.in-len1.len_at_least c.in-len1.len_below c.selector-item.is (h roots))
