use Rattle.std.proofs.Common.{map-id, sym, ap, ◌∙◌, arith}
use Rattle.std.proofs.lemmas.Iterator.{YieldsList-from_chars}
use Rattle.std.proofs.lemmas.Iterator.Consumers.{YieldsList-end, YieldsList-turn}
use Rattle.jp_tokens.specs.Depth as depth
use Rattle.jp_tokens.proofs.Cuts.{chars_fit}
use Rattle.jp_tokens.proofs.DepthScan.{count_fits, place_after, depth_after}
use Rattle.jp_tokens.proofs.depth.bracket_depth.Goals as goal

pub count_after-count-requires : goal.count_after-count-requires
count_after-count-requires c =
    let turn = YieldsList-turn (YieldsList-from_chars c.args.text.now c.utf8.text cc) c.loop-c.yielded _
    c.loop-c.yielded_by _ _ c.in-Some.c c.in-Some.is c.next.ensures.steps in
    let fits = count_fits c.loop-c.quotes c.loop-c.count c.loop-c.yielded c.loop-c.invariant.0 in
    let room = chars_fit c.args.text.now c.utf8.text in
    let below = turn.0 in
    let size = c.well_formed.0.0 in
    omega arith

pub loop-c-preserved-then-count-deepest : goal.loop-c-preserved-then-count-deepest
loop-c-preserved-then-count-deepest c =
    let h = depth_after c.loop-c.quotes c.loop-c.count c.loop-c.yielded c.loop-c.invariant.0 c.loop-c.deepest
    c.count_after-count.result c.in-Some.c c.loop-c.invariant.1 c.count_after-count.ensures in
    let t = c.if-count-deepest.true in (
      place_after c.loop-c.quotes c.loop-c.count c.loop-c.yielded c.loop-c.invariant.0
          c.quotes_after-quotes.result c.count_after-count.result c.in-Some.c c.count_after-count.ensures
          (c.quotes_after-quotes.ensures c.loop-c.count),
      omega arith,
    )

pub loop-c-preserved : goal.loop-c-preserved
loop-c-preserved c =
    let h = depth_after c.loop-c.quotes c.loop-c.count c.loop-c.yielded c.loop-c.invariant.0 c.loop-c.deepest
    c.count_after-count.result c.in-Some.c c.loop-c.invariant.1 c.count_after-count.ensures in
    let t = c.if-count-deepest.false in (
      place_after c.loop-c.quotes c.loop-c.count c.loop-c.yielded c.loop-c.invariant.0
          c.quotes_after-quotes.result c.count_after-count.result c.in-Some.c c.count_after-count.ensures
          (c.quotes_after-quotes.ensures c.loop-c.count),
      omega arith,
    )

pub returns : goal.returns
returns c =
    let end = YieldsList-end (YieldsList-from_chars c.args.text.now c.utf8.text cc) c.loop-c.yielded _
    c.loop-c.yielded_by _ _ c.in-None.is c.next.ensures.steps in
    c.loop-c.invariant.1 ∙ ap depth.bracket_depth (sym (map-id c.loop-c.yielded) ∙ end.0)
