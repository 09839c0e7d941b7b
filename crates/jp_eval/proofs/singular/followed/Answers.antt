use Rattle.std.proofs.Common.{◌<◌, length, ap, ◌∙◌, refl, arith}
use Rattle.jp_doc.specs.Location.{node}
use Rattle.jp_node.specs.Part.{part_value}
use Rattle.jp_value.specs.Functions.{first_value}
use Rattle.jp_eval.proofs.OneNode.{led_on, led_off, led_to_end}
use Rattle.jp_eval.proofs.singular.followed.Goals as goal

pub loop-segment-init : goal.loop-segment-init
loop-segment-init c = λ base at. (at, refl)

pub loop-segment-preserved : goal.loop-segment-preserved
loop-segment-preserved c = λ base at.
    let h : c.loop-segment.segment-index < length c.args.segments.now = omega arith in
    let inv = c.loop-segment.invariant base at in
    let led = led_on base c.args.segments.now c.loop-segment.segment-index c.segment-item.result
    (node inv.0 (part_value c.loop-segment.last)) h c.segment-item.is (part_value c.in-Some.child)
    (rw c.in-Some.is at (c.in_ok-child.ensures base inv.0)) in
    (led.0, inv.1 ∙ led.1)

pub returns-in-None : goal.returns-in-None
returns-in-None c = λ base at.
    let h : c.loop-segment.segment-index < length c.args.segments.now = omega arith in
    let inv = c.loop-segment.invariant base at in
    ap first_value (inv.1 ∙ led_off base c.args.segments.now c.loop-segment.segment-index
    c.segment-item.result (node inv.0 (part_value c.loop-segment.last)) h c.segment-item.is
    (rw c.in-None.is at (c.in_ok-child.ensures base inv.0)))

pub returns : goal.returns
returns c = λ base at.
    let inv = c.loop-segment.invariant base at in
    ap first_value inv.1 ∙ led_to_end base c.args.segments.now c.loop-segment.segment-index
    (node inv.0 (part_value c.loop-segment.last)) c.loop-segment-test.false
