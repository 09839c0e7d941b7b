use Rattle.std.proofs.Common.{length, drop, sym, ◌∙◌, ◌+◌, ◌*◌, ◌-◌, arith}
use Rattle.std.proofs.lemmas.Iterator.{YieldsList-from_chars}
use Rattle.std.proofs.lemmas.Iterator.Consumers.{YieldsList-turn, YieldsList-end}
use Rattle.std.proofs.lemmas.List.{at_drop_all, length_push}
use Rattle.std.specs.Str.{chars}
use Rattle.jp_types.specs.Numbers.{digits_from}
use Rattle.jp_types.proofs.WrittenNumbers.{digits_grow, digit_read, magnitude_is}
use Rattle.jp_types.proofs.written.magnitude.Goals as goal

pub loop-c-init : goal.loop-c-init
loop-c-init c = (magnitude_is (chars c.args.text.now), omega arith)

pub returns-then-number-ge10000000000000000000000000000000000000
    : goal.returns-then-number-ge10000000000000000000000000000000000000
returns-then-number-ge10000000000000000000000000000000000000 c =
    let t = YieldsList-turn (YieldsList-from_chars c.args.text.now c.utf8.text cc) c.loop-c.yielded _
    c.loop-c.yielded_by _ _ c.in-Some.c c.in-Some.is c.next.ensures.steps in
    let e = digit_read (chars c.args.text.now) c.loop-c.number (length c.loop-c.yielded) c.in-Some.c t in
    let more = digits_grow (c.loop-c.number * 10 + (c.in-Some.c - 48))
    (drop (length c.loop-c.yielded + 1) (chars c.args.text.now)) in
    omega (arith, e, c.loop-c.invariant.0)

pub loop-c-preserved : goal.loop-c-preserved
loop-c-preserved c =
    let t = YieldsList-turn (YieldsList-from_chars c.args.text.now c.utf8.text cc) c.loop-c.yielded _
    c.loop-c.yielded_by _ _ c.in-Some.c c.in-Some.is c.next.ensures.steps in
    let n = length_push c.loop-c.yielded c.in-Some.c in
    let e = digit_read (chars c.args.text.now) c.loop-c.number (length c.loop-c.yielded) c.in-Some.c t in
    (rw (n, c.saturating_sub.ensures) (sym e ∙ c.loop-c.invariant.0), omega arith)

pub returns : goal.returns
returns c =
    let t = YieldsList-end (YieldsList-from_chars c.args.text.now c.utf8.text cc) c.loop-c.yielded _
    c.loop-c.yielded_by _ _ c.in-None.is c.next.ensures.steps in
    let e = at_drop_all (digits_from c.loop-c.number) (chars c.args.text.now) (length c.loop-c.yielded)
    (omega (arith, t.1)) in
    (sym e ∙ c.loop-c.invariant.0, c.loop-c.invariant.1)
