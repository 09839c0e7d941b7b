use Rattle.std.proofs.Common.{◌+◌, ◌-◌, length, arith}
use Rattle.jp_number.specs.inner.Sizes.{digits}
use Rattle.jp_number.proofs.Places.{zero_decides, places_order, digits_order, cmp_of}
use Rattle.jp_number.proofs.size.compare_sizes.Goals as goal

pub returns-then-left_count-eq0 : goal.returns-then-left_count-eq0
returns-then-left_count-eq0 c =
    let l = c.args.left.now in
    let r = c.args.right.now in
    zero_decides (digits l) (digits r) l.zeros r.zeros (l.up + r.down) (r.up + l.down) c.cmp.result
    c.requires.left.lead c.requires.right.lead
    (λ p q. elim c.then-left_count-eq0.branch [
      | goal.then-left_count-eq0-via-then-left_count-eq0 w ↦ omega (arith, c.count-left_count.ensures)
      | goal.then-left_count-eq0-via-else-left_count-eq0+then-right_count-eq0 w ↦ omega
          (arith, c.count-right_count.ensures)
    ])
    (cmp_of _ _ _ _ c.cmp.result c.cmp.ensures c.count-left_count.ensures c.count-right_count.ensures)

pub returns-then-left_place-right_place : goal.returns-then-left_place-right_place
returns-then-left_place-right_place c =
    let l = c.args.left.now in
    let r = c.args.right.now in
    let n = c.count-left_count.ensures in
    let m = c.count-right_count.ensures in
    places_order (digits l) (digits r) l.zeros r.zeros (l.up + r.down)
    (r.up + l.down) c.cmp-then-left_place-right_place.result
    c.requires.left.all c.requires.right.all c.requires.left.lead c.requires.right.lead
    (omega (arith, n)) (omega (arith, m)) (λ e. c.if-left_place-right_place.true (omega (arith, n, m, e)))
    (cmp_of (c.count-left_count.result + l.up + r.down) (c.count-right_count.result + r.up + l.down)
    (length (digits l) - l.zeros + (l.up + r.down))
    (length (digits r) - r.zeros +
    (r.up + l.down)) c.cmp-then-left_place-right_place.result c.cmp-then-left_place-right_place.ensures
    (omega (arith, n)) (omega (arith, m)))

pub returns : goal.returns
returns c =
    let l = c.args.left.now in
    let r = c.args.right.now in
    let n = c.count-left_count.ensures in
    let m = c.count-right_count.ensures in
    digits_order (digits l) (digits r) l.zeros r.zeros (l.up + r.down)
    (r.up + l.down) c.max.result c.compare_digits.result
    c.requires.left.lead c.requires.right.lead
    (omega (arith, n, c.max.ensures)) (omega (arith, m, c.max.ensures))
    (omega (arith, n, m, c.if-left_place-right_place.false))
    c.compare_digits.ensures
