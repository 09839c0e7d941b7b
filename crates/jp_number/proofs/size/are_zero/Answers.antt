use Rattle.std.proofs.Common.{◌+◌, ◌-◌, ◌==◌, length, ap, ◌∙◌}
use Rattle.jp_number.specs.inner.Sizes.{digits}
use Rattle.jp_number.proofs.Places.{zero_test}
use Rattle.jp_number.proofs.size.are_zero.Goals as goal

pub returns : goal.returns
returns c =
    let l = c.args.left.now in
    let r = c.args.right.now in
    ap (λ k. k + c.count-2.result == 0) c.count.ensures
    ∙ ap (λ k. length (digits l) - l.zeros + k == 0) c.count-2.ensures
    ∙ zero_test (digits l) (digits r) l.zeros r.zeros (l.up + r.down)
    (r.up + l.down) c.requires.left.lead c.requires.right.lead
