use Rattle.std.proofs.Common.{◌≡◌, sym, ap, ◌∙◌, take, drop}
use Rattle.jp_flat.specs.Gathered.{gathered}
use Rattle.jp_flat.specs.Value.{flat_value}
use Rattle.jp_flat.proofs.Placed.{between, replaced}
use Rattle.jp_flat.proofs.insertion.put.Goals as goal

pub returns-in_ok-insert-in-Before : goal.returns-in_ok-insert-in-Before
returns-in_ok-insert-in-Before c =
    let xs = c.args.list.now.items in
    let is : c.as_slice.result.now ≡ xs = c.as_slice.ensures.value in
    ap gathered c.in_ok-insert-in-Before.ensures.items
    ∙ between (take c.in-Before.place xs) (drop c.in-Before.place xs) c.args.member
    ∙ sym (rw is at (c.in-Before.ensures.1 (flat_value c.args.member.value)))

pub returns-in-Same : goal.returns-in-Same
returns-in-Same c =
    let xs = c.args.list.now.items in
    let is : c.as_slice.result.now ≡ xs = c.as_slice.ensures.value in
    replaced xs c.in-Same.place c.args.member (rw is at c.in-Same.ensures.0)
    ∙ sym (rw is at (c.in-Same.ensures.1 (flat_value c.args.member.value)))
