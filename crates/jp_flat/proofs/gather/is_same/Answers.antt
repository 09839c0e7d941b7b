use Rattle.std.proofs.Common.{sym, ap, ◌∙◌, length}
use Rattle.std.specs.List.{slice_get}
use Rattle.jp_flat.proofs.FirstBytes.{apart, first_apart}
use Rattle.jp_flat.proofs.gather.is_same.Goals as goal

pub returns-then-left-right : goal.returns-then-left-right
returns-then-left-right c =
    sym (apart c.args.left.now c.args.right.now c.utf8.left c.utf8.right
    (λ same. c.if-left-right.true (ap length same)))

pub returns-then-first-second : goal.returns-then-first-second
returns-then-first-second c =
    sym (apart c.args.left.now c.args.right.now c.utf8.left c.utf8.right
    (first_apart c.args.left.now c.args.right.now c.in-Some-Some.first.now c.in-Some-Some.second.now
    (c.in-Some-Some.ensures.value ∙ ap (λ xs. slice_get xs 0) c.as_bytes.ensures.value)
    (c.in-Some-Some.ensures'.value ∙ ap (λ xs. slice_get xs 0) c.as_bytes-2.ensures.value)
    c.if-first-second.true))
