use Rattle.std.proofs.Common.{sym, ap, ◌∙◌}
use Rattle.std.proofs.lemmas.Str.{encodes-chars}
use Rattle.std.specs.List.{slice_get}
use Rattle.jp_flat.proofs.FirstBytes.{below, above}
use Rattle.jp_flat.proofs.gather.order.Goals as goal

pub returns-then-first-second : goal.returns-then-first-second
returns-then-first-second c =
    rw (encodes-chars c.args.left.now c.utf8.left, encodes-chars c.args.right.now c.utf8.right)
    (sym (below c.args.left.now c.args.right.now c.in-Some-Some.first.now c.in-Some-Some.second.now
    (c.in-Some-Some.ensures.value ∙ ap (λ xs. slice_get xs 0) c.as_bytes.ensures.value)
    (c.in-Some-Some.ensures'.value ∙ ap (λ xs. slice_get xs 0) c.as_bytes-2.ensures.value)
    c.if-first-second.true))

pub returns-then-second-first : goal.returns-then-second-first
returns-then-second-first c =
    rw (encodes-chars c.args.left.now c.utf8.left, encodes-chars c.args.right.now c.utf8.right)
    (sym (above c.args.left.now c.args.right.now c.in-Some-Some.first.now c.in-Some-Some.second.now
    (c.in-Some-Some.ensures.value ∙ ap (λ xs. slice_get xs 0) c.as_bytes.ensures.value)
    (c.in-Some-Some.ensures'.value ∙ ap (λ xs. slice_get xs 0) c.as_bytes-2.ensures.value)
    c.if-second-first.true))

pub returns : goal.returns
returns c =
    rw (encodes-chars c.args.left.now c.utf8.left, encodes-chars c.args.right.now c.utf8.right) c.cmp.ensures
