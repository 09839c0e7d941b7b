use Rattle.std.proofs.Common.{length, ◌<◌, ◌≤◌, subst}
use Rattle.std.proofs.Common.{arith}
use Rattle.std.proofs.lemmas.List.{take_all}
use Rattle.jp_check.specs.inner.Uniform.{AreUniform}
use Rattle.jp_check.proofs.Uniformity.{none_uniform, one_more_uniform, any_uniform, every_uniform}
use Rattle.jp_check.proofs.Uniformity.{not_uniform}
use Rattle.jp_check.proofs.Uniformity.{compare_uniform, test_uniform, match_uniform, search_uniform}
use Rattle.jp_check.proofs.Uniformity.{match_known_uniform, search_known_uniform, xor_uniform, once_uniform}
use Rattle.jp_check.proofs.uniform.+uniform.Goals as goal

pub is_uniform-returns-in-Any : goal.is_uniform-returns-in-Any
is_uniform-returns-in-Any t c = λ on. rw c.in-Any.is (any_uniform c.in-Any.parts
    (rw c.as_slice.ensures.value at (c.are_uniform.ensures on)))

pub is_uniform-returns-in-All : goal.is_uniform-returns-in-All
is_uniform-returns-in-All t c = λ on. rw c.in-All.is (every_uniform c.in-All.parts
    (rw c.as_slice-in-All.ensures.value at (c.are_uniform-in-All.ensures on)))

pub is_uniform-returns-in-Not : goal.is_uniform-returns-in-Not
is_uniform-returns-in-Not t c = λ on. rw c.in-Not.is (not_uniform c.in-Not.part
    (rw c.deref.ensures at (c.is_uniform.ensures on)))

pub is_uniform-returns-in-Compare : goal.is_uniform-returns-in-Compare
is_uniform-returns-in-Compare t c = λ on. rw c.in-Compare.is
    (compare_uniform c.in-Compare.left c.in-Compare.field-1 c.in-Compare.right
    (c.are_uniform_values.ensures.left on) (c.are_uniform_values.ensures.right on))

pub is_uniform-returns-in-Test : goal.is_uniform-returns-in-Test
is_uniform-returns-in-Test t c = λ on. rw c.in-Test.is (test_uniform c.in-Test.nodes
    (c.is_uniform_query.ensures on))

pub is_uniform-returns-in-Match : goal.is_uniform-returns-in-Match
is_uniform-returns-in-Match t c = λ on. rw c.in-Match.is
    (match_uniform c.in-Match.text c.in-Match.pattern
    (c.are_uniform_values-in-Match.ensures.left on) (c.are_uniform_values-in-Match.ensures.right on))

pub is_uniform-returns-in-MatchRead : goal.is_uniform-returns-in-MatchRead
is_uniform-returns-in-MatchRead t c = λ on. rw c.in-MatchRead.is
    (match_known_uniform c.in-MatchRead.text c.in-MatchRead.field-1 (c.is_uniform_value.ensures on))

pub is_uniform-returns-in-Search : goal.is_uniform-returns-in-Search
is_uniform-returns-in-Search t c = λ on. rw c.in-Search.is
    (search_uniform c.in-Search.text c.in-Search.pattern
    (c.are_uniform_values-in-Search.ensures.left on) (c.are_uniform_values-in-Search.ensures.right on))

pub is_uniform-returns-in-SearchRead : goal.is_uniform-returns-in-SearchRead
is_uniform-returns-in-SearchRead t c = λ on. rw c.in-SearchRead.is
    (search_known_uniform c.in-SearchRead.text c.in-SearchRead.field-1
    (c.is_uniform_value-in-SearchRead.ensures on))

pub are_uniform-loop-part-preserved : goal.are_uniform-loop-part-preserved
are_uniform-loop-part-preserved t c =
    let h : c.loop-part.part-index < length c.args.parts.now = omega arith in
    one_more_uniform c.args.parts.now c.loop-part.part-index c.part-item.result h c.part-item.is
    c.loop-part.invariant (c.is_uniform.ensures c.if-not-is_uniform.false)

pub are_uniform-loop-part-init : goal.are_uniform-loop-part-init
are_uniform-loop-part-init t c = none_uniform

pub are_uniform-returns : goal.are_uniform-returns
are_uniform-returns t c = λ on.
    let h : length c.args.parts.now ≤ c.loop-part.part-index = omega arith in
    subst AreUniform (take_all c.loop-part.part-index c.args.parts.now h) c.loop-part.invariant

pub is_uniform-returns-then-is_uniform : goal.is_uniform-returns-then-is_uniform
is_uniform-returns-then-is_uniform t c = λ on. rw c.in-Xor.is
    (xor_uniform c.in-Xor.field-0 c.in-Xor.left c.in-Xor.field-2 c.in-Xor.right
    (rw c.deref-in-Xor.ensures at (c.is_uniform-in-Xor.ensures c.if-is_uniform.true))
    (rw c.deref-then-is_uniform.ensures at (c.is_uniform-then-is_uniform.ensures on)))

pub is_uniform-returns-in-Once : goal.is_uniform-returns-in-Once
is_uniform-returns-in-Once t c = λ on. rw c.in-Once.is (once_uniform c.in-Once.field-0)
