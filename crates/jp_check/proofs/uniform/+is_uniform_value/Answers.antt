use Rattle.jp_check.proofs.Uniformity.{constant_uniform, single_uniform, length_uniform, count_uniform}
use Rattle.jp_check.proofs.Uniformity.{only_uniform}
use Rattle.jp_check.proofs.uniform.+is_uniform_value.Goals as goal

pub returns-in-Constant : goal.returns-in-Constant
returns-in-Constant t c = λ on. rw c.in-Constant.is (constant_uniform c.in-Constant.field-0)

pub returns-in-Single : goal.returns-in-Single
returns-in-Single t c = λ on. rw c.in-Single.is (single_uniform c.in-Single.nodes
    (c.is_uniform_query.ensures on))

pub returns-in-Length : goal.returns-in-Length
returns-in-Length t c = λ on. rw c.in-Length.is (length_uniform c.in-Length.of
    (rw c.deref.ensures at (c.is_uniform_value.ensures on)))

pub returns-in-Count : goal.returns-in-Count
returns-in-Count t c = λ on. rw c.in-Count.is (count_uniform c.in-Count.nodes
    (c.is_uniform_query-in-Count.ensures on))

pub returns-in-Only : goal.returns-in-Only
returns-in-Only t c = λ on. rw c.in-Only.is (only_uniform c.in-Only.nodes
    (c.is_uniform_query-in-Only.ensures on))
