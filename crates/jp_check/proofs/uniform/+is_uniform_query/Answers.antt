use Rattle.jp_check.proofs.Uniformity.{root_uniform, distinct_uniform}
use Rattle.jp_check.proofs.uniform.+is_uniform_query.Goals as goal

pub returns-in-Root : goal.returns-in-Root
returns-in-Root t c = λ on. rw c.in-Root.is (root_uniform c.in-Root.field-0)

pub returns-in-Distinct : goal.returns-in-Distinct
returns-in-Distinct t c = λ on. rw c.in-Distinct.is (distinct_uniform c.in-Distinct.nodes
    (rw c.deref.ensures at (c.is_uniform_query.ensures on)))
