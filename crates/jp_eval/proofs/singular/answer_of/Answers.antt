use Rattle.std.proofs.Common.{sym}
use Rattle.jp_found.proofs.Identity.{are_identical}
use Rattle.jp_eval.proofs.singular.answer_of.Goals as goal

pub returns : goal.returns
returns c = λ base at. rw c.in-First.is (are_identical _ _ (sym (c.in_ok-followed.ensures base at)))
