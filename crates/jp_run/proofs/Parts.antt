-- The answer to an input that is cut in two where nothing is open.
use Rattle.std.proofs.Common.{◌≡◌, ℕ, ◌+◌, List, [], ◌++◌, Some, None, ◌∙◌, ap, sym}
use Rattle.jp_doc.specs.declared.fault.DocFault.{DocFault}
use Rattle.jp_pattern.specs.Tests.{Tests}
use Rattle.jp_answer.specs.Answer.{Answer, answer_by, joined, unless_stopped}
use Rattle.jp_answer.specs.FilteredQuery.{FilteredQuery}
use Rattle.jp_answer.proofs.OnFaults.{formed_joined}
use Rattle.jp_run.specs.Answered.{IsAnswerBy}
use Rattle.jp_run.specs.AskedTexts.{AskedTexts}
use Rattle.jp_run.specs.Cutting.{cut, documents}
use Rattle.jp_run.specs.Manner.{Manner, manner_behind}
use Rattle.jp_run.proofs.Accepted.{one_asked}
use Rattle.jp_run.proofs.Cuttings.{documents_behind}

module _ (going : Manner) (asked : AskedTexts) (xs ys : List ℕ)
    (ended : (cut going.numbering.cutting xs).open_line ≡ []) where
  -- the answer to both is those to each, joined
  both_joined : (t : Tests) (q : FilteredQuery)
      → answer_by going.form going.policy t q (documents going.numbering (xs ++ ys))
      ≡ joined (answer_by going.form going.policy t q (documents going.numbering xs))
      (answer_by going.form going.policy t q (documents (manner_behind going xs).numbering ys))
  both_joined t q = ap (answer_by going.form going.policy t q) (documents_behind going.numbering xs ys ended)
      ∙ formed_joined going.form t q going.policy (documents going.numbering xs)
      (documents (manner_behind going xs).numbering ys)

  pub parts_go_on : (a b : Answer) → a.stopped ≡ None → IsAnswerBy going asked xs a
      → IsAnswerBy (manner_behind going xs) asked ys b → IsAnswerBy going asked (xs ++ ys) (record {
        bytes = a.bytes ++ b.bytes;
        stopped = b.stopped;
        faulty = a.faulty + b.faulty;
      })
  parts_go_on a b none h k =
      let same : k.0 ≡ h.0 = one_asked going.policy.numbers asked k.0 h.0 k.1 h.1 in (
        h.0,
        h.1,
        λ t right. both_joined t h.0
            ∙ ap (λ x. joined x (answer_by going.form going.policy t h.0
            (documents (manner_behind going xs).numbering ys))) (h.2 t right)
            ∙ ap (joined a) (ap (λ q. answer_by going.form going.policy t q
            (documents (manner_behind going xs).numbering ys)) (sym same) ∙ k.2 t right)
            ∙ ap (λ s. unless_stopped s a b) none,
      )

  pub parts_stop : (a : Answer) (s : ℕ × DocFault) → a.stopped ≡ Some s → IsAnswerBy going asked xs a
      → IsAnswerBy going asked (xs ++ ys) a
  parts_stop a s stop h = (
    h.0,
    h.1,
    λ t right. both_joined t h.0
        ∙ ap (λ x. joined x (answer_by going.form going.policy t h.0
        (documents (manner_behind going xs).numbering ys))) (h.2 t right)
        ∙ ap (λ s. unless_stopped s a (answer_by going.form going.policy t h.0
        (documents (manner_behind going xs).numbering ys))) stop,
  )
