-- How many bytes an answer has.
use Rattle.std.proofs.Common.{◌≡◌, ℕ, ◌+◌, List, [], ◌++◌, length, length-append, Option, None, sym, ◌∙◌}
use Rattle.std.proofs.Common.{ap, arith}
use Rattle.jp_doc.specs.Lines.{Line}
use Rattle.jp_answer.specs.FilteredQuery.{FilteredQuery}
use Rattle.jp_pattern.specs.Tests.{Tests, AreRight}
use Rattle.jp_answer.specs.Answer.{Answer, answer_by, unless_stopped}
use Rattle.jp_answer.proofs.OnFaults.{formed_joined, nothing_in}
use Rattle.jp_run.specs.Counts.{counted}
use Rattle.jp_run.specs.Manner.{Manner}
use Rattle.jp_run.specs.Handed.{Handed}
use Rattle.jp_run.specs.inner.Wrote.{HasBytes, HasBytesMore}

-- counted twice
pub counted_both : (n a b : ℕ) → counted (counted n a) b ≡ counted n (a + b)
counted_both n a b = omega (arith)

-- what was counted from 0
counted_on : (n a : ℕ) → counted n (counted 0 a) ≡ counted n a
counted_on n a = omega (arith)

module _ (going : Manner) (q : FilteredQuery) where
  pub wrote_none : HasBytes going q [] 0
  wrote_none = λ t right. sym (ap (λ (a : Answer). counted 0 (length a.bytes))
      (nothing_in going.form t q going.policy))

  -- an answer that is known
  pub wrote_whole : (ls : List Line) (whole : Answer) (wrote : ℕ)
      → ((t : Tests) → AreRight t → answer_by going.form going.policy t q ls ≡ whole)
      → wrote ≡ counted 0 (length whole.bytes) → HasBytes going q ls wrote
  wrote_whole ls whole wrote is e = λ t right.
      e ∙ sym (ap (λ (a : Answer). counted 0 (length a.bytes)) (is t right))

  pub wrote_on : (ls : List Line) (before wrote after : ℕ) → after ≡ counted before wrote
      → HasBytes going q ls wrote → HasBytesMore going q ls before after
  wrote_on ls before wrote after e h = λ t right. e ∙ ap (counted before) (h t right)
      ∙ counted_on before (length (answer_by going.form going.policy t q ls).bytes)

  -- an answer that goes on
  pub wrote_more : (xs ys : List Line) (a b : Option (List ℕ)) (before after : ℕ)
      → Handed going q xs None a b → HasBytes going q xs before → HasBytesMore going q ys before after
      → HasBytes going q (xs ++ ys) after
  wrote_more xs ys a b before after f h k = λ t right.
      let first : Answer = answer_by going.form going.policy t q xs in
      let later : Answer = answer_by going.form going.policy t q ys in
      let whole : Answer = answer_by going.form going.policy t q (xs ++ ys) in
      let stopped : first.stopped ≡ None = ap (λ (r : Answer). r.stopped) (f.is t right) ∙ f.stopped in
      let both : whole.bytes ≡ first.bytes ++ later.bytes =
      ap (λ (r : Answer). r.bytes) (formed_joined going.form t q going.policy xs ys
      ∙ ap (λ s. unless_stopped s first later) stopped) in
      k t right ∙ ap (λ n. counted n (length later.bytes)) (h t right)
      ∙ counted_both 0 (length first.bytes) (length later.bytes)
      ∙ ap (counted 0) (sym (ap length both ∙ length-append first.bytes later.bytes))
