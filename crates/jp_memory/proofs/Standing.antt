-- How far an input is answered, from its beginning to its end.
use Rattle.std.proofs.Common.{◌≡◌, ℕ, ◌+◌, ◌<◌, ◌≤◌, List, [], ◌++◌, length, refl, ap, ap₂, sym, ◌∙◌}
use Rattle.std.proofs.Common.{arith, append-nil, append_assoc, length-append, Result, Ok, Err, IfErr}
use Rattle.std.proofs.Common.{IsErrAnd, ◌⊎◌, inl, inr, not, true, drop, take, take-append-drop}
use Rattle.std.specs.Prelude.{◌==◌}
use Rattle.std.specs.List.{enumerate_from}
use Rattle.std.proofs.lemmas.Bool.Decides.{nat_tests}
use Rattle.std.proofs.lemmas.List.{nil_from_length}
use Rattle.std.proofs.lemmas.List.Sums.{length-filter, count_by-le-length}
use Rattle.std.proofs.lemmas.List.FromFn.{length-enumerate_from}
use Rattle.jp_doc.specs.Feeding.{Progress, finished, finished_lines, last_line, numbered}
use Rattle.jp_doc.specs.Lines.{Line, is_blank}
use Rattle.jp_pattern.specs.Tests.{Tests, AreRight}
use Rattle.jp_output.specs.OutputForm.{OutputForm}
use Rattle.jp_answer.specs.Answer.{Answer, answer_by, joined, nothing}
use Rattle.jp_answer.specs.Asking.{asked_query}
use Rattle.jp_answer.specs.FilteredQuery.{FilteredQuery}
use Rattle.jp_answer.specs.declared.asked.Asked.{Asked}
use Rattle.jp_answer.proofs.OnFaults.{formed_joined, nothing_in}
use Rattle.jp_run.specs.Cutting.{Numbering, cut, documents, documents_in, fed, fed_lines, last_number, parts}
use Rattle.jp_run.specs.Cutting.{progress_in}
use Rattle.jp_run.specs.Limits.{max_lines}
use Rattle.jp_run.specs.declared.cutting.Cutting.{Cutting}
use Rattle.jp_run.specs.declared.fault.RunFault.{RunFault}
use Rattle.jp_run.specs.declared.fault.RunFault.TheVariants.{Limit, Memory}
use Rattle.jp_run.proofs.Coming.{count_whole, documents_both, documents_more, documents_whole, progress_both}
use Rattle.jp_run.proofs.Cuttings.{documents_nothing, fed_nothing, parts_both}
use Rattle.jp_memory.specs.inner.Input.{Input, nothing_come}
use Rattle.jp_memory.specs.inner.Standing.{Stands}

-- no more documents than parts
few_numbered : (n : ℕ) (all : List (List ℕ)) → length (numbered n all) ≤ length all
few_numbered n all =
    let lines : List Line = enumerate_from n all in
    let p = λ (l : Line). not (is_blank l.1) in
    omega (arith, length-filter p lines, count_by-le-length p lines, length-enumerate_from n all)

pub few_fed : (c : Cutting) (p : Progress) (piece : List ℕ)
    → p.count + length (fed_lines c p piece) ≤ (fed c p piece).count
few_fed c p piece =
    omega (arith, few_numbered (p.count + 1) (cut c (p.open_line ++ piece)).ended)

pub few_come : (c : Cutting) (p : Progress) (piece : List ℕ) (faulty : ℕ) (new old : List Line)
    (after : Progress) → faulty ≤ p.count → old ≡ [] → new ≡ old ++ fed_lines c p piece
    → after ≡ fed c p piece → faulty + length new ≤ after.count
few_come c p piece faulty new old after few none lines is = omega (
  arith,
  few,
  few_fed c p piece,
  ap length (lines ∙ ap (λ l. l ++ fed_lines c p piece) none),
  ap (λ (q : Progress). q.count) is,
)

pub few_finished : (p : Progress) → p.count + length (finished_lines p) ≤ (finished p).count
few_finished p = omega (arith, few_numbered (p.count + 1) (last_line p.open_line))

-- of a front that has come, no more parts have ended than the whole has
few_in : (n : Numbering) (front rest : List ℕ) → (progress_in n front).count ≤ last_number n (front ++ rest)
few_in n front rest = omega (
  arith,
  ap length (parts_both n.cutting front rest),
  length-append (cut n.cutting front).ended (parts n.cutting ((cut n.cutting front).open_line ++ rest)),
)

-- what a call tells of its fault, of what it was told
pub fault_so : {T A B : Type 0} (r : Result T RunFault) (fault : RunFault) → IsErrAnd r (λ e. e ≡ fault)
    → (A → B) → (fault ≡ Memory) ⊎ ((fault ≡ Limit) × A)
    → IfErr r (λ f. (f ≡ Memory) ⊎ ((f ≡ Limit) × B))
fault_so (Ok x) fault is so told = absurd is
fault_so (Err f) fault is so (inl memory) = inl (is ∙ memory)
fault_so (Err f) fault is so (inr (limit, over)) = inr (is ∙ limit, so over)

pub fault_more : {T A B : Type 0} (r : Result T RunFault) → (A → B)
    → IfErr r (λ f. (f ≡ Memory) ⊎ ((f ≡ Limit) × A)) → IfErr r (λ f. (f ≡ Memory) ⊎ ((f ≡ Limit) × B))
fault_more (Ok x) so told = tt
fault_more (Err f) so (inl memory) = inl memory
fault_more (Err f) so (inr (limit, over)) = inr (limit, so over)

-- the two parts of a list that was cut are the list
pub together : (n : ℕ) (l a b : List ℕ) → a ≡ take n l → b ≡ drop n l → a ++ b ≡ l
together n l a b front behind = ap₂ (λ (x y : List ℕ). x ++ y) front behind ∙ take-append-drop n l

-- none is left
pub none_of : (l : List ℕ) → true ≡ (length l == 0) → l ≡ []
none_of l e = let none : length l ≡ 0 = grind (arith, nat_tests) in nil_from_length l none

module _ (form : OutputForm) (asked : Asked) (n : Numbering) (input : List ℕ) where
  abbrev by : Tests → List Line → Answer
  by t ls = answer_by form asked.policy t (asked_query asked) ls

  both_by : (t : Tests) (a b : List Line) → by t (a ++ b) ≡ joined (by t a) (by t b)
  both_by t a b = formed_joined form t (asked_query asked) asked.policy a b

  -- what is asked at a turn is what is asked throughout
  pub asked_so : (said : OutputForm) (how : Asked) (r : FilteredQuery) (t : Tests) (ls : List Line)
      → said ≡ form → how ≡ asked → r ≡ asked_query asked → answer_by said how.policy t r ls ≡ by t ls
  asked_so said how r t ls is same asks = ap (λ (f : OutputForm). answer_by f how.policy t r ls) is
      ∙ ap₂ (λ (h : Asked) (s : FilteredQuery). answer_by form h.policy t s ls) same asks

  pub stands_start : (b : Input) (a : Answer) → b ≡ nothing_come n → a ≡ nothing → n.before ≤ max_lines
      → Stands form asked n input input b a
  stands_start b a is none few = record {
    front = [];
    whole = refl;
    cutting = ap (λ (x : Input). x.cutting) is;
    progress = ap (λ (x : Input). x.progress) is ∙ sym (fed_nothing n);
    none = ap (λ (x : Input). x.lines) is;
    few_lines = omega (arith, ap (λ (x : Input). x.progress.count) is, few);
    few_faulty = omega (arith, ap (λ (x : Answer). x.faulty) none);
    answer = λ t right. ap (by t) (documents_nothing n)
        ∙ nothing_in form t (asked_query asked) asked.policy ∙ sym none;
  }

  -- a piece more is answered
  pub stands_more : (rest piece behind : List ℕ) (b c : Input) (a d : Answer)
      → Stands form asked n input rest b a → piece ++ behind ≡ rest → c.cutting ≡ b.cutting
      → c.progress ≡ fed b.cutting b.progress piece → c.lines ≡ [] → c.progress.count ≤ max_lines
      → d.faulty ≤ c.progress.count
      → ((t : Tests) → AreRight t → d ≡ joined a (by t (fed_lines b.cutting b.progress piece)))
      → Stands form asked n input behind c d
  stands_more rest piece behind b c a d s together cutting progress none few_lines few_faulty adds = record {
    front = s.front ++ piece;
    whole = append_assoc s.front piece behind ∙ ap (λ l. s.front ++ l) together ∙ s.whole;
    cutting = cutting ∙ s.cutting;
    progress = progress
        ∙ ap₂ (λ (k : Cutting) (p : Progress). fed k p piece) s.cutting s.progress
        ∙ sym (progress_both n s.front piece);
    none = none;
    few_lines = few_lines;
    few_faulty = few_faulty;
    answer = λ t right. ap (by t) (documents_both n s.front piece)
        ∙ both_by t (documents_in n s.front) (fed_lines n.cutting (progress_in n s.front) piece)
        ∙ ap₂ joined (s.answer t right)
        (ap₂ (λ (k : Cutting) (p : Progress). by t (fed_lines k p piece)) (sym s.cutting) (sym s.progress))
        ∙ sym (adds t right);
  }

  -- an answer that has ended is that to the whole
  pub ended_answer : (rest : List ℕ) (b : Input) (a : Answer) → Stands form asked n input rest b a
      → ((more : Answer) → joined a more ≡ a) → (t : Tests) → AreRight t → by t (documents n input) ≡ a
  ended_answer rest b a s ends t right =
      let more = documents_more n s.front rest in
      ap (λ l. by t (documents n l)) (sym s.whole) ∙ ap (by t) more.1
      ∙ both_by t (documents_in n s.front) more.0 ∙ ap (λ x. joined x (by t more.0)) (s.answer t right)
      ∙ ends (by t more.0)

  -- and so is that with what the end completes
  pub whole_answer : (rest : List ℕ) (b : Input) (a d : Answer) → Stands form asked n input rest b a
      → rest ≡ [] → ((t : Tests) → AreRight t → d ≡ joined a (by t (finished_lines b.progress)))
      → (t : Tests) → AreRight t → by t (documents n input) ≡ d
  whole_answer rest b a d s none adds t right =
      let all : s.front ≡ input = sym (append-nil s.front) ∙ ap (λ l. s.front ++ l) (sym none) ∙ s.whole in
      ap (λ l. by t (documents n l)) (sym all) ∙ ap (by t) (documents_whole n s.front)
      ∙ both_by t (documents_in n s.front) (finished_lines (progress_in n s.front))
      ∙ ap₂ joined (s.answer t right)
      (ap (λ (p : Progress). by t (finished_lines p)) (sym s.progress))
      ∙ sym (adds t right)

  -- too many lines are so in the whole
  pub over_in : (rest piece behind : List ℕ) (b : Input) (a : Answer) → Stands form asked n input rest b a
      → piece ++ behind ≡ rest → max_lines < (fed b.cutting b.progress piece).count
      → max_lines < last_number n input
  over_in rest piece behind b a s together over =
      let whole : (s.front ++ piece) ++ behind ≡ input =
      append_assoc s.front piece behind ∙ ap (λ l. s.front ++ l) together ∙ s.whole in
      let same : fed b.cutting b.progress piece ≡ progress_in n (s.front ++ piece) =
      ap₂ (λ (k : Cutting) (p : Progress). fed k p piece) s.cutting s.progress
      ∙ sym (progress_both n s.front piece) in
      omega (
        arith,
        over,
        ap (λ (p : Progress). p.count) same,
        few_in n (s.front ++ piece) behind,
        ap (last_number n) whole,
      )

  pub over_last : (rest : List ℕ) (b : Input) (a : Answer) → Stands form asked n input rest b a → rest ≡ []
      → max_lines < (finished b.progress).count → max_lines < last_number n input
  over_last rest b a s none over =
      let all : s.front ≡ input = sym (append-nil s.front) ∙ ap (λ l. s.front ++ l) (sym none) ∙ s.whole in
      omega (
        arith,
        over,
        ap (λ (p : Progress). (finished p).count) s.progress,
        count_whole n s.front,
        ap (last_number n) all,
      )
