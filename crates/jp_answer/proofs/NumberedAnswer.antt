-- The answer in the form of input lines, by the numbers of the answer in output lines.
use Rattle.std.proofs.Common.{◌≡◌, ℕ, ◌+◌, ◌<◌, ◌≤◌, ◌^◌, Bool, true, false, not, cond, List, [], ◌∷◌, ◌++◌}
use Rattle.std.proofs.Common.{length, map, Result, Ok, Err, refl, sym, ap, ap₂, ◌∙◌, subst, arith}
use Rattle.std.specs.List.{AllByRecursion, filter, enumerate_from}
use Rattle.jp_number.specs.declared.numbers.Numbers.{Numbers}
use Rattle.jp_doc.specs.Json.{Json}
use Rattle.jp_doc.specs.Lines.{Line, lines, all_lines, is_blank, line_count}
use Rattle.jp_doc.specs.Location.{Node}
use Rattle.jp_doc.specs.NumbersWithin.{HasJsonNumbers}
use Rattle.jp_doc.specs.ReadingIn.{reading_in}
use Rattle.jp_doc.proofs.ReadingInLaws.{read_numbers}
use Rattle.jp_doc.specs.declared.fault.DocFault.{DocFault}
use Rattle.jp_pattern.specs.Tests.{Tests}
use Rattle.jp_output.specs.Fields.{NodesHaveJsonNumbers}
use Rattle.jp_output.specs.NumberedLines.{AreNumberedAbove, of_documents, lines_of_documents, first_fields}
use Rattle.jp_output.specs.NumberedLines.{lines_numbered}
use Rattle.jp_output.specs.OutputForm.{OutputForm, node_lines, input_lines}
use Rattle.jp_output.proofs.NumberedLines.{lines_are}
use Rattle.jp_answer.specs.Answer.{Answer, joined}
use Rattle.jp_answer.specs.FilteredQuery.{FilteredQuery, selected_nodes}
use Rattle.jp_answer.specs.declared.on_fault.OnFault.TheVariants.{Stop}
use Rattle.jp_answer.proofs.Chosen.{selected_numbers}
use Rattle.jp_answer.proofs.Joining.{answer_on, cons_on, line_answer, none_on}

-- lines without nodes
abbrev unread : List Line → List (Line × List Node)
unread ls = map (λ l. (l, [])) ls

unread_lines : (ls : List Line) → lines_of_documents (unread ls) ≡ ls
unread_lines [] = refl
unread_lines (l ∷ ls) = ap (λ ks. l ∷ ks) (unread_lines ls)

unread_numbers : (ls : List Line) → AllByRecursion (λ d. NodesHaveJsonNumbers d.1) (unread ls)
unread_numbers [] = tt
unread_numbers (l ∷ ls) = (tt, unread_numbers ls)

module _ (n : Numbers) (t : Tests) (q : FilteredQuery) where
  -- each line with its selected nodes, and from the first faulty one on with none
  abbrev on_line : Line → Result Json DocFault → List Line → List (Line × List Node) → List (Line × List Node)
  on_line l (Ok root) ls ds = (l, selected_nodes t root q) ∷ ds
  on_line l (Err fault) ls ds = unread (l ∷ ls)

  abbrev documents : List Line → List (Line × List Node)
  documents [] = []
  documents (l ∷ ls) = on_line l (reading_in n l.1) ls (documents ls)

  line_of_one : (l : Line) (r : Result Json DocFault) (ls : List Line) (ds : List (Line × List Node))
      → lines_of_documents ds ≡ ls → lines_of_documents (on_line l r ls ds) ≡ l ∷ ls
  line_of_one l (Ok root) ls ds h = ap (λ ks. l ∷ ks) h
  line_of_one l (Err fault) ls ds h = unread_lines (l ∷ ls)

  their_lines : (ls : List Line) → lines_of_documents (documents ls) ≡ ls
  their_lines [] = refl
  their_lines (l ∷ ls) = line_of_one l (reading_in n l.1) ls (documents ls) (their_lines ls)

  numbers_of_one : (l : Line) (r : Result Json DocFault)
      → ((root : Json) → r ≡ Ok root → HasJsonNumbers root) → (ls : List Line)
      → (ds : List (Line × List Node)) → AllByRecursion (λ d. NodesHaveJsonNumbers d.1) ds
      → AllByRecursion (λ d. NodesHaveJsonNumbers d.1) (on_line l r ls ds)
  numbers_of_one l (Ok root) h ls ds rest = (selected_numbers t q root (h root refl), rest)
  numbers_of_one l (Err fault) h ls ds rest = unread_numbers (l ∷ ls)

  their_numbers : (ls : List Line) → AllByRecursion (λ d. NodesHaveJsonNumbers d.1) (documents ls)
  their_numbers [] = tt
  their_numbers (l ∷ ls) =
      numbers_of_one l (reading_in n l.1) (read_numbers n l.1) ls (documents ls) (their_numbers ls)

  module _ (form : OutputForm) (nothing : (l : Line) → form.of_document l [] ≡ []) where
    unsaid : (ls : List Line) → of_documents form (unread ls) ≡ []
    unsaid [] = refl
    unsaid (l ∷ ls) = ap₂ (λ a b. a ++ b) (nothing l) (unsaid ls)

    said_of_one : (l : Line) (r : Result Json DocFault) (ls : List Line) (ds : List (Line × List Node))
        (a : Answer) → of_documents form ds ≡ a.bytes
        → of_documents form (on_line l r ls ds) ≡ (joined (line_answer form t q Stop l r) a).bytes
    said_of_one l (Ok root) ls ds a h = ap (λ b. form.of_document l (selected_nodes t root q) ++ b) h
    said_of_one l (Err fault) ls ds a h = unsaid (l ∷ ls)

    said : (ls : List Line) → of_documents form (documents ls) ≡ (answer_on n form t q Stop ls).bytes
    said [] = sym (ap (λ (a : Answer). a.bytes) (none_on n form t q Stop))
    said (l ∷ ls) =
        said_of_one l (reading_in n l.1) ls (documents ls) (answer_on n form t q Stop ls) (said ls)
        ∙ sym (ap (λ (a : Answer). a.bytes) (cons_on n form t q Stop l ls))

  pub numbered_answer : (ls : List Line) → AreNumberedAbove 0 ls
      → (answer_on n input_lines t q Stop ls).bytes
      ≡ lines_numbered (first_fields (answer_on n node_lines t q Stop ls).bytes) ls
  numbered_answer ls h =
      sym (said input_lines (λ l. refl) ls)
      ∙ lines_are 0 (documents ls) (subst (AreNumberedAbove 0) (sym (their_lines ls)) h) (their_numbers ls)
      ∙ ap₂ (λ bytes ks. lines_numbered (first_fields bytes) ks) (said node_lines (λ l. refl) ls)
      (their_lines ls)

-- ---- the lines of a stream

rising : (p : Line → Bool) (lines : List (List ℕ)) (low first : ℕ) → low < first
    → first + length lines ≤ 2 ^ 64 → AreNumberedAbove low (filter p (enumerate_from first lines))
rising p [] low first h within = tt
rising p (line ∷ lines) low first h within =
    let rest = filter p (enumerate_from (first + 1) lines) in
    elim (p (first, line)) as (λ b. AreNumberedAbove low (cond b ((first, line) ∷ rest) rest)) [
      | true ↦
          (h, omega (arith, within), rising p lines first (first + 1) (omega arith) (omega (arith, within)))
      | false ↦ rising p lines low (first + 1) (omega (arith, h)) (omega (arith, within))
    ]

pub numbered_lines : (bytes : List ℕ) → line_count bytes < 2 ^ 64 → AreNumberedAbove 0 (lines bytes)
numbered_lines bytes few =
    rising (λ l. not (is_blank l.1)) (all_lines bytes) 0 1 (omega arith) (omega (arith, few))
