-- The nodes that are selected in a document which a filter may leave out, and the answer to the lines that it
-- chooses.
use Rattle.std.proofs.Common.{◌≡◌, ◌∙◌, Bool, true, false, cond, List, [], ◌∷◌, Result, Ok, Err, refl, sym}
use Rattle.std.proofs.Common.{ap}
use Rattle.jp_number.specs.declared.numbers.Numbers.{Numbers}
use Rattle.jp_doc.specs.Json.{Json}
use Rattle.jp_doc.specs.Lines.{Line}
use Rattle.jp_doc.specs.NumbersWithin.{IsJsonNumber, HasJsonNumbers}
use Rattle.jp_doc.specs.ReadingIn.{reading_in}
use Rattle.jp_doc.specs.declared.fault.DocFault.{DocFault}
use Rattle.jp_pattern.specs.Tests.{Tests}
use Rattle.jp_eval.specs.Nodelist.{document_nodes}
use Rattle.jp_eval.proofs.NumbersKept.{numbers_kept}
use Rattle.jp_output.specs.Fields.{NodesHaveJsonNumbers}
use Rattle.jp_output.specs.OutputForm.{OutputForm}
use Rattle.jp_answer.specs.Answer.{Answer, answer_by, joined}
use Rattle.jp_answer.specs.FilteredQuery.{FilteredQuery, unfiltered, is_chosen, selected_nodes, chosen_lines}
use Rattle.jp_answer.specs.FilteredQuery.{is_chosen_line}
use Rattle.jp_answer.specs.declared.on_fault.OnFault.{OnFault}
use Rattle.jp_answer.specs.declared.on_fault.OnFault.TheVariants.{Stop, KeepGoing}
use Rattle.jp_answer.specs.declared.policy.LinePolicy.{LinePolicy}
use Rattle.jp_answer.proofs.Joining.{answer_on, cons_on, line_answer, none_on, nothing_first, so_far}

-- their numbers are those of the document
pub selected_numbers : (t : Tests) (q : FilteredQuery) (root : Json) → HasJsonNumbers root
    → NodesHaveJsonNumbers (selected_nodes t root q)
selected_numbers t q root h =
    elim (is_chosen t root q.filter) as
    (λ b. NodesHaveJsonNumbers (cond b (document_nodes t q.query root) [])) [
      | true ↦ numbers_kept IsJsonNumber t q.query root h
      | false ↦ tt
    ]

-- In a form that says nothing of a document without nodes:
module _ (form : OutputForm) (silent : (l : Line) → form.of_document l [] ≡ []) (t : Tests)
    (q : FilteredQuery) (n : Numbers)
  where
    abbrev chosen : List Line → List Line
    chosen ls = chosen_lines n t q.filter ls

    abbrev every : FilteredQuery
    every = unfiltered q.query

    document_step : (l : Line) (root : Json) (a : Answer)
        → joined (so_far (form.of_document l (selected_nodes t root q)) 0) a
        ≡ cond (is_chosen t root q.filter)
        (joined (so_far (form.of_document l (document_nodes t q.query root)) 0) a) a
    document_step l root a =
        let ns = document_nodes t q.query root in
        elim (is_chosen t root q.filter) as (λ b. joined (so_far (form.of_document l (cond b ns [])) 0) a
        ≡ cond b (joined (so_far (form.of_document l ns) 0) a) a) [
          | true ↦ refl
          | false ↦ ap (λ bs. joined (so_far bs 0) a) (silent l) ∙ nothing_first a
        ]

    line_step : (k : OnFault) (l : Line) (r : Result Json DocFault) (a : Answer)
        → joined (line_answer form t q k l r) a
        ≡ cond (is_chosen_line n t q.filter r) (joined (line_answer form t every k l r) a) a
    line_step Stop l (Ok root) a = document_step l root a
    line_step KeepGoing l (Ok root) a = document_step l root a
    line_step Stop l (Err fault) a = refl
    line_step KeepGoing l (Err fault) a = refl

    one_step : (k : OnFault) (b : Bool) (l : Line) (ls : List Line)
        → answer_on n form t every k (cond b (l ∷ ls) ls)
        ≡ cond b (joined (line_answer form t every k l (reading_in n l.1)) (answer_on n form t every k ls))
        (answer_on n form t every k ls)
    one_step k true l ls = cons_on n form t every k l ls
    one_step k false l ls = refl

    pub chosen_on : (k : OnFault) (ls : List Line)
        → answer_on n form t q k ls ≡ answer_on n form t every k (chosen ls)
    chosen_on k [] = none_on n form t q k ∙ sym (none_on n form t every k)
    chosen_on k (l ∷ ls) =
        let r = reading_in n l.1 in
        cons_on n form t q k l ls
        ∙ ap (joined (line_answer form t q k l r)) (chosen_on k ls)
        ∙ line_step k l r (answer_on n form t every k (chosen ls))
        ∙ sym (one_step k (is_chosen_line n t q.filter r) l (chosen ls))

-- it is the answer to these lines of the query alone
pub chosen_answer : (form : OutputForm) → ((l : Line) → form.of_document l [] ≡ []) → (t : Tests)
    (q : FilteredQuery) (p : LinePolicy) (ls : List Line) → answer_by form p t q ls
    ≡ answer_by form p t (unfiltered q.query) (chosen_lines p.numbers t q.filter ls)
chosen_answer form silent t q p ls = chosen_on form silent t q p.numbers p.on_fault ls
