-- The answer with decimals where no line is faulty without.
use Rattle.std.proofs.Common.{◌≡◌, ℕ, List, [], ◌∷◌, Option, None, Result, Ok, Err, refl, sym, ap, ◌∙◌}
use Rattle.jp_number.specs.declared.numbers.Numbers.TheVariants.{Whole, Decimals}
use Rattle.jp_doc.specs.Json.{Json}
use Rattle.jp_doc.specs.Lines.{Line}
use Rattle.jp_doc.specs.Reading.{reading}
use Rattle.jp_doc.specs.ReadingIn.{reading_in}
use Rattle.jp_doc.specs.declared.fault.DocFault.{DocFault}
use Rattle.jp_doc.proofs.ReadingInLaws.{same_reading}
use Rattle.jp_pattern.specs.Tests.{Tests}
use Rattle.jp_output.specs.OutputForm.{OutputForm}
use Rattle.jp_answer.specs.Answer.{joined}
use Rattle.jp_answer.specs.Faults.{fault_in, fault_or, faulty_lines, first_fault}
use Rattle.jp_answer.specs.FilteredQuery.{FilteredQuery}
use Rattle.jp_answer.specs.declared.on_fault.OnFault.{OnFault}
use Rattle.jp_answer.specs.declared.on_fault.OnFault.TheVariants.{Stop, KeepGoing}
use Rattle.jp_answer.proofs.Joining.{answer_on, cons_on, line_answer, none_before, none_on}
use Rattle.jp_answer.proofs.OnFaults.{passed_document, passed_on}

rest_none : (number : ℕ) (r : Result Json DocFault) (o : Option (ℕ × DocFault)) → fault_or number r o ≡ None
    → o ≡ None
rest_none number (Ok root) o h = h
rest_none number (Err fault) o h = absurd (cc)

read_here : (number : ℕ) (r : Result Json DocFault) (o : Option (ℕ × DocFault)) → fault_or number r o ≡ None
    → (root : Json) × (r ≡ Ok root)
read_here number (Ok root) o h = (root, refl)
read_here number (Err f) o h = absurd (cc)

-- the line is read the same
same_line : (l : Line) (o : Option (ℕ × DocFault)) → fault_or l.0 (reading l.1) o ≡ None
    → reading_in Decimals l.1 ≡ reading l.1
same_line l o h =
    let (root, is) = read_here l.0 (reading l.1) o h in
    same_reading Decimals l.1 root is ∙ sym is

later : (l : Line) (ls : List Line) → first_fault Whole (l ∷ ls) ≡ None
    → first_fault Whole ls ≡ None
later l ls h = rest_none l.0 (reading l.1) (first_fault Whole ls) h

module _ (form : OutputForm) (t : Tests) (q : FilteredQuery) (k : OnFault) where
  pub same_answer : (ls : List Line) → first_fault Whole ls ≡ None
      → answer_on Decimals form t q k ls ≡ answer_on Whole form t q k ls
  same_answer [] h = none_on Decimals form t q k ∙ sym (none_on Whole form t q k)
  same_answer (l ∷ ls) h =
      cons_on Decimals form t q k l ls
      ∙ ap (λ r. joined (line_answer form t q k l r) (answer_on Decimals form t q k ls))
      (same_line l (first_fault Whole ls) h)
      ∙ ap (joined (line_answer form t q k l (reading l.1))) (same_answer ls (later l ls h))
      ∙ sym (cons_on Whole form t q k l ls)

pub no_fault : (ls : List Line) → first_fault Whole ls ≡ None → first_fault Decimals ls ≡ None
no_fault [] h = refl
no_fault (l ∷ ls) h =
    let none = later l ls h in
    ap (λ r. fault_or l.0 r (first_fault Decimals ls)) (same_line l (first_fault Whole ls) h)
    ∙ ap (fault_or l.0 (reading l.1)) (no_fault ls none ∙ sym none) ∙ h

none_faulty : (ls : List Line) → first_fault Whole ls ≡ None → faulty_lines Decimals ls ≡ 0
none_faulty [] h = refl
none_faulty (l ∷ ls) h =
    let (root, is) = read_here l.0 (reading l.1) (first_fault Whole ls) h in
    passed_document Decimals KeepGoing l ls (ap fault_in (same_reading Decimals l.1 root is))
    ∙ none_faulty ls (later l ls h)

pub none_passed : (k : OnFault) (ls : List Line) → first_fault Whole ls ≡ None
    → passed_on Decimals k ls ≡ 0
none_passed Stop ls h = none_before Decimals ls
none_passed KeepGoing ls h = none_faulty ls h
