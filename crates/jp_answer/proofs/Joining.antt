-- Answers one after another, and the answer to one line more.
use Rattle.std.proofs.Common.{◌≡◌, ℕ, ◌+◌, Bool, true, false, not, cond, List, [], ◌∷◌, ◌++◌, length}
use Rattle.std.proofs.Common.{Option, Some, None, Result, Ok, Err, refl, ap, ap₂, sym, ◌∙◌, append_assoc}
use Rattle.std.proofs.Common.{arith}
use Rattle.std.specs.Prelude.{is_err}
use Rattle.std.specs.List.{filter, flat_map}
use Rattle.std.proofs.lemmas.List.Sums.{take_while-cons}
use Rattle.jp_number.specs.declared.numbers.Numbers.{Numbers}
use Rattle.jp_doc.specs.Json.{Json}
use Rattle.jp_doc.specs.Lines.{Line}
use Rattle.jp_doc.specs.ReadingIn.{reading_in}
use Rattle.jp_doc.specs.declared.fault.DocFault.{DocFault}
use Rattle.jp_pattern.specs.Tests.{Tests}
use Rattle.jp_output.specs.OutputForm.{OutputForm}
use Rattle.jp_answer.specs.Answer.{Answer, answer_by, document_bytes, line_bytes, nothing, joined}
use Rattle.jp_answer.specs.Answer.{unless_stopped}
use Rattle.jp_answer.specs.Faults.{fault_or, first_fault, is_faulty, faulty_lines}
use Rattle.jp_answer.specs.FilteredQuery.{FilteredQuery}
use Rattle.jp_answer.specs.Policy.{policy, answered_on}
use Rattle.jp_answer.specs.declared.on_fault.OnFault.{OnFault}
use Rattle.jp_answer.specs.declared.on_fault.OnFault.TheVariants.{Stop, KeepGoing}

-- so much was said and passed, and nothing has ended it
abbrev pub so_far : List ℕ → ℕ → Answer
so_far bytes n = record { bytes = bytes; stopped = None; faulty = n }

pub nothing_first : (a : Answer) → joined nothing a ≡ a
nothing_first a = ap (λ n. record { bytes = a.bytes; stopped = a.stopped; faulty = n })
    {x = 0 + a.faulty} {y = a.faulty} (omega arith)

rest_assoc : (stop : Option (ℕ × DocFault)) (a b c : Answer)
    → unless_stopped stop (unless_stopped None a b) c ≡ unless_stopped None a (unless_stopped stop b c)
rest_assoc None a b c =
    let counts : a.faulty + b.faulty + c.faulty ≡ a.faulty + (b.faulty + c.faulty) = omega arith in
    ap₂ (λ bytes n. record { bytes = bytes; stopped = c.stopped; faulty = n })
    (append_assoc a.bytes b.bytes c.bytes) counts
rest_assoc (Some stop) a b c = refl

assoc_by : (stop : Option (ℕ × DocFault)) (a b c : Answer) → a.stopped ≡ stop
    → joined (unless_stopped stop a b) c ≡ unless_stopped stop a (joined b c)
assoc_by None a b c e = rest_assoc b.stopped a b c
assoc_by (Some s) a b c e = ap (λ (t : Option (ℕ × DocFault)). unless_stopped t a c) e

pub joined_assoc : (a b c : Answer) → joined (joined a b) c ≡ joined a (joined b c)
joined_assoc a b c = assoc_by a.stopped a b c refl

-- lines up to where a test fails, the first of them apart
cut_bytes : (b : Bool) (f : Line → List ℕ) (l : Line) (ls : List Line)
    → flat_map f (cond b (l ∷ ls) []) ≡ cond b (f l ++ flat_map f ls) []
cut_bytes true f l ls = refl
cut_bytes false f l ls = refl

cut_count : (b : Bool) (test : Line → Bool) (l : Line) (ls : List Line)
    → length (filter test (cond b (l ∷ ls) []))
    ≡ cond b (length (cond (test l) (l ∷ filter test ls) (filter test ls))) 0
cut_count true test l ls = refl
cut_count false test l ls = refl

-- the answer to one line
module _ (form : OutputForm) (t : Tests) (q : FilteredQuery) where
  abbrev pub line_answer : OnFault → Line → Result Json DocFault → Answer
  line_answer k l (Ok root) = so_far (document_bytes form t q l root) 0
  line_answer Stop l (Err fault) = record { bytes = []; stopped = Some (l.0, fault); faulty = 0 }
  line_answer KeepGoing l (Err fault) = so_far (form.of_fault l.0 fault) 1

-- where documents may have these numbers:
module _ (n : Numbers) where
  is_read : Line → Bool
  is_read l = not (is_faulty n l)

  none_by : (b : Bool) (m k : ℕ) → m ≡ 0 → cond (not b) (cond b k m) 0 ≡ 0
  none_by true m k h = refl
  none_by false m k h = h

  count_by : (b : Bool) (l : Line) (ls : List Line)
      → length (cond b (l ∷ ls) ls) ≡ cond b (length ls + 1) (length ls)
  count_by true l ls = omega arith
  count_by false l ls = refl

  -- no faulty line is among those before the first
  pub none_before : (ls : List Line) → faulty_lines n (answered_on n Stop ls) ≡ 0
  none_before [] = refl
  none_before (l ∷ ls) =
      let later = answered_on n Stop ls in
      ap (faulty_lines n) (take_while-cons (λ x. not (is_faulty n x)) l ls)
      ∙ cut_count (not (is_faulty n l)) (is_faulty n) l later
      ∙ ap (λ m. cond (not (is_faulty n l)) m 0) (count_by (is_faulty n l) l (filter (is_faulty n) later))
      ∙ none_by (is_faulty n l) (faulty_lines n later) (faulty_lines n later + 1) (none_before ls)

  module _ (form : OutputForm) (t : Tests) (q : FilteredQuery) where
    abbrev pub answer_on : OnFault → List Line → Answer
    answer_on k ls = answer_by form (policy n k) t q ls

    going_step : (l : Line) (r : Result Json DocFault) (bytes : List ℕ) (faulty : List Line)
        → so_far (line_bytes form t q l r ++ bytes) (length (cond (is_err r) (l ∷ faulty) faulty))
        ≡ joined (line_answer form t q KeepGoing l r) (so_far bytes (length faulty))
    going_step l (Ok root) bytes faulty = ap (so_far (document_bytes form t q l root ++ bytes))
        {x = length faulty} {y = 0 + length faulty} (omega arith)
    going_step l (Err fault) bytes faulty = ap (so_far (form.of_fault l.0 fault ++ bytes))
        {x = length (l ∷ faulty)} {y = 1 + length faulty} (omega arith)

    stopping_step : (l : Line) (r : Result Json DocFault) (bytes : List ℕ) (stop : Option (ℕ × DocFault))
        (faulty : List Line) → ◌≡◌ {A = Answer} (record {
          bytes = cond (not (is_err r)) (line_bytes form t q l r ++ bytes) [];
          stopped = fault_or l.0 r stop;
          faulty = cond (not (is_err r)) (length (cond (is_err r) (l ∷ faulty) faulty)) 0;
        }) (joined (line_answer form t q Stop l r)
        (record { bytes = bytes; stopped = stop; faulty = length faulty }))
    stopping_step l (Ok root) bytes stop faulty =
        ap (λ m. record { bytes = document_bytes form t q l root ++ bytes; stopped = stop; faulty = m })
        {x = length faulty} {y = 0 + length faulty} (omega arith)
    stopping_step l (Err fault) bytes stop faulty = refl

    -- one line more, in front
    pub cons_on : (k : OnFault) (l : Line) (ls : List Line)
        → answer_on k (l ∷ ls) ≡ joined (line_answer form t q k l (reading_in n l.1)) (answer_on k ls)
    cons_on KeepGoing l ls =
        going_step l (reading_in n l.1) (answer_on KeepGoing ls).bytes (filter (is_faulty n) ls)
    cons_on Stop l ls =
        let says : Line → List ℕ = λ x. line_bytes form t q x (reading_in n x.1) in
        let later : List Line = answered_on n Stop ls in
        let stop : Option (ℕ × DocFault) = first_fault n (l ∷ ls) in
        ap (λ xs. record { bytes = flat_map says xs; stopped = stop; faulty = faulty_lines n xs })
        (take_while-cons (λ x. not (is_faulty n x)) l ls)
        ∙ ap₂ (λ bytes m. record { bytes = bytes; stopped = stop; faulty = m })
        (cut_bytes (not (is_faulty n l)) says l later)
        (cut_count (not (is_faulty n l)) (is_faulty n) l later)
        ∙ stopping_step l (reading_in n l.1) (flat_map says later) (first_fault n ls)
        (filter (is_faulty n) later)

    pub none_on : (k : OnFault) → answer_on k [] ≡ nothing
    none_on Stop = refl
    none_on KeepGoing = refl

    -- the answer in two pieces
    pub pieces_joined : (k : OnFault) (a b : List Line)
        → answer_on k (a ++ b) ≡ joined (answer_on k a) (answer_on k b)
    pieces_joined k [] b = sym (ap (λ x. joined x (answer_on k b)) (none_on k)
        ∙ nothing_first (answer_on k b))
    pieces_joined k (l ∷ ls) b =
        let first : Answer = line_answer form t q k l (reading_in n l.1) in
        cons_on k l (ls ++ b)
        ∙ ap (joined first) (pieces_joined k ls b)
        ∙ sym (joined_assoc first (answer_on k ls) (answer_on k b))
        ∙ ap (λ x. joined x (answer_on k b)) (sym (cons_on k l ls))
