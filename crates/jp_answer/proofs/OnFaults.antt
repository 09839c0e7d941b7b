-- The answer, whatever is done where a line is faulty: of lines that come in two parts, and of one line more.
use Rattle.std.proofs.Common.{◌≡◌, ℕ, zero, suc, ◌+◌, ◌≤◌, List, [], ◌∷◌, ◌++◌}
use Rattle.std.proofs.Common.{length, Option, Some, None, Result, Ok, Err, refl, ap, sym, ◌∙◌, arith}
use Rattle.std.proofs.Common.{length-append, append-nil, ap₂}
use Rattle.std.proofs.Common.{cond, ◌<◌, ◌⊎◌, inl, inr, add-one, drop, get_or, map}
use Rattle.std.proofs.Math.Seq.{drop-cons}
use Rattle.std.specs.Prelude.{is_err}
use Rattle.std.specs.List.{filter}
use Rattle.std.proofs.lemmas.List.{length-map}
use Rattle.std.proofs.lemmas.List.Elements.{filter-append}
use Rattle.std.proofs.lemmas.List.Sums.{length-filter, count_by-le-length}
use Rattle.jp_number.specs.declared.numbers.Numbers.{Numbers}
use Rattle.jp_doc.specs.Json.{Json}
use Rattle.jp_buffer.specs.Buffered.{line_at}
use Rattle.jp_doc.specs.Lines.{Line}
use Rattle.jp_doc.specs.ReadingIn.{reading_in}
use Rattle.jp_doc.specs.declared.fault.DocFault.{DocFault}
use Rattle.jp_buffer.specs.declared.line_ref.LineRef as code
use Rattle.jp_pattern.specs.Tests.{Tests}
use Rattle.jp_output.specs.OutputForm.{OutputForm}
use Rattle.jp_answer.specs.Answer.{Answer, answer_by, nothing, joined}
use Rattle.jp_answer.specs.Faults.{fault_in, fault_or, first_fault, is_faulty, faulty_lines}
use Rattle.jp_answer.specs.FilteredQuery.{FilteredQuery}
use Rattle.jp_answer.specs.Policy.{answered_on, stop_in, stop_on, passed_in}
use Rattle.jp_answer.specs.declared.on_fault.OnFault.{OnFault}
use Rattle.jp_answer.specs.declared.on_fault.OnFault.TheVariants.{Stop, KeepGoing}
use Rattle.jp_answer.specs.declared.policy.LinePolicy.{LinePolicy}
use Rattle.jp_answer.specs.inner.Giving.{given}
use Rattle.jp_answer.proofs.Joining.{answer_on, cons_on, joined_assoc, line_answer, none_before, none_on}
use Rattle.jp_answer.proofs.Joining.{pieces_joined, so_far}

-- whether a line is faulty, as a count
abbrev pub passes : Result Json DocFault → ℕ
passes (Ok root) = 0
passes (Err fault) = 1

pub passes_none : (r : Result Json DocFault) → fault_in r ≡ None → passes r ≡ 0
passes_none (Ok root) e = refl
passes_none (Err f) e = absurd (cc)

pub passes_one : (r : Result Json DocFault) (fault : DocFault) → fault_in r ≡ Some fault → passes r ≡ 1
passes_one (Ok root) fault e = absurd (cc)
passes_one (Err f) fault e = refl

-- where documents may have these numbers:
module _ (n : Numbers) where
  abbrev pub passed_on : OnFault → List Line → ℕ
  passed_on k ls = faulty_lines n (answered_on n k ls)

  faulty_joined : (a b : List Line) → faulty_lines n (a ++ b) ≡ faulty_lines n a + faulty_lines n b
  faulty_joined a b = ap length (filter-append (is_faulty n) a b)
      ∙ length-append (filter (is_faulty n) a) (filter (is_faulty n) b)

  both_passed : (k : OnFault) (a b : List Line) → passed_on k (a ++ b) ≡ passed_on k a + passed_on k b
  both_passed Stop a b = omega (arith, none_before n (a ++ b), none_before n a, none_before n b)
  both_passed KeepGoing a b = faulty_joined a b

  few_passed : (k : OnFault) (ls : List Line) → passed_on k ls ≤ length ls
  few_passed Stop ls = omega (arith, none_before n ls)
  few_passed KeepGoing ls = omega (arith, length-filter (is_faulty n) ls, count_by-le-length (is_faulty n) ls)

  none_passed : (k : OnFault) → passed_on k [] ≡ 0
  none_passed Stop = refl
  none_passed KeepGoing = refl

  module _ (form : OutputForm) (t : Tests) (q : FilteredQuery) where
    line_goes : (k : OnFault) (l : Line) (r : Result Json DocFault)
        → (k ≡ KeepGoing) ⊎ (fault_in r ≡ None)
        → line_answer form t q k l r ≡ so_far (given form k t q l r) (passes r)
    line_goes Stop l (Ok root) h = refl
    line_goes KeepGoing l (Ok root) h = refl
    line_goes KeepGoing l (Err fault) h = refl
    line_goes Stop l (Err fault) (inl e) = absurd (cc)
    line_goes Stop l (Err fault) (inr e) = absurd (cc)

    -- one line more, in front, with which the answer goes on
    goes_on : (k : OnFault) (l : Line) (ls : List Line)
        → (k ≡ KeepGoing) ⊎ (fault_in (reading_in n l.1) ≡ None) → answer_on n form t q k (l ∷ ls)
        ≡ joined (so_far (given form k t q l (reading_in n l.1)) (passes (reading_in n l.1)))
        (answer_on n form t q k ls)
    goes_on k l ls h = cons_on n form t q k l ls
        ∙ ap (λ (a : Answer). joined a (answer_on n form t q k ls)) (line_goes k l (reading_in n l.1) h)

    line_ends : (l : Line) (r : Result Json DocFault) (a : Answer) (fault : DocFault)
        → fault_in r ≡ Some fault → joined (line_answer form t q Stop l r) a
        ≡ record { bytes = given form Stop t q l r; stopped = Some (l.0, fault); faulty = 0 }
    line_ends l (Ok root) a fault e = absurd (cc)
    line_ends l (Err f) a fault e = let same : f ≡ fault = cc in
        ap (λ f. record { bytes = []; stopped = Some (l.0, f); faulty = 0 }) same

    -- one at which it ends
    ends_at : (k : OnFault) (l : Line) (ls : List Line) (fault : DocFault) → k ≡ Stop
        → fault_in (reading_in n l.1) ≡ Some fault → answer_on n form t q k (l ∷ ls)
        ≡ record { bytes = given form k t q l (reading_in n l.1); stopped = Some (l.0, fault); faulty = 0 }
    ends_at KeepGoing l ls fault ends e = absurd (cc)
    ends_at Stop l ls fault ends e = cons_on n form t q Stop l ls
        ∙ line_ends l (reading_in n l.1) (answer_on n form t q Stop ls) fault e

  -- the same of how many faulty lines are passed, and of where the answer ends

  passed_by : (l : Line) (ls : List Line) (r : Result Json DocFault) → fault_in r ≡ None
      → length (cond (is_err r) (l ∷ filter (is_faulty n) ls) (filter (is_faulty n) ls)) ≡ faulty_lines n ls
  passed_by l ls (Ok root) e = refl
  passed_by l ls (Err f) e = absurd (cc)

  pub passed_document : (k : OnFault) (l : Line) (ls : List Line) → fault_in (reading_in n l.1) ≡ None
      → passed_on k (l ∷ ls) ≡ passed_on k ls
  passed_document Stop l ls e = none_before n (l ∷ ls) ∙ sym (none_before n ls)
  passed_document KeepGoing l ls e = passed_by l ls (reading_in n l.1) e

  faulty_by : (l : Line) (ls : List Line) (r : Result Json DocFault) (fault : DocFault)
      → fault_in r ≡ Some fault
      → length (cond (is_err r) (l ∷ filter (is_faulty n) ls) (filter (is_faulty n) ls))
      ≡ faulty_lines n ls + 1
  faulty_by l ls (Ok root) fault e = absurd (cc)
  faulty_by l ls (Err f) fault e = omega arith

  passed_fault : (k : OnFault) (l : Line) (ls : List Line) (fault : DocFault) → k ≡ KeepGoing
      → fault_in (reading_in n l.1) ≡ Some fault → passed_on k (l ∷ ls) ≡ passed_on k ls + 1
  passed_fault Stop l ls fault going e = absurd (cc)
  passed_fault KeepGoing l ls fault going e = faulty_by l ls (reading_in n l.1) fault e

  stop_by : (number : ℕ) (r : Result Json DocFault) (others : Option (ℕ × DocFault)) → fault_in r ≡ None
      → fault_or number r others ≡ others
  stop_by number (Ok root) others e = refl
  stop_by number (Err f) others e = absurd (cc)

  stop_later : (k : OnFault) (l : Line) (ls : List Line)
      → (k ≡ KeepGoing) ⊎ (fault_in (reading_in n l.1) ≡ None) → stop_on n k (l ∷ ls) ≡ stop_on n k ls
  stop_later KeepGoing l ls h = refl
  stop_later Stop l ls (inl e) = absurd (cc)
  stop_later Stop l ls (inr e) = stop_by l.0 (reading_in n l.1) (first_fault n ls) e

  stop_now : (number : ℕ) (r : Result Json DocFault) (others : Option (ℕ × DocFault)) (fault : DocFault)
      → fault_in r ≡ Some fault → fault_or number r others ≡ Some (number, fault)
  stop_now number (Ok root) others fault e = absurd (cc)
  stop_now number (Err f) others fault e = let same : f ≡ fault = cc in ap (λ f. Some (number, f)) same

  stop_here : (k : OnFault) (l : Line) (ls : List Line) (fault : DocFault) → k ≡ Stop
      → fault_in (reading_in n l.1) ≡ Some fault → stop_on n k (l ∷ ls) ≡ Some (l.0, fault)
  stop_here KeepGoing l ls fault ends e = absurd (cc)
  stop_here Stop l ls fault ends e = stop_now l.0 (reading_in n l.1) (first_fault n ls) fault e

-- the same by a policy

pub passed_joined : (p : LinePolicy) (a b : List Line) → passed_in p (a ++ b) ≡ passed_in p a + passed_in p b
passed_joined p a b = both_passed p.numbers p.on_fault a b

pub passed_few : (p : LinePolicy) (ls : List Line) → passed_in p ls ≤ length ls
passed_few p ls = few_passed p.numbers p.on_fault ls

pub passed_none : (p : LinePolicy) → passed_in p [] ≡ 0
passed_none p = none_passed p.numbers p.on_fault

module _ (form : OutputForm) (t : Tests) (q : FilteredQuery) where
  pub formed_joined : (p : LinePolicy) (a b : List Line) → answer_by form p t q (a ++ b)
      ≡ joined (answer_by form p t q a) (answer_by form p t q b)
  formed_joined p a b = pieces_joined p.numbers form t q p.on_fault a b

  pub nothing_in : (p : LinePolicy) → answer_by form p t q [] ≡ nothing
  nothing_in p = none_on p.numbers form t q p.on_fault

-- the lines of `src/` from a place on
next_line : (lines : List code.LineRef) (i : ℕ) (l : code.LineRef) → i < length lines
    → l ≡ get_or lines i l → map line_at (drop i lines) ≡ line_at l ∷ map line_at (drop (i + 1) lines)
next_line lines i l h is =
    let cut : drop i lines ≡ get_or lines i l ∷ drop (suc i) lines = drop-cons lines i l h in
    rw (add-one i) (ap (map line_at) cut
    ∙ ap (λ (x : code.LineRef). line_at x ∷ map line_at (drop (suc i) lines)) (sym is))

-- what is looked up past the end of the lines
abbrev no_line : code.LineRef
no_line = record { number = 0; bytes = record { ref_ptr = (0, 0); now = [] } }

-- a line of those of `src/`, as a loop takes it
abbrev line_there : List code.LineRef → ℕ → code.LineRef
line_there lines i = get_or lines i no_line

whatever_else : (lines : List code.LineRef) (i : ℕ) (l m : code.LineRef) → i < length lines
    → get_or lines i l ≡ get_or lines i m
whatever_else [] i l m h = absurd (omega (arith, h))
whatever_else (x ∷ xs) zero l m h = refl
whatever_else (x ∷ xs) (suc i) l m h = whatever_else xs i l m (omega (arith, h))

is_there : (lines : List code.LineRef) (i : ℕ) → i < length lines
    → line_there lines i ≡ get_or lines i (line_there lines i)
is_there lines i h = whatever_else lines i no_line (line_there lines i) h

-- a line of those of `src/` is taken
module _ (how : LinePolicy) (lines : List code.LineRef) (i : ℕ) (h : i < length lines) where
  abbrev k : OnFault
  k = how.on_fault

  abbrev l : code.LineRef
  l = line_there lines i

  abbrev all : List Line
  all = map line_at lines

  abbrev now : List Line
  now = map line_at (drop i lines)

  abbrev later : List Line
  later = map line_at (drop (i + 1) lines)

  abbrev read : Result Json DocFault
  read = reading_in how.numbers l.bytes.now

  here : now ≡ line_at l ∷ later
  here = next_line lines i l h (is_there lines i h)

  said_so : (form said : OutputForm) (t : Tests) (q p : FilteredQuery) (old : List ℕ) → said ≡ form → p ≡ q
      → old ++ given said k t p (line_at l) read ≡ old ++ given form k t q (line_at l) read
  said_so form said t q p old is same =
      ap₂ (λ (f : OutputForm) (r : FilteredQuery). old ++ given f k t r (line_at l) read) is same

  pub answer_more : (form said : OutputForm) (t : Tests) (q p : FilteredQuery) (old new : List ℕ) (m n : ℕ)
      → said ≡ form → p ≡ q
      → answer_by form how t q all ≡ joined (so_far old m) (answer_by form how t q now)
      → new ≡ old ++ given said k t p (line_at l) read → n ≡ m + passes read
      → (k ≡ KeepGoing) ⊎ (fault_in read ≡ None)
      → answer_by form how t q all ≡ joined (so_far new n) (answer_by form how t q later)
  answer_more form said t q p old new m n is same e f count g =
      let gives : Answer = so_far (given form k t q (line_at l) read) (passes read) in
      let a : Answer = answer_by form how t q later in
      e ∙ ap (λ (ls : List Line). joined (so_far old m) (answer_by form how t q ls)) here
      ∙ ap (joined (so_far old m)) (goes_on how.numbers form t q k (line_at l) later g)
      ∙ sym (joined_assoc (so_far old m) gives a)
      ∙ ap₂ (λ bytes x. joined (so_far bytes x) a) (sym (f ∙ said_so form said t q p old is same)) (sym count)

  pub answer_last : (form said : OutputForm) (t : Tests) (q p : FilteredQuery) (old new : List ℕ) (m : ℕ)
      (fault : DocFault) → said ≡ form → p ≡ q
      → answer_by form how t q all ≡ joined (so_far old m) (answer_by form how t q now)
      → new ≡ old ++ given said k t p (line_at l) read → k ≡ Stop → fault_in read ≡ Some fault
      → answer_by form how t q all
      ≡ record { bytes = new; stopped = Some (l.number, fault); faulty = m }
  answer_last form said t q p old new m fault is same e f ends found =
      let count : m + 0 ≡ m = omega arith in
      e ∙ ap (λ (ls : List Line). joined (so_far old m) (answer_by form how t q ls)) here
      ∙ ap (joined (so_far old m)) (ends_at how.numbers form t q k (line_at l) later fault ends found)
      ∙ ap₂ (λ bytes x. record { bytes = bytes; stopped = Some (l.number, fault); faulty = x })
      (sym (f ∙ said_so form said t q p old is same)) count

  pub stop_more : stop_in how all ≡ stop_in how now → (k ≡ KeepGoing) ⊎ (fault_in read ≡ None)
      → stop_in how all ≡ stop_in how later
  stop_more e g = e ∙ ap (stop_in how) here ∙ stop_later how.numbers k (line_at l) later g

  pub stop_last : (fault : DocFault) → stop_in how all ≡ stop_in how now → k ≡ Stop
      → fault_in read ≡ Some fault → stop_in how all ≡ Some (l.number, fault)
  stop_last fault e ends found =
      e ∙ ap (stop_in how) here ∙ stop_here how.numbers k (line_at l) later fault ends found

  pub passed_more : (n : ℕ) → passed_in how all ≡ n + passed_in how now → fault_in read ≡ None
      → passed_in how all ≡ n + passed_in how later
  passed_more n e none = e
      ∙ ap (λ m. n + m) (ap (passed_in how) here ∙ passed_document how.numbers k (line_at l) later none)

  pub passed_one : (n : ℕ) (fault : DocFault) → passed_in how all ≡ n + passed_in how now → k ≡ KeepGoing
      → fault_in read ≡ Some fault → passed_in how all ≡ n + 1 + passed_in how later
  passed_one n fault e going found = omega (
    arith,
    e,
    ap (passed_in how) here,
    passed_fault how.numbers k (line_at l) later fault going found,
  )

  pub passed_fits : (n : ℕ) → passed_in how all ≡ n + 1 + passed_in how later → n + 1 ≤ length lines
  passed_fits n e = omega (arith, e, passed_few how all, length-map lines line_at)

-- once no line is left, what was written is the answer
pub answer_end : (form : OutputForm) (how : LinePolicy) (t : Tests) (q : FilteredQuery)
    (lines left : List Line) (written bytes : List ℕ) (m : ℕ) → left ≡ []
    → answer_by form how t q lines ≡ joined (so_far written m) (answer_by form how t q left)
    → bytes ≡ written → answer_by form how t q lines ≡ record { bytes = bytes; stopped = None; faulty = m }
answer_end form how t q lines left written bytes m none e is =
    let count : m + 0 ≡ m = omega arith in
    e ∙ ap (λ (ls : List Line). joined (so_far written m) (answer_by form how t q ls)) none
    ∙ ap (joined (so_far written m)) (nothing_in form t q how)
    ∙ ap₂ so_far (append-nil written ∙ sym is) count
