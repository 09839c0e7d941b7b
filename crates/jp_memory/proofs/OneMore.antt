-- The answer to one line, and to lines, behind another answer.
use Rattle.std.proofs.Common.{◌≡◌, ℕ, zero, suc, ◌+◌, ◌<◌, List, [], ◌∷◌, ◌++◌, length, map, drop, get_or}
use Rattle.std.proofs.Common.{Option, Some, None, Ok, Err, refl, ap, ap₂, sym, ◌∙◌, arith, add-one}
use Rattle.std.proofs.Common.{append-nil, false, true}
use Rattle.std.proofs.Math.Seq.{drop-cons}
use Rattle.std.specs.Prelude.{is_some}
use Rattle.jp_doc.specs.Json.{Json}
use Rattle.jp_doc.specs.Lines.{Line}
use Rattle.jp_doc.specs.declared.fault.DocFault.{DocFault}
use Rattle.jp_buffer.specs.Buffered.{line_at}
use Rattle.jp_buffer.specs.declared.line_ref.LineRef as code
use Rattle.jp_pattern.specs.Tests.{Tests}
use Rattle.jp_output.specs.OutputForm.{OutputForm}
use Rattle.jp_answer.specs.Answer.{Answer, answer_by, document_bytes, joined, nothing, unless_stopped}
use Rattle.jp_answer.specs.FilteredQuery.{FilteredQuery}
use Rattle.jp_answer.specs.Policy.{reading_by}
use Rattle.jp_answer.specs.declared.on_fault.OnFault.{OnFault}
use Rattle.jp_answer.specs.declared.on_fault.OnFault.TheVariants.{Stop, KeepGoing}
use Rattle.jp_answer.specs.declared.outcome.DocStop.{DocStop}
use Rattle.jp_answer.specs.declared.policy.LinePolicy.{LinePolicy}
use Rattle.jp_answer.proofs.Joining.{cons_on, joined_assoc, line_answer, none_on, so_far}
use Rattle.jp_answer.proofs.OnFaults.{formed_joined, nothing_in}
use Rattle.jp_memory.specs.inner.Adding.{told, fault_answer}

nothing_behind : (stop : Option (ℕ × DocFault)) (a : Answer) → a.stopped ≡ stop
    → unless_stopped stop a nothing ≡ a
nothing_behind None a e =
    let count : a.faulty + 0 ≡ a.faulty = omega arith in
    ap₂ (λ bytes n. record { bytes = bytes; stopped = None; faulty = n }) (append-nil a.bytes) count
    ∙ ap (λ (s : Option (ℕ × DocFault)). record { bytes = a.bytes; stopped = s; faulty = a.faulty }) (sym e)
nothing_behind (Some s) a e = refl

pub joined_nothing : (a : Answer) → joined a nothing ≡ a
joined_nothing a = nothing_behind a.stopped a refl

-- what has ended takes no more
pub ended : (stop : Option DocStop) (bytes : List ℕ) (n : ℕ) (more : Answer) → true ≡ is_some stop
    → joined (told bytes stop n) more ≡ told bytes stop n
ended None bytes n more e = absurd (cc)
ended (Some s) bytes n more e = refl

-- it has not ended
pub not_stopped : (stop : Option DocStop) → false ≡ is_some stop → stop ≡ None
not_stopped None e = refl
not_stopped (Some s) e = absurd (cc)

-- the answer to one line
module _ (form : OutputForm) (t : Tests) (q : FilteredQuery) (p : LinePolicy) (l : Line) where
  one_line : answer_by form p t q (l ∷ []) ≡ line_answer form t q p.on_fault l (reading_by p l.1)
  one_line =
      let said : Answer = line_answer form t q p.on_fault l (reading_by p l.1) in
      cons_on p.numbers form t q p.on_fault l []
      ∙ ap (joined said) (none_on p.numbers form t q p.on_fault) ∙ joined_nothing said

  document_at : (k : OnFault) (root : Json) → line_answer form t q k l (Ok root)
      ≡ so_far (document_bytes form t q l root) 0
  document_at Stop root = refl
  document_at KeepGoing root = refl

  fault_at : (k : OnFault) (fault : DocFault) → line_answer form t q k l (Err fault)
      ≡ fault_answer form k l.0 fault
  fault_at Stop fault = refl
  fault_at KeepGoing fault = refl

  -- what is said of its document, behind an answer that has not ended
  added : (root : Json) (stop : Option (ℕ × DocFault)) (n : ℕ) (bytes : List ℕ) → stop ≡ None
      → record { bytes = bytes ++ document_bytes form t q l root; stopped = stop; faulty = n }
      ≡ joined (record { bytes = bytes; stopped = stop; faulty = n })
      (so_far (document_bytes form t q l root) 0)
  added root None n bytes e = ap (so_far (bytes ++ document_bytes form t q l root)) {x = n} {y = n + 0}
      (omega arith)
  added root (Some s) n bytes e = absurd (cc)

  pub document_adds : (root : Json) (stop : Option DocStop) (n : ℕ) (old new : List ℕ)
      → reading_by p l.1 ≡ Ok root → stop ≡ None → new ≡ old ++ document_bytes form t q l root
      → told new stop n ≡ joined (told old stop n) (answer_by form p t q (l ∷ []))
  document_adds root stop n old new read none e =
      let said : line_answer form t q p.on_fault l (reading_by p l.1)
      ≡ so_far (document_bytes form t q l root) 0 =
      ap (line_answer form t q p.on_fault l) read ∙ document_at p.on_fault root in
      let unstopped : (told old stop n).stopped ≡ None =
      ap (λ (s : Option DocStop). (told old s n).stopped) none in
      ap (λ (b : List ℕ). told b stop n) e ∙ added root (told old stop n).stopped n old unstopped
      ∙ ap (joined (told old stop n)) (sym (one_line ∙ said))

  pub fault_adds : (fault : DocFault) (a b : Answer) → reading_by p l.1 ≡ Err fault
      → b ≡ joined a (fault_answer form p.on_fault l.0 fault) → b ≡ joined a (answer_by form p t q (l ∷ []))
  fault_adds fault a b read e = e ∙ ap (joined a) (sym (one_line
      ∙ ap (line_answer form t q p.on_fault l) read ∙ fault_at p.on_fault fault))

-- the lines of `src/` from a place on
next_line : (lines : List code.LineRef) (i : ℕ) (l : code.LineRef) → i < length lines
    → l ≡ get_or lines i l → map line_at (drop i lines) ≡ line_at l ∷ map line_at (drop (i + 1) lines)
next_line lines i l h is =
    let cut : drop i lines ≡ get_or lines i l ∷ drop (suc i) lines = drop-cons lines i l h in
    rw (add-one i) (ap (map line_at) cut
    ∙ ap (λ (x : code.LineRef). line_at x ∷ map line_at (drop (suc i) lines)) (sym is))

-- what is looked up past the end of the lines
abbrev no_line : code.LineRef
no_line = record { number = 0; bytes = record { ref_ptr = (0, 0); now = [] } }

-- a line of those of `src/`, as a loop takes it
abbrev pub line_there : List code.LineRef → ℕ → code.LineRef
line_there lines i = get_or lines i no_line

whatever_else : (lines : List code.LineRef) (i : ℕ) (l m : code.LineRef) → i < length lines
    → get_or lines i l ≡ get_or lines i m
whatever_else [] i l m h = absurd (omega (arith, h))
whatever_else (x ∷ xs) zero l m h = refl
whatever_else (x ∷ xs) (suc i) l m h = whatever_else xs i l m (omega (arith, h))

is_there : (lines : List code.LineRef) (i : ℕ) → i < length lines
    → line_there lines i ≡ get_or lines i (line_there lines i)
is_there lines i h = whatever_else lines i no_line (line_there lines i) h

-- one line more of those of `src/`
pub line_goes_on : (lines : List code.LineRef) (i : ℕ) (form said : OutputForm) (p how : LinePolicy)
    (t : Tests) (q r : FilteredQuery) (all a b : Answer) → i < length lines → said ≡ form → how ≡ p → r ≡ q
    → all ≡ joined a (answer_by form p t q (map line_at (drop i lines)))
    → b ≡ joined a (answer_by said how t r (line_at (line_there lines i) ∷ []))
    → all ≡ joined b (answer_by form p t q (map line_at (drop (i + 1) lines)))
line_goes_on lines i form said p how t q r all a b h is same asks e adds =
    let l : Line = line_at (line_there lines i) in
    let later : List Line = map line_at (drop (i + 1) lines) in
    let one : answer_by said how t r (l ∷ []) ≡ answer_by form p t q (l ∷ []) =
    ap (λ (f : OutputForm). answer_by f how t r (l ∷ [])) is
    ∙ ap₂ (λ (k : LinePolicy) (s : FilteredQuery). answer_by form k t s (l ∷ [])) same asks in
    e ∙ ap (λ (ls : List Line). joined a (answer_by form p t q ls)) (next_line lines i (line_there lines i) h
    (is_there lines i h))
    ∙ ap (joined a) (formed_joined form t q p (l ∷ []) later)
    ∙ sym (joined_assoc a (answer_by form p t q (l ∷ [])) (answer_by form p t q later))
    ∙ ap (λ (x : Answer). joined x (answer_by form p t q later)) (ap (joined a) (sym one) ∙ sym adds)

-- none is left
pub none_left : (form : OutputForm) (p : LinePolicy) (t : Tests) (q : FilteredQuery) (ls : List Line)
    (all a : Answer) → ls ≡ [] → all ≡ joined a (answer_by form p t q ls) → a ≡ all
none_left form p t q ls all a none e = sym (e
    ∙ ap (λ (l : List Line). joined a (answer_by form p t q l)) none
    ∙ ap (joined a) (nothing_in form t q p) ∙ joined_nothing a)
