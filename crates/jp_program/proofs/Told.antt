-- What a run has told still holds once its sink is flushed, and says what its status says.
use Rattle.std.proofs.Common.{◌≡◌, ◌∙◌, ℕ, ◌⊎◌, inl, inr, Bool, true, false, List, [], ◌∷◌, length}
use Rattle.std.proofs.Common.{cond, Option, Some, None, IfSome, Result, Ok, Err, refl, ap, sym}
use Rattle.std.proofs.Common.{arith, subst}
use Rattle.std.proofs.KnownBytes.{Appends-nil, Keeps-trans}
use Rattle.std.specs.Prelude.{is_err}
use Rattle.std.specs.List.{filter}
use Rattle.std.specs.Io.KnownBytes.{Appends, Keeps}
use Rattle.jp_number.specs.declared.numbers.Numbers.{Numbers}
use Rattle.jp_doc.specs.Json.{Json}
use Rattle.jp_doc.specs.Lines.{Line}
use Rattle.jp_doc.specs.ReadingIn.{reading_in}
use Rattle.jp_doc.specs.declared.fault.DocFault.{DocFault}
use Rattle.jp_pattern.specs.Tests.{Tests}
use Rattle.jp_pattern.proofs.RightTests.{right_tests}
use Rattle.jp_answer.specs.FilteredQuery.{FilteredQuery}
use Rattle.jp_answer.specs.Answer.{Answer, document_bytes, joined}
use Rattle.jp_answer.specs.Faults.{is_faulty, faulty_lines}
use Rattle.jp_output.specs.OutputForm.{OutputForm}
use Rattle.jp_answer.specs.Policy.{passed_in, policy}
use Rattle.jp_answer.specs.declared.on_fault.OnFault.{OnFault}
use Rattle.jp_answer.specs.declared.on_fault.OnFault.TheVariants.{Stop, KeepGoing}
use Rattle.jp_answer.proofs.Joining.{answer_on, cons_on, line_answer, none_on, so_far}
use Rattle.jp_run.specs.Answered.{IsAnswerBy}
use Rattle.jp_run.specs.AskedTexts.{AskedTexts}
use Rattle.jp_run.specs.Cutting.{documents, documents_in}
use Rattle.jp_run.specs.Manner.{Manner}
use Rattle.jp_run.specs.Status.{status_of}
use Rattle.jp_run.specs.declared.fault.RunFault.{RunFault}
use Rattle.jp_run.specs.declared.fault.RunFault.TheVariants.{Query, Filter, Document, Read, Write, Limit}
use Rattle.jp_run.specs.declared.fault.RunFault.TheVariants.{Memory, Settings}
use Rattle.jp_run.specs.Counts.{counted}
use Rattle.jp_program.specs.Inputs.{Input}
use Rattle.jp_program.specs.Outcome.{HasFailed, IsAnswered, Passes, IsFront, IsCutShort, IsWhole}
use Rattle.jp_program.specs.Outcome.{IsHanded, IsRefusedWish, asked_in, form_for, manner_for, numbering_in}
use Rattle.jp_program.specs.Outcome.{told}
use Rattle.jp_program.specs.Wanted.{Wanted}

-- what was appended still is, where a flush keeps all

kept : (old new after : Option (List ℕ)) (bytes : List ℕ) → Appends old new bytes → Keeps new after
    → Appends old after bytes
kept None new after bytes a k = tt
kept (Some x) None after bytes a k = absurd a
kept (Some x) (Some y) None bytes a k = absurd k
kept (Some x) (Some y) (Some z) bytes a k = k ∙ a

pub kept_from : {A : Type 0} (contents : A → Option (List ℕ)) (old new after : A) → new ≡ old
    → Keeps (contents new) (contents after) → Keeps (contents old) (contents after)
kept_from contents old new after e k = subst (λ s. Keeps (contents s) (contents after)) e k

pub answered_kept : (w : Wanted) (stopped : Option (ℕ × DocFault)) (input : Input)
    (old new after : Option (List ℕ)) → IsAnswered w stopped input old new → Keeps new after
    → IsAnswered w stopped input old after
answered_kept w stopped (name, None) old new after t k = tt
answered_kept w stopped (name, Some bytes) old new after t k =
    (t.0, t.1, t.2, kept old new after _ t.3 k)

pub whole_kept : (w : Wanted) (input : Input) (old new after : Option (List ℕ)) → IsWhole w input old new
    → Keeps new after → IsWhole w input old after
whole_kept w (name, None) old new after t k = tt
whole_kept w (name, Some bytes) old new after t k = (t.0, t.1, t.2, kept old new after _ t.3 k)

pub front_kept : (w : Wanted) (input : Input) (old new after : Option (List ℕ)) → IsFront w input old new
    → Keeps new after → IsFront w input old after
front_kept w (name, None) old new after f k = tt
front_kept w (name, Some bytes) old new after f k =
    λ a is. let front = f a is in (front.0, front.1, kept old new after _ front.2 k)

-- nothing is a front
pub front_none : (w : Wanted) (input : Input) (old new : Option (List ℕ)) → new ≡ old
    → IsFront w input old new
front_none w (name, None) old new same = tt
front_none w (name, Some bytes) old new same = λ a is. (
  0,
  omega arith,
  subst (λ o. Appends old o []) (sym same) (Appends-nil old),
)

handed_kept : (counts : Bool) (going : Manner) (asked : AskedTexts) (ls : List Line)
    (old new after : Option (List ℕ)) → IsHanded counts going asked ls old new → Keeps new after
    → IsHanded counts going asked ls old after
handed_kept true going asked ls old new after h k = Keeps-trans old new after h k
handed_kept false going asked ls old new after h k = (
  h.0,
  h.1,
  record {
    whole = h.2.whole;
    is = h.2.is;
    stopped = h.2.stopped;
    appended = kept old new after h.2.whole.bytes h.2.appended k;
  },
)

pub cut_kept : (w : Wanted) (failed : Bool) (a : Input) (b old new after : Option (List ℕ))
    → IsCutShort w failed a b old new → Keeps new after → IsCutShort w failed a b old after
cut_kept w failed a b old new after h k = (
  h.0,
  h.1,
  h.2,
  handed_kept w.counts (manner_for w a.0 w.on_fault) (asked_in w) (documents_in (numbering_in w) h.1) old new
      after h.3 k,
)

pub failed_kept : (w : Wanted) (rest : Option (List ℕ)) (reads reads_new : ℕ)
    (source_failed sink_failed : Bool) (still : Bool) (input : Input) (old new after : Option (List ℕ))
    → HasFailed w (record {
      rest = rest;
      reads = reads;
      reads_new = reads_new;
      source_failed = source_failed;
      sink_failed = sink_failed;
    }) input old new → Keeps new after → (sink_failed ≡ true → still ≡ true) → HasFailed w (record {
      rest = rest;
      reads = reads;
      reads_new = reads_new;
      source_failed = source_failed;
      sink_failed = still;
    }) input old after
failed_kept w rest reads reads_new source_failed sink_failed still input old new after (front, inl cut) k on =
    (front_kept w input old new after front k, inl (cut_kept w source_failed input rest old new after cut k))
failed_kept w rest reads reads_new source_failed sink_failed still input old new after (front, inr (inl is))
    k on =
    (front_kept w input old new after front k, inr (inl (on is)))
failed_kept w rest reads reads_new source_failed sink_failed still input old new after
    (front, inr (inr limit)) k on = (front_kept w input old new after front k, inr (inr limit))

-- where no line is faulty, the answer that keeps going is the other one

module _ (n : Numbers) (form : OutputForm) (t : Tests) (q : FilteredQuery) where
  agree_by : (l : Line) (ls : List Line) (r : Result Json DocFault)
      → length (cond (is_err r) (l ∷ filter (is_faulty n) ls) (filter (is_faulty n) ls)) ≡ 0
      → (faulty_lines n ls ≡ 0 → answer_on n form t q Stop ls ≡ answer_on n form t q KeepGoing ls)
      → joined (line_answer form t q Stop l r) (answer_on n form t q Stop ls)
      ≡ joined (line_answer form t q KeepGoing l r) (answer_on n form t q KeepGoing ls)
  agree_by l ls (Ok root) e h = ap (joined (so_far (document_bytes form t q l root) 0)) (h e)
  agree_by l ls (Err f) e h = absurd (omega (arith, e))

  agree : (ls : List Line) → faulty_lines n ls ≡ 0
      → answer_on n form t q Stop ls ≡ answer_on n form t q KeepGoing ls
  agree [] e = none_on n form t q Stop ∙ sym (none_on n form t q KeepGoing)
  agree (l ∷ ls) e =
      cons_on n form t q Stop l ls ∙ agree_by l ls (reading_in n l.1) e (agree ls)
      ∙ sym (cons_on n form t q KeepGoing l ls)

-- the wanted answer, of an answer that keeps going or not, which stopped there, was appended
abbrev pub IsToldIn : OnFault → Wanted → Option (ℕ × DocFault) → Input → Option (List ℕ)
    → Option (List ℕ) → Type 0
IsToldIn going w stopped input old new = IfSome input.1 (λ bytes. (a : Answer)
    × IsAnswerBy (manner_for w input.0 going) (asked_in w) bytes a × (a.stopped ≡ stopped)
    × Appends old new (told w input.0 a))

module _ (w : Wanted) where
  pub told_stop : (going : OnFault) (stopped : Option (ℕ × DocFault)) (input : Input)
      (old new : Option (List ℕ)) → IsToldIn going w stopped input old new → (going ≡ KeepGoing → ⊥)
      → IsAnswered w stopped input old new
  told_stop Stop stopped (name, None) old new h off = tt
  told_stop Stop stopped (name, Some bytes) old new h off = h
  told_stop KeepGoing stopped input old new h off = absurd (off refl)

  pub fine : (going : OnFault) (input : Input) (old new : Option (List ℕ)) (n : ℕ)
      → IsToldIn going w None input old new
      → IfSome input.1 (λ bytes. n ≡ passed_in (policy w.numbers going) (documents (numbering_in w) bytes))
      → n ≡ 0 → IsAnswered w None input old new
  fine going (name, None) old new n h c e = tt
  fine Stop (name, Some bytes) old new n h c e = h
  fine KeepGoing (name, Some bytes) old new n h c e = (
    h.0,
    (
      h.1.0,
      h.1.1,
      λ t right. agree w.numbers (form_for w name) t h.1.0 (documents (numbering_in w) bytes) (sym c ∙ e)
          ∙ h.1.2 t right,
    ),
    h.2,
    h.3,
  )

  pub passes : (input : Input) (old new : Option (List ℕ)) (n before : ℕ)
      → IsToldIn KeepGoing w None input old new
      → IfSome input.1 (λ bytes. n
      ≡ passed_in (policy w.numbers KeepGoing) (documents (numbering_in w) bytes))
      → Passes w input (old, before) (new, counted before n)
  passes (name, None) old new n before h c = tt
  passes (name, Some bytes) old new n before h c = (
    h.1.0,
    h.1.1,
    h.0,
    h.1.2,
    ap (counted before) (c ∙ ap (λ (a : Answer). a.faulty) (h.1.2 right_tests.0 right_tests.1)),
    h.3,
  )

pub stops : (going : OnFault) → (going ≡ KeepGoing → ⊥) → going ≡ Stop
stops Stop off = refl
stops KeepGoing off = absurd (off refl)

-- which faults have a status

pub document_of : (f : RunFault) → status_of f ≡ 3
    → (line : ℕ) × (fault : DocFault) × (f ≡ Document line fault)
document_of (Query fault) e = absurd (omega arith)
document_of (Filter fault) e = absurd (omega arith)
document_of (Document line fault) e = (line, fault, refl)
document_of Read e = absurd (omega arith)
document_of Write e = absurd (omega arith)
document_of Limit e = absurd (omega arith)
document_of Memory e = absurd (omega arith)
document_of Settings e = absurd (omega arith)

pub end_of : (f : RunFault) → status_of f ≡ 4 → (f ≡ Read) ⊎ (f ≡ Write) ⊎ (f ≡ Limit)
end_of (Query fault) e = absurd (omega arith)
end_of (Filter fault) e = absurd (omega arith)
end_of (Document line fault) e = absurd (omega arith)
end_of Read e = inl refl
end_of Write e = inr (inl refl)
end_of Limit e = inr (inr refl)
end_of Memory e = absurd (omega arith)
end_of Settings e = absurd (omega arith)

pub memory_of : (f : RunFault) → status_of f ≡ 5 → f ≡ Memory
memory_of (Query fault) e = absurd (omega arith)
memory_of (Filter fault) e = absurd (omega arith)
memory_of (Document line fault) e = absurd (omega arith)
memory_of Read e = absurd (omega arith)
memory_of Write e = absurd (omega arith)
memory_of Limit e = absurd (omega arith)
memory_of Memory e = refl
memory_of Settings e = absurd (omega arith)

-- a refused query ends in its fault or in want of memory
fault_same : {T : Type 0} (f g : RunFault) → ◌≡◌ {A = Result T RunFault} (Err f) (Err g) → f ≡ g
fault_same f g e = cc

-- a refusal ends with 2
pub refused_status : (w : Wanted) (f : RunFault) → IsRefusedWish w f → status_of f ≡ 2
refused_status w (Query f) h = refl
refused_status w (Filter f) h = refl
refused_status w (Document line fault) h = absurd h
refused_status w Read h = absurd h
refused_status w Write h = absurd h
refused_status w Limit h = absurd h
refused_status w Memory h = absurd h
refused_status w Settings h = absurd h

pub status_so : {T : Type 0} (w : Wanted) (fault f : RunFault) (status : ℕ) → IsRefusedWish w f
    → status ≡ status_of fault → ◌≡◌ {A = Result T RunFault} (Err fault) (Err f)
    ⊎ ◌≡◌ {A = Result T RunFault} (Err fault) (Err Memory) → (status ≡ 2) ⊎ (status ≡ 5)
status_so w fault f status v s (inl e) =
    inl (s ∙ ap status_of (fault_same fault f e) ∙ refused_status w f v)
status_so w fault f status v s (inr e) = inr (s ∙ ap status_of (fault_same fault Memory e))

pub of_two : {A B C : Type 0} → (A → C) → (B → C) → A ⊎ B → C
of_two f g (inl a) = f a
of_two f g (inr b) = g b
