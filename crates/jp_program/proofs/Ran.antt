-- What a run that ended says of the words that wanted it.
use Rattle.std.proofs.Common.{◌≡◌, ◌∙◌, ℕ, ◌<◌, ◌≤◌, ◌^◌, ◌⊎◌, inl, inr, Bool, true, false, List, []}
use Rattle.std.proofs.Common.{◌∷◌, length, map}
use Rattle.std.proofs.Common.{Option, Some, None, IfSome, Result, Ok, Err, IfOk, IfErr, OnOk, OnErr}
use Rattle.std.proofs.Common.{refl, subst, sym, ap, arith, Vec, Global, vec_len}
use Rattle.std.proofs.KnownBytes.{Consumes-nil, Keeps-refl}
use Rattle.std.proofs.lemmas.List.Elements.{All-nil, All-cons, All-head}
use Rattle.std.proofs.lemmas.Grind.{common_steps}
use Rattle.std.specs.Prelude.{IsErrOf, ◌==◌}
use Rattle.std.specs.Io.KnownBytes.{IsAtEnd, Consumes, Keeps}
use Rattle.std.proofs.Math.ListN.{length-map}
use Rattle.std.specs.Borrow.{Bor}
use Rattle.clap.specs.Walk.{Text, texts}
use Rattle.jp_doc.specs.Lines.{Line}
use Rattle.jp_doc.specs.declared.fault.DocFault.{DocFault}
use Rattle.jp_number.specs.declared.numbers.Numbers.{Numbers}
use Rattle.jp_pattern.proofs.RightTests.{right_tests}
use Rattle.jp_answer.specs.Answer.{Answer, answer_by}
use Rattle.jp_answer.specs.FilteredQuery.{FilteredQuery}
use Rattle.jp_answer.specs.Policy.{passed_in, policy}
use Rattle.jp_answer.specs.declared.on_fault.OnFault.{OnFault}
use Rattle.jp_answer.specs.declared.on_fault.OnFault.TheVariants.{Stop, KeepGoing}
use Rattle.jp_run.specs.Manner.{Manner}
use Rattle.jp_run.specs.AskedTexts.{AreAcceptedIn, AskedTexts}
use Rattle.jp_run.specs.Answered.{IsAnswerBy}
use Rattle.jp_run.specs.Counts.{counted}
use Rattle.jp_run.specs.Cutting.{Numbering, documents, documents_in}
use Rattle.jp_run.specs.Handed.{Handed, IsHandedBy}
use Rattle.jp_run.specs.Status.{status_of}
use Rattle.jp_run.specs.declared.cutting.Cutting.{Cutting}
use Rattle.jp_run.specs.declared.cutting.Cutting.TheVariants.{Lines, Documents}
use Rattle.jp_run.specs.declared.fault.RunFault.{RunFault}
use Rattle.jp_run.specs.declared.fault.RunFault.TheVariants as fault_
use Rattle.jp_run.specs.declared.fault.RunFault.TheVariants.{Document, Read, Write, Limit, Memory, Settings}
use Rattle.jp_run.specs.declared.running.Totals.{Totals}
use Rattle.jp_run.proofs.Accepted.{one_asked}
use Rattle.jp_run.proofs.Handing.{handed_none}
use Rattle.jp_run.proofs.Runs.{at_fault}
use Rattle.jp_program.specs.inner.Invocation.{IsAsked, wanted_of}
use Rattle.jp_program.specs.inner.Ended.{EndsSo, FilesEnded, HasEnded, RunEnded}
use Rattle.jp_program.specs.Inputs.{Course, EachInTurn, EndsIn, Held, Input, inputs_of, named, standard}
use Rattle.jp_program.specs.Outcome.{IsTaken, IsAnswered, ArePassed, Passes, IsFront, IsCutShort, HasFailed}
use Rattle.jp_program.specs.Outcome.{AreFailed, IsWholeOrCut, Left, AreAllReads, AreOpened, AreTooManyLines}
use Rattle.jp_program.specs.Outcome.{IsRefusedWish, asked_in, ends_run, left_of, manner_for, reads_before}
use Rattle.jp_program.specs.Outcome.{IsEmptyAnswer, IsKnownEmptyAnswer, AreEmptyAnswers}
use Rattle.jp_program.specs.Outcome.{AreKnownEmptyAnswers, IsHanded, numbering_in}
use Rattle.jp_program.specs.Wanted.{Wanted, WantsRun}
use Rattle.jp_program.specs.declared.command_line.Invocation.{Invocation}
use Rattle.jp_program.specs.declared.command_line.Invocation.TheVariants.{Query}
use Rattle.jp_program.specs.declared.command_line.Wanted as code
use Rattle.jp_program.proofs.Told.{IsToldIn, fine, passes, told_stop, stops, front_none}
use Rattle.jp_program.proofs.Turns.{all_named, alone, ended_alone, ended_named, ends_weaker, in_weaker}

pub wants_of : (words : List Text) (a : Invocation) (w : code.Wanted) → a ≡ Query w → IsAsked words a
    → w.check ≡ false → WantsRun words (wanted_of w)
wants_of words a w e asked off = (subst (IsAsked words) e asked, off)

-- what a check has accepted is accepted by the numbers that were wanted
pub taken_by : (n : Numbers) (w : Wanted) → n ≡ w.numbers
    → (q : FilteredQuery) × AreAcceptedIn n (asked_in w) q → IsTaken w
taken_by n w same h = (h.0, subst (λ k. AreAcceptedIn k (asked_in w) h.0) same h.1)

-- and so is what was prepared
pub prepared_by : (n : Numbers) (w : Wanted) (q : FilteredQuery) → n ≡ w.numbers
    → AreAcceptedIn n (asked_in w) q → AreAcceptedIn w.numbers (asked_in w) q
prepared_by n w q same = subst (λ k. AreAcceptedIn k (asked_in w) q) same

-- want of memory has another one
pub no_memory : (f : RunFault) → status_of f ≡ 2 → f ≡ Memory → ⊥
no_memory f two is = let five : status_of f ≡ 5 = ap status_of is in omega (arith, two, five)

-- what one run over an input has done, in the words of what was wanted
module _ (w : Wanted) (input : Input) (old new : Option (List ℕ)) where
  pub finished_ok : (r : Result Totals RunFault) → OnOk r (IsToldIn w.on_fault w None input old new)
      → IfOk r (λ totals. IfSome input.1 (λ bytes. totals.faulty
      ≡ passed_in (policy w.numbers w.on_fault) (documents (numbering_in w) bytes)))
      → IfOk r (λ totals. totals.faulty ≡ 0 → IsAnswered w None input old new)
  finished_ok (Ok totals) told faulty = λ e. fine w w.on_fault input old new totals.faulty told faulty e
  finished_ok (Err fault) told faulty = tt

  pub passes_ok : w.on_fault ≡ KeepGoing → (r : Result Totals RunFault)
      → OnOk r (IsToldIn w.on_fault w None input old new)
      → IfOk r (λ totals. IfSome input.1 (λ bytes. totals.faulty
      ≡ passed_in (policy w.numbers w.on_fault) (documents (numbering_in w) bytes)))
      → IfOk r (λ totals. (n : ℕ) → Passes w input (old, n) (new, counted n totals.faulty))
  passes_ok is (Ok totals) told faulty = λ n. passes w input old new totals.faulty n
      (subst (λ (g : OnFault). IsToldIn g w None input old new) is told)
      (subst (λ (g : OnFault). IfSome input.1 (λ bytes. totals.faulty
      ≡ passed_in (policy w.numbers g) (documents (numbering_in w) bytes))) is faulty)
  passes_ok is (Err fault) told faulty = tt

-- of no byte there is no document
no_documents_if : (c : Cutting) (before : ℕ)
    → documents_in (record { cutting = c; before = before }) [] ≡ []
no_documents_if Lines before = refl
no_documents_if Documents before = refl

no_documents : (n : Numbering) → documents_in n [] ≡ []
no_documents n = no_documents_if n.cutting n.before

-- where nothing was written nothing was handed to a count
unhanded : (counts : Bool) (going : Manner) (asked : AskedTexts) (ls : List Line) (old new : Option (List ℕ))
    → new ≡ old → IsHandedBy going asked ls None old new → IsHanded counts going asked ls old new
unhanded true going asked ls old new same h = subst (Keeps old) (sym same) (Keeps-refl old)
unhanded false going asked ls old new same h = h

-- how one run over an input ended, in the words of what was wanted
module _ (w : Wanted) (e : Left) (input : Input) (old new : Option (List ℕ)) where
  pub run_ended : (r : Result Totals RunFault)
      → ((f : RunFault) → IsErrOf r f → status_of f ≡ 2 → IsRefusedWish w f)
      → (w.on_fault ≡ KeepGoing → (line : ℕ) (fault : DocFault) → IsErrOf r (Document line fault) → ⊥)
      → ((line : ℕ) (fault : DocFault) → IsErrOf r (Document line fault)
      → IsToldIn w.on_fault w (Some (line, fault)) input old new)
      → (IsErrOf r Read → IsCutShort w e.source_failed input e.rest old new)
      → (IsErrOf r Write → e.sink_failed ≡ true)
      → (IsErrOf r Limit → AreAllReads e.reads e.reads_new ⊎ AreTooManyLines w input.1 e.rest)
      → (IsErrOf r Settings → ⊥) → OnErr r (IsFront w input old new)
      → IfErr r (λ f. RunEnded w e f input old new)
  run_ended (Ok totals) query going document read write limit settings front = tt
  run_ended (Err (fault_.Query f)) query going document read write limit settings front =
      query (fault_.Query f) refl refl
  run_ended (Err (fault_.Filter f)) query going document read write limit settings front =
      query (fault_.Filter f) refl refl
  run_ended (Err (Document line fault)) query going document read write limit settings front =
      told_stop w w.on_fault (Some (line, fault)) input old new (document line fault refl)
      (λ on. going on line fault refl)
  run_ended (Err Read) query going document read write limit settings front = (front, read refl)
  run_ended (Err Write) query going document read write limit settings front = (front, write refl)
  run_ended (Err Limit) query going document read write limit settings front = (front, limit refl)
  run_ended (Err Memory) query going document read write limit settings front = front
  run_ended (Err Settings) query going document read write limit settings front = absurd (settings refl)

  -- an input that could not be opened is cut short before its first byte
  pub unopened : IsTaken w → e.source_failed ≡ true → e.rest ≡ input.1 → new ≡ old
      → RunEnded w e Read input old new
  unopened taken failed rest same = (
    front_none w input old new same,
    (
      failed,
      [],
      subst (λ o. Consumes input.1 o []) (sym rest) (Consumes-nil input.1),
      unhanded w.counts (manner_for w input.0 w.on_fault) (asked_in w) (documents_in (numbering_in w) []) old
          new same (
            taken.0,
            taken.1,
            subst (λ l. Handed (manner_for w input.0 w.on_fault) taken.0 l None old new)
                (sym (no_documents (numbering_in w)))
                (subst (λ o. Handed (manner_for w input.0 w.on_fault) taken.0 [] None old o) (sym same)
                (handed_none (manner_for w input.0 w.on_fault) taken.0 old)),
          ),
    ),
  )

-- what is left of a file, of which there were no reads before it was opened
abbrev pub file_left : Left → Left
file_left e = record {
  rest = e.rest;
  reads = 0;
  reads_new = e.reads_new;
  source_failed = e.source_failed;
  sink_failed = e.sink_failed;
}

reads_none : (files : List Text) (reads : ℕ) → 0 < length files → 0 ≡ reads_before files reads
reads_none [] reads some = absurd (omega (arith, some))
reads_none (name ∷ names) reads some = refl

ends_all : (files : List Text) (going : OnFault) (failed : Bool) → going ≡ Stop
    → failed ≡ ends_run files going failed
ends_all [] going failed off = refl
ends_all (name ∷ names) Stop failed off = refl
ends_all (name ∷ names) KeepGoing failed off = absurd (cc)

-- what a run over a file leaves, unless the answer goes on past it, is what it leaves to the end
left_so : (w : Wanted) → 0 < length w.files → (e : Left) (f : RunFault)
    → (w.on_fault ≡ KeepGoing → f ≡ Read → ⊥) → (input : Input) (old new : Option (List ℕ))
    → RunEnded w (file_left e) f input old new → RunEnded w (left_of w e) f input old new
left_so w some e (fault_.Query f) not input old new h = h
left_so w some e (fault_.Filter f) not input old new h = h
left_so w some e (Document line fault) not input old new h = h
left_so w some e Read not input old new h = (
  h.0,
  subst (λ b. IsCutShort w b input e.rest old new)
      (ends_all w.files w.on_fault e.source_failed (stops w.on_fault (λ on. not on refl))) h.1,
)
left_so w some e Write not input old new h = h
left_so w some e Limit not input old new h = (
  h.0,
  subst (λ n. AreAllReads n e.reads_new ⊎ AreTooManyLines w input.1 e.rest)
      (reads_none w.files e.reads some) h.1,
)
left_so w some e Memory not input old new h = h
left_so w some e Settings not input old new h = h

-- all of it is left where no file is named
pub left_alone : (w : Wanted) → w.files ≡ [] → (e : Left) → e ≡ left_of w e
left_alone w none e = ap (λ (fs : List Text). record {
  rest = e.rest;
  reads = reads_before fs e.reads;
  reads_new = e.reads_new;
  source_failed = ends_run fs w.on_fault e.source_failed;
  sink_failed = e.sink_failed;
}) (sym none)

-- all ended so, where no file is named, or files are
module _ (words : List Text) (w : Wanted) (wants : WantsRun words w) (holds : Text → Held) (first : Held)
    (c : Course) (e : Left) (Undone : Type 0) where
  so_by : (f : RunFault)
      → (w.on_fault ≡ KeepGoing → (line : ℕ) (fault : DocFault) → f ≡ Document line fault → ⊥)
      → EndsIn (IsWholeOrCut w) (RunEnded w (left_of w e) f) w.files holds first c
      → HasEnded words holds first c e Undone f
  so_by (fault_.Query f) going h = tt
  so_by (fault_.Filter f) going h = tt
  so_by (Document line fault) going h =
      (w, wants, stops w.on_fault (λ on. going on line fault refl), h)
  so_by Read going h = (
    w,
    wants,
    inl (in_weaker (IsWholeOrCut w) (RunEnded w (left_of w e) Read) (HasFailed w (left_of w e)) c
        c.contents_new (λ input mid k. (k.0, inl k.1)) w.files holds first h),
  )
  so_by Write going h = (
    w,
    wants,
    inl (in_weaker (IsWholeOrCut w) (RunEnded w (left_of w e) Write) (HasFailed w (left_of w e)) c
        c.contents_new (λ input mid k. (k.0, inr (inl k.1))) w.files holds first h),
  )
  so_by Limit going h = (
    w,
    wants,
    inl (in_weaker (IsWholeOrCut w) (RunEnded w (left_of w e) Limit) (HasFailed w (left_of w e)) c
        c.contents_new (λ input mid k. (k.0, inr (inr k.1))) w.files holds first h),
  )
  so_by Memory going h = inr (w, wants, h)
  so_by Settings going h = tt

  pub run_so : w.files ≡ [] → (r : Result Totals RunFault)
      → (w.on_fault ≡ KeepGoing → (line : ℕ) (fault : DocFault) → IsErrOf r (Document line fault) → ⊥)
      → IfErr r (λ f. RunEnded w e f (standard first) c.contents c.contents_new)
      → IfErr r (HasEnded words holds first c e Undone)
  run_so none (Ok totals) going h = tt
  run_so none (Err f) going h = so_by f (λ on line fault is. going on line fault (ap Err is))
      (ended_alone w.files none holds first (IsWholeOrCut w) (RunEnded w (left_of w e) f) c
      (subst (λ l. RunEnded w l f (standard first) c.contents c.contents_new) (left_alone w none e) h))

  pub files_so : 0 < length w.files → (r : Result Totals RunFault)
      → (w.on_fault ≡ KeepGoing → (line : ℕ) (fault : DocFault) → IsErrOf r (Document line fault) → ⊥)
      → IfErr r (FilesEnded w (file_left e) (map (named holds) w.files) c)
      → IfErr r (HasEnded words holds first c e Undone)
  files_so some (Ok totals) going h = tt
  files_so some (Err f) going (inl (not, at)) = so_by f (λ on line fault is. going on line fault (ap Err is))
      (ended_named (IsWholeOrCut w) (RunEnded w (left_of w e) f) w.files holds first c some
      (ends_weaker (IsWholeOrCut w) (RunEnded w (file_left e) f) (RunEnded w (left_of w e) f) c c.contents_new
      (λ input mid k. left_so w some e f not input mid c.contents_new k) (map (named holds) w.files) at))
  files_so some (Err f) going (inr (is, gone)) =
      subst (HasEnded words holds first c e Undone) (sym is) (w, wants, inr gone)

-- an end that has failed, or a limit that was passed
end_so_by : (words : List Text) (holds : Text → Held) (first : Held) (c : Course) (e : Left)
    (Undone : Type 0) (f : RunFault) → (f ≡ Read) ⊎ (f ≡ Write) ⊎ (f ≡ Limit)
    → HasEnded words holds first c e Undone f
    → EndsSo words (λ w. AreFailed w e holds first c)
end_so_by words holds first c e Undone f (inl is) h = subst (HasEnded words holds first c e Undone) is h
end_so_by words holds first c e Undone f (inr (inl is)) h =
    subst (HasEnded words holds first c e Undone) is h
end_so_by words holds first c e Undone f (inr (inr is)) h =
    subst (HasEnded words holds first c e Undone) is h

pub end_so : (words : List Text) (holds : Text → Held) (first : Held) (c : Course) (e : Left)
    (Undone : Type 0) (f : RunFault) (r : Result Totals RunFault) → r ≡ Err f
    → (f ≡ Read) ⊎ (f ≡ Write) ⊎ (f ≡ Limit) → IfErr r (HasEnded words holds first c e Undone)
    → EndsSo words (λ w. AreFailed w e holds first c)
end_so words holds first c e Undone f r is which h = end_so_by words holds first c e Undone f which
    (at_fault r f (HasEnded words holds first c e Undone) is h)

-- of files a refusal is why what was wanted is refused
pub query_ended : (w : Wanted) (e : Left) (inputs : List Input) (c : Course) (f : RunFault) → status_of f ≡ 2
    → FilesEnded w e inputs c f → IsRefusedWish w f
query_ended w e inputs c (fault_.Query f) two (inl (not, at)) = at.ended
query_ended w e inputs c (fault_.Query f) two (inr (is, gone)) = absurd (cc)
query_ended w e inputs c (fault_.Filter f) two (inl (not, at)) = at.ended
query_ended w e inputs c (fault_.Filter f) two (inr (is, gone)) = absurd (cc)
query_ended w e inputs c (Document line fault) two h = absurd (omega arith)
query_ended w e inputs c Read two h = absurd (omega arith)
query_ended w e inputs c Write two h = absurd (omega arith)
query_ended w e inputs c Limit two h = absurd (omega arith)
query_ended w e inputs c Memory two h = absurd (omega arith)
query_ended w e inputs c Settings two h = absurd (omega arith)

-- all went well
module _ (words : List Text) (w : Wanted) (wants : WantsRun words w) (Each Opened : Wanted → Type 0)
    (rest : Option (List ℕ)) (flushed source_failed sink_failed : Bool) where
  pub finished_so : (Shown Checked : Type 0) (r : Result Totals RunFault) → OnOk r (IsTaken w)
      → IfOk r (λ totals. totals.faulty ≡ 0 → Each w) → OnOk r (Opened w)
      → OnOk r (IsAtEnd rest) → OnOk r (flushed ≡ true)
      → OnOk r ((source_failed ≡ false) × (sink_failed ≡ false))
      → IfOk r (λ totals. totals.faulty ≡ 0 → Shown ⊎ Checked ⊎ ((x : Wanted) × WantsRun words x
      × IsTaken x × Each x × Opened x × IsAtEnd rest × (flushed ≡ true)
      × (source_failed ≡ false) × (sink_failed ≡ false)))
  finished_so Shown Checked (Ok totals) taken each opened end passed working =
      λ e. inr (inr (w, wants, taken, each e, opened, end, passed, working.0, working.1))
  finished_so Shown Checked (Err fault) taken each opened end passed working = tt

  pub past_so : (r : Result Totals RunFault)
      → IfOk r (λ totals. 0 < totals.faulty → (w.on_fault ≡ KeepGoing) × Each w) → OnOk r (Opened w)
      → OnOk r (IsAtEnd rest) → OnOk r (flushed ≡ true)
      → OnOk r ((source_failed ≡ false) × (sink_failed ≡ false))
      → IfOk r (λ totals. 0 < totals.faulty → (x : Wanted) × WantsRun words x × (x.on_fault ≡ KeepGoing)
      × Each x × Opened x × IsAtEnd rest × (flushed ≡ true)
      × (source_failed ≡ false) × (sink_failed ≡ false))
  past_so (Ok totals) each opened end passed working = λ some.
      let both = each some in (w, wants, both.0, both.1, opened, end, passed, working.0, working.1)
  past_so (Err fault) each opened end passed working = tt

-- faulty lines are passed only where the answer keeps going
pub goes : (going : OnFault) (n : ℕ) → (going ≡ Stop → n ≡ 0) → 0 < n → going ≡ KeepGoing
goes KeepGoing n none some = refl
goes Stop n none some = absurd (let is = none refl in omega (arith, is, some))

-- one input alone
module _ (w : Wanted) (holds : Text → Held) (first old new : Option (List ℕ)) (none : w.files ≡ []) where
  pub past_alone : (r : Result Totals RunFault)
      → (w.on_fault ≡ KeepGoing
      → IfOk r (λ totals. (n : ℕ) → Passes w (standard first) (old, n) (new, counted n totals.faulty)))
      → (w.on_fault ≡ Stop → IfOk r (λ totals. totals.faulty ≡ 0))
      → IfOk r (λ totals. 0 < totals.faulty → (w.on_fault ≡ KeepGoing)
      × ArePassed w (inputs_of w.files holds first) old new)
  past_alone (Ok totals) each no_fault = λ some.
      let going = goes w.on_fault totals.faulty no_fault some in (
        going,
        (
          counted 0 totals.faulty,
          omega (arith, some),
          alone w.files none holds first (Passes w) (old, 0) (new, counted 0 totals.faulty) (each going 0),
        ),
      )
  past_alone (Err fault) each no_fault = tt

  pub finished_alone : (r : Result Totals RunFault)
      → IfOk r (λ totals. totals.faulty ≡ 0 → IsAnswered w None (standard first) old new)
      → IfOk r (λ totals. totals.faulty ≡ 0
      → EachInTurn (IsAnswered w None) (inputs_of w.files holds first) old new)
  finished_alone (Ok totals) h = λ e. alone w.files none holds first (IsAnswered w None) old new (h e)
  finished_alone (Err fault) h = tt

-- the same of files by their names
module _ (w : Wanted) (some : 0 < length w.files) (holds : Text → Held) (first : Held) where
  pub finished_files : (r : Result Totals RunFault) (old new : Option (List ℕ))
      → IfOk r (λ totals. totals.faulty ≡ 0
      → EachInTurn (IsAnswered w None) (map (named holds) w.files) old new)
      → IfOk r (λ totals. totals.faulty ≡ 0
      → EachInTurn (IsAnswered w None) (inputs_of w.files holds first) old new)
  finished_files r old new h = subst (λ xs. IfOk r (λ totals. totals.faulty ≡ 0
      → EachInTurn (IsAnswered w None) xs old new)) (sym (all_named w.files holds first some)) h

  pub past_files : (r : Result Totals RunFault) (old new : Option (List ℕ))
      → IfOk r (λ totals. 0 < totals.faulty → (w.on_fault ≡ KeepGoing)
      × ArePassed w (map (named holds) w.files) old new)
      → IfOk r (λ totals. 0 < totals.faulty → (w.on_fault ≡ KeepGoing)
      × ArePassed w (inputs_of w.files holds first) old new)
  past_files r old new h = subst (λ xs. IfOk r (λ totals. 0 < totals.faulty → (w.on_fault ≡ KeepGoing)
      × ArePassed w xs old new)) (sym (all_named w.files holds first some)) h

  pub nothing_files : (r : Result Totals RunFault)
      → IfOk r (λ totals. totals.wrote ≡ 0 → AreEmptyAnswers w (map (named holds) w.files))
      → IfOk r (λ totals. totals.wrote ≡ 0 → AreEmptyAnswers w (inputs_of w.files holds first))
  nothing_files r h = subst (λ xs. IfOk r (λ totals. totals.wrote ≡ 0 → AreEmptyAnswers w xs))
      (sym (all_named w.files holds first some)) h

  pub something_files : (r : Result Totals RunFault)
      → IfOk r (λ totals. 0 < totals.wrote → AreKnownEmptyAnswers w (map (named holds) w.files) → ⊥)
      → IfOk r (λ totals. 0 < totals.wrote
      → AreKnownEmptyAnswers w (inputs_of w.files holds first) → ⊥)
  something_files r h = subst (λ xs. IfOk r (λ totals. 0 < totals.wrote → AreKnownEmptyAnswers w xs → ⊥))
      (sym (all_named w.files holds first some)) h

names_long : (names : List (Bor Text)) → length (texts names) ≡ length names
names_long names = rw length-map refl

none_of : (b : Bool) (names : List (Bor Text)) → b ≡ (length names == 0) → b ≡ true → texts names ≡ []
none_of b [] is e = refl
none_of b (name ∷ names) is e =
    absurd (let some : 0 < length (name ∷ names) = omega arith in grind (arith, is, e, some, common_steps))

some_of : (b : Bool) (names : List (Bor Text)) → b ≡ (length names == 0) → b ≡ false
    → 0 < length (texts names)
some_of b [] is e = absurd (let k : true ≡ false = sym is ∙ e in cc)
some_of b (name ∷ names) is e = omega arith

-- whether files are named
pub no_files : (b : Bool) (files : Vec (Bor Text) Global) → b ≡ (vec_len files == 0) → b ≡ true
    → texts files.items ≡ []
no_files b files is e = none_of b files.items (is ∙ ap (λ n. n == 0) files.ok.0) e

pub some_files : (b : Bool) (files : Vec (Bor Text) Global) → b ≡ (vec_len files == 0) → b ≡ false
    → 0 < length (texts files.items)
some_files b files is e = some_of b files.items (is ∙ ap (λ n. n == 0) files.ok.0) e

pub both_files : (w : Wanted) → 0 < length w.files → w.files ≡ [] → ⊥
both_files w some none = let is : length w.files ≡ 0 = ap length none in omega (arith, some, is)

pub opened_files : (r : Result Totals RunFault) (w : Wanted) (names : List (Bor Text)) (a b c d : ℕ)
    → w.files ≡ texts names → OnOk r (b ≡ counted a (length names)) → OnOk r (d ≡ c)
    → OnOk r (AreOpened w a b c d)
opened_files (Ok totals) w names a b c d is opened broken =
    (opened ∙ ap (counted a) (sym (ap length is ∙ names_long names)), broken)
opened_files (Err fault) w names a b c d is opened broken = tt

-- where no file is named none was opened
pub opened_none : (w : Wanted) → w.files ≡ [] → (n b : ℕ) → n ≤ 2 ^ 62 → AreOpened w n n b b
opened_none w none n b few = (subst (λ fs. n ≡ counted n (length fs)) (sym none) (omega (arith, few)), refl)

-- whether anything was selected

is_empty : (bytes : List ℕ) → counted 0 (length bytes) ≡ 0 → bytes ≡ []
is_empty [] e = refl
is_empty (b ∷ bytes) e = absurd (omega (arith, e))

-- the answer to what is asked is one
pub one_answer : (going : Manner) (asked : AskedTexts) (input : List ℕ) (a b : Answer)
    → IsAnswerBy going asked input a → IsAnswerBy going asked input b → a ≡ b
one_answer going asked input a b h k =
    let same : h.0 ≡ k.0 = one_asked going.policy.numbers asked h.0 k.0 h.1 k.1 in
    sym (h.2 right_tests.0 right_tests.1)
    ∙ ap (λ q. answer_by going.form going.policy right_tests.0 q (documents going.numbering input)) same
    ∙ k.2 right_tests.0 right_tests.1

module _ (w : Wanted) where
  abbrev pub Tells : Input → ℕ → Type 0
  Tells input wrote = IfSome input.1 (λ bytes. (a : Answer)
      × IsAnswerBy (manner_for w input.0 w.on_fault) (asked_in w) bytes a
      × (wrote ≡ counted 0 (length a.bytes)))

  nothing_known : (input : Input) (wrote : ℕ) → Tells input wrote → wrote ≡ 0 → IsEmptyAnswer w input
  nothing_known (name, None) wrote h e = tt
  nothing_known (name, Some bytes) wrote h e = (h.0, h.1, is_empty h.0.bytes (sym h.2 ∙ e))

  something_known : (input : Input) (wrote : ℕ) → Tells input wrote → 0 < wrote
      → IsKnownEmptyAnswer w input → ⊥
  something_known (name, None) wrote h e k = k
  something_known (name, Some bytes) wrote h e k =
      let same : h.0 ≡ k.0 = one_answer (manner_for w name w.on_fault) (asked_in w) bytes h.0 k.0 h.1 k.1
      in
      let none : length h.0.bytes ≡ 0 = ap (λ (a : Answer). length a.bytes) same ∙ ap length k.2 in
      omega (arith, e, h.2, none)

  pub nothing_ok : (input : Input) (r : Result Totals RunFault) → IfOk r (λ totals. Tells input totals.wrote)
      → IfOk r (λ totals. totals.wrote ≡ 0 → IsEmptyAnswer w input)
  nothing_ok input (Ok totals) h = nothing_known input totals.wrote h
  nothing_ok input (Err fault) h = tt

  pub something_ok : (input : Input) (r : Result Totals RunFault)
      → IfOk r (λ totals. Tells input totals.wrote)
      → IfOk r (λ totals. 0 < totals.wrote → IsKnownEmptyAnswer w input → ⊥)
  something_ok input (Ok totals) h = something_known input totals.wrote h
  something_ok input (Err fault) h = tt

  -- of one input alone
  module _ (none : w.files ≡ []) (holds : Text → Held) (first : Held) where
    inputs_alone : inputs_of w.files holds first ≡ standard first ∷ []
    inputs_alone = ap (λ fs. inputs_of fs holds first) none

    pub nothing_alone : (r : Result Totals RunFault)
        → IfOk r (λ totals. totals.wrote ≡ 0 → IsEmptyAnswer w (standard first))
        → IfOk r (λ totals. totals.wrote ≡ 0 → AreEmptyAnswers w (inputs_of w.files holds first))
    nothing_alone (Ok totals) h = λ e. subst (AreEmptyAnswers w) (sym inputs_alone)
        (All-cons (IsEmptyAnswer w) (standard first) [] (h e) (All-nil (IsEmptyAnswer w)))
    nothing_alone (Err fault) h = tt

    pub something_alone : (r : Result Totals RunFault)
        → IfOk r (λ totals. 0 < totals.wrote → IsKnownEmptyAnswer w (standard first) → ⊥)
        → IfOk r (λ totals. 0 < totals.wrote
        → AreKnownEmptyAnswers w (inputs_of w.files holds first) → ⊥)
    something_alone (Ok totals) h = λ e all. h e (All-head (IsKnownEmptyAnswer w) (standard first) []
        (subst (AreKnownEmptyAnswers w) inputs_alone all))
    something_alone (Err fault) h = tt
