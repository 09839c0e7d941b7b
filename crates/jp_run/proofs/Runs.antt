-- What a run has done, in terms of its query's text.
use Rattle.std.proofs.Common.{◌≡◌, ℕ, ◌+◌, ◌≤◌, List, Option, Some, None, IfSome, inl}
use Rattle.std.proofs.Common.{Result, Ok}
use Rattle.std.proofs.Common.{Err, IfErr, IfOk, OnOk, OnErr, IsErrAnd, ◌∙◌, ap, subst, sym, arith}
use Rattle.std.proofs.Common.{length, refl}
use Rattle.std.specs.Prelude.{IsErrOf}
use Rattle.std.specs.Io.KnownBytes.{Appends}
use Rattle.std.proofs.KnownBytes.{Appends-nil}
use Rattle.jp_doc.specs.declared.fault.DocFault.{DocFault}
use Rattle.jp_pattern.proofs.RightTests.{right_tests}
use Rattle.jp_number.specs.declared.numbers.Numbers.{Numbers}
use Rattle.jp_answer.specs.Answer.{Answer, answer_by}
use Rattle.jp_answer.specs.FilteredQuery.{FilteredQuery}
use Rattle.jp_run.specs.AskedTexts.{AskedTexts, AreAcceptedIn}
use Rattle.jp_run.specs.Forms.{form_of}
use Rattle.jp_run.specs.Manner.{Manner, manner}
use Rattle.jp_run.specs.Answered.{IsAnswerBy, layout_of, manner_of, numbering_of}
use Rattle.jp_run.specs.Cutting.{documents}
use Rattle.jp_answer.specs.Policy.{policy}
use Rattle.jp_answer.specs.declared.on_fault.OnFault.{OnFault}
use Rattle.jp_answer.specs.declared.on_fault.OnFault.TheVariants.{Stop, KeepGoing}
use Rattle.jp_run.specs.declared.ends.Sink as sink
use Rattle.jp_run.specs.declared.ends.Supply as supply
use Rattle.jp_run.specs.declared.job.Job.{Job}
use Rattle.jp_run.specs.declared.fault.RunFault.{RunFault}
use Rattle.jp_run.specs.declared.fault.RunFault.TheVariants.{Query, Filter, Document, Read, Write, Limit}
use Rattle.jp_run.specs.declared.fault.RunFault.TheVariants.{Memory, Settings}
use Rattle.jp_run.specs.declared.output.Output.{Output}
use Rattle.jp_run.specs.declared.running.Totals.{Totals}
use Rattle.jp_run.specs.declared.settings.Settings as settings
use Rattle.jp_run.specs.inner.Ended.{Ends, StreamEnded}
use Rattle.jp_run.specs.Handed.{Handed, HandedFront}
use Rattle.jp_run.specs.Limits.{max_reads, window as window_bytes}
use Rattle.jp_run.specs.Written.{AppendsFront, IsPassedOn}
use Rattle.jp_run.specs.Begun.{Begun, AllSince}
use Rattle.jp_run.specs.Prompt.{IsPrompt, IsNear}
use Rattle.jp_run.specs.Ran.{IsRunOf}
use Rattle.jp_run.specs.Status.{status_of}
use Rattle.jp_run.specs.inner.Running.{HasRun}
use Rattle.jp_run.specs.inner.Standing.{BeginsPrompt, BeginsNear}
use Rattle.jp_run.specs.Counts.{counted}
use Rattle.jp_run.specs.inner.Wrote.{HasBytes}
use Rattle.jp_run.proofs.Accepted.{one_asked}
use Rattle.jp_run.proofs.Ending.{ended_front}
use Rattle.jp_run.specs.inner.Jobs.{job_query}
use Rattle.jp_run.proofs.Readings.{none_yet, since_so}

-- an answer that keeps going does not stop
pub not_going : (k : OnFault) → k ≡ KeepGoing → k ≡ Stop → ⊥
not_going k on off = cc

-- what stands after the fault that was told
pub at_fault : {T : Type 0} (r : Result T RunFault) (f : RunFault) (P : RunFault → Type 0) → r ≡ Err f
    → IfErr r P → P f
at_fault (Ok x) f P e h = absurd (cc)
at_fault (Err g) f P e h = let same : g ≡ f = cc in subst P same h

pub never_err : {X E P : Type 0} {x : X} {f : E} → ◌≡◌ {A = Result X E} (Ok x) (Err f) → P
never_err e = absurd cc

pub accepted_ok : {T : Type 0} {n m : Numbers} {asked : AskedTexts} {q : FilteredQuery} → n ≡ m
    → AreAcceptedIn n asked q → (r : Result T RunFault)
    → OnOk r ((q : FilteredQuery) × AreAcceptedIn m asked q)
accepted_ok {asked = asked} {q = q} same accepted (Ok x) =
    (q, subst (λ n. AreAcceptedIn n asked q) same accepted)
accepted_ok same accepted (Err f) = tt

-- what is said of all texts that are accepted with these numbers
pub asked_so : {n m : Numbers} {asked : AskedTexts} {q : FilteredQuery} {P : AskedTexts → Type 0} → n ≡ m
    → AreAcceptedIn n asked q → ((asked : AskedTexts) → AreAcceptedIn m asked q → P asked) → P asked
asked_so {asked = asked} {q = q} same accepted said =
    said asked (subst (λ n. AreAcceptedIn n asked q) same accepted)

-- a run that has written nothing has written a front
pub none_written : {T : Type 0} (going : Manner) (asked : AskedTexts) (r : Result T RunFault)
    (known sink : Option (List ℕ)) → OnErr r (IfSome known (λ input. (b : Answer)
    → IsAnswerBy going asked input b → AppendsFront sink sink b.bytes))
none_written going asked (Ok x) known sink = tt
none_written going asked (Err f) None sink = tt
none_written going asked (Err f) (Some input) sink = λ b is. (0, omega arith, Appends-nil sink)

module _ (going : Manner) (asked : AskedTexts) (q : FilteredQuery)
    (accepted : AreAcceptedIn going.policy.numbers asked q) where
  -- the answer that was handed out is that to the text
  pub answer_known : (stop : Option (ℕ × DocFault)) (known s u : Option (List ℕ))
      → IfSome known (λ input. Handed going q (documents going.numbering input) stop s u)
      → IfSome known (λ input. (a : Answer) × IsAnswerBy going asked input a × (a.stopped ≡ stop)
      × Appends s u a.bytes)
  answer_known stop None s u h = tt
  answer_known stop (Some input) s u h = (h.whole, (q, accepted, h.is), h.stopped, h.appended)

  pub answer_ok : {T : Type 0} (r : Result T RunFault) (known s u : Option (List ℕ))
      → OnOk r (IfSome known (λ input. Handed going q (documents going.numbering input) None s u))
      → OnOk r (IfSome known (λ input. (a : Answer) × IsAnswerBy going asked input a × (a.stopped ≡ None)
      × Appends s u a.bytes))
  answer_ok (Ok x) known s u h = answer_known None known s u h
  answer_ok (Err f) known s u h = tt

  pub answer_wrote : (r : Result Totals RunFault) (known s u : Option (List ℕ))
      → OnOk r (IfSome known (λ input. Handed going q (documents going.numbering input) None s u))
      → IfOk r (λ totals. IfSome known (λ input. HasBytes going q (documents going.numbering input)
      totals.wrote))
      → IfOk r (λ totals. IfSome known (λ input. (a : Answer) × IsAnswerBy going asked input a
      × (totals.wrote ≡ counted 0 (length a.bytes))))
  answer_wrote (Ok totals) None s u h k = tt
  answer_wrote (Ok totals) (Some input) s u h k = (
    h.whole,
    (q, accepted, h.is),
    k right_tests.0 right_tests.1
        ∙ ap (λ (a : Answer). counted 0 (length a.bytes)) (h.is right_tests.0 right_tests.1),
  )
  answer_wrote (Err f) known s u h k = tt

  answer_is : (input : List ℕ) (b : Answer) → IsAnswerBy going asked input b
      → answer_by going.form going.policy right_tests.0 q (documents going.numbering input) ≡ b
  answer_is input b h =
      let same : q ≡ h.0 = one_asked going.policy.numbers asked q h.0 accepted h.1 in
      ap (λ q. answer_by going.form going.policy right_tests.0 q (documents going.numbering input)) same
      ∙ h.2 right_tests.0
      right_tests.1

  front_known : (known s u : Option (List ℕ))
      → IfSome known (λ input. HandedFront going q (documents going.numbering input) s u)
      → IfSome known (λ input. (b : Answer) → IsAnswerBy going asked input b → AppendsFront s u b.bytes)
  front_known None s u h = tt
  front_known (Some input) s u h = λ b is. subst (λ (b : Answer). AppendsFront s u b.bytes)
      (answer_is input b is) (h right_tests.0 right_tests.1)

  pub front_err : {T : Type 0} (r : Result T RunFault) (e : Ends) → IfErr r (StreamEnded going q e)
      → OnErr r (IfSome e.source_old (λ input. (b : Answer) → IsAnswerBy going asked input b
      → AppendsFront e.sink_old e.sink_new b.bytes))
  front_err (Ok x) e h = tt
  front_err (Err f) e h = front_known e.source_old e.sink_old e.sink_new (ended_front going q e f h)

  -- what is promised of each read is promised of the text
  pub prompt_by : (input sink : Option (List ℕ)) (a b : Option (List Begun))
      → AllSince a b (BeginsPrompt going q input sink) → AllSince a b (IsPrompt going asked input sink)
  prompt_by input sink = since_so (BeginsPrompt going q input sink) (IsPrompt going asked input sink)
      (λ begun h not. let k = h not in (k.0, k.1, (q, accepted, k.2), k.3))

  pub near_by : (most : ℕ) (input sink : Option (List ℕ)) (a b : Option (List Begun))
      → AllSince a b (BeginsNear most going q input sink)
      → AllSince a b (IsNear most going asked input sink)
  near_by most input sink = since_so (BeginsNear most going q input sink)
      (IsNear most going asked input sink) (λ begun h. (h.0, h.1, h.2, h.3, (q, accepted, h.4)))

-- what is done in a form is done by the settings that name it
pub ran_in : {R G S K : Type 0} {source : supply.Ghosts S} {k : sink.Ghosts K} {job : Job R G} {a b : S}
    {u w : K} {r : Result Totals RunFault} (named : Output) → job.settings.output ≡ named
    → HasRun (manner (numbering_of job.settings) (form_of named (layout_of job.settings))
    (policy job.settings.numbers job.settings.on_fault)) source k job a b u w r
    → HasRun (manner_of job.settings) source k job a b u w r
ran_in {source = source} {k = k} {job = job} {a = a} {b = b} {u = u} {w = w} {r = r} named is =
    subst (λ (o : Output). HasRun (manner (numbering_of job.settings) (form_of o (layout_of job.settings))
    (policy job.settings.numbers job.settings.on_fault)) source k job a b u w r) (sym is)

-- a run that a fault has ended
module _ {R G S K : Type 0} {going : Manner} {source : supply.Ghosts S} {k : sink.Ghosts K} {job : Job R G}
    {a b : S} {u w : K} where
  pub not_run : (f : RunFault) {r : Result Totals RunFault} → IsErrAnd r (λ e. e ≡ f)
      → StreamEnded going (job_query job) (record {
        source_old = source.remaining a;
        source_new = source.remaining b;
        reads_old = source.reads a;
        reads_new = source.reads b;
        source_failed = source.failed b;
        sink_old = k.contents u;
        sink_new = k.contents w;
        sink_failed = k.failed w;
      }) f
      → IsPassedOn (k.flushed w) (k.failed w)
      → AllSince (source.begun a) (source.begun b) (BeginsPrompt going (job_query job)
      (source.remaining a) (k.contents u))
      → AllSince (source.begun a) (source.begun b) (BeginsNear window_bytes going
      (job_query job) (source.remaining a) (k.contents u))
      → source.reads b ≤ source.reads a + max_reads → HasRun going source k job a b u w r
  not_run f {r = Ok x} e ended passed_on prompt window few = absurd e
  not_run f {r = Err y} e ended passed_on prompt window few = record {
    handed = tt;
    counts = tt;
    passed = tt;
    none_passed = λ off. tt;
    wrote = tt;
    few_lines = tt;
    end = tt;
    flushed = tt;
    still_working = tt;
    passed_on = λ flushed. passed_on;
    fault = subst (StreamEnded going (job_query job) _) (sym e) ended;
    prompt = prompt;
    window = window;
    few = few;
  }

-- no text is told to be refused by a run
never_refused : {T : Type 0} (going : Manner) (q : FilteredQuery) (e : Ends) (r : Result T RunFault)
    → IfErr r (StreamEnded going q e) → (f : RunFault) → IsErrOf r f → status_of f ≡ 2 → ⊥
never_refused going q e r h (Query f) is two = at_fault r (Query f) (StreamEnded going q e) is h
never_refused going q e r h (Filter f) is two = at_fault r (Filter f) (StreamEnded going q e) is h
never_refused going q e r h (Document line fault) is two = absurd (omega arith)
never_refused going q e r h Read is two = absurd (omega arith)
never_refused going q e r h Write is two = absurd (omega arith)
never_refused going q e r h Limit is two = absurd (omega arith)
never_refused going q e r h Memory is two = absurd (omega arith)
never_refused going q e r h Settings is two = absurd (omega arith)

-- what was run of a job is a run of texts that are accepted and spell what it asks
pub run_of : {R G S K : Type 0} {source : supply.Ghosts S} {k : sink.Ghosts K} {job : Job R G} {a b : S}
    {u w : K} {r : Result Totals RunFault} (asked : AskedTexts)
    → AreAcceptedIn job.settings.numbers asked (job_query job)
    → HasRun (manner_of job.settings) source k job a b u w r
    → IsRunOf asked job.settings source k a b u w r
run_of {source = source} {k = k} {job = job} {a = a} {b = b} {u = u} {w = w} {r = r} asked accepted ran =
    let going : Manner = manner_of job.settings in
    let q : FilteredQuery = job_query job in
    record {
      answer = answer_ok going asked q accepted r _ _ _ ran.handed;
      counts = ran.counts;
      faulty = ran.passed;
      none_passed = ran.none_passed;
      wrote = answer_wrote going asked q accepted r _ _ _ ran.handed ran.wrote;
      few_lines = ran.few_lines;
      end = ran.end;
      flushed = ran.flushed;
      still_working = ran.still_working;
      passed_on = ran.passed_on;
      document = λ line fault e. answer_known going asked q accepted _ _ _ _
          (at_fault r (Document line fault) _ e ran.fault).0;
      goes_on = λ on line fault e. not_going _ on (at_fault r (Document line fault) _ e ran.fault).1;
      prompt = prompt_by going asked q accepted _ _ _ _ ran.prompt;
      window = near_by going asked q accepted _ _ _ _ _ ran.window;
      read = λ e. let h = at_fault r Read _ e ran.fault in (h.0, h.1, h.2, (q, accepted, h.3));
      write = λ e. (at_fault r Write _ e ran.fault).0;
      limit = λ e. (at_fault r Limit _ e ran.fault).0;
      taken = never_refused going q _ r ran.fault;
      settings_fine = λ e. at_fault r Settings _ e ran.fault;
      front = front_err going asked q accepted r _ ran.fault;
      few = ran.few;
    }

-- want of memory before anything was done
pub not_begun : {S K : Type 0} {source : supply.Ghosts S} {k : sink.Ghosts K} {a : S} {u : K}
    {r : Result Totals RunFault} (asked : AskedTexts) (s : settings.Settings) → IsErrAnd r (λ e. e ≡ Memory)
    → IsRunOf asked s source k a a u u r
not_begun {r = Ok x} asked s e = absurd e
not_begun {source = source} {k = k} {a = a} {u = u} {r = Err f} asked s e =
    subst (λ f. IsRunOf asked s source k a a u u (Err f)) (sym e) (record {
      answer = tt;
      counts = tt;
      faulty = tt;
      none_passed = λ off. tt;
      wrote = tt;
      few_lines = tt;
      end = tt;
      flushed = tt;
      still_working = tt;
      passed_on = λ flushed. inl flushed;
      document = λ line fault is. absurd cc;
      goes_on = λ on line fault is. cc;
      prompt = none_yet _ _ _ refl;
      window = none_yet _ _ _ refl;
      read = λ is. absurd cc;
      write = λ is. absurd cc;
      limit = λ is. absurd cc;
      taken = λ f is two. let same : Memory ≡ f = cc in
          let five : 5 ≡ status_of f = ap status_of same in omega (arith, two, five);
      settings_fine = λ is. cc;
      front = none_written {T = Totals} (manner_of s) asked (Err Memory) _ _;
      few = omega arith;
    })
