-- What is told of a run over an input: of one that writes, and of one that counts.
use Rattle.std.proofs.Common.{◌≡◌, ◌∙◌, ℕ, ◌⊎◌, inl, inr, Bool, true, false, List, Option, Some, None}
use Rattle.std.proofs.Common.{IfSome, Result, Ok, Err, IfOk, IsErrAnd, OnOk, OnErr, if◌then◌else◌, length}
use Rattle.std.proofs.Common.{[], ap, arith, subst, sym, refl}
use Rattle.std.proofs.KnownBytes.{Appends-nil, Keeps-refl}
use Rattle.std.specs.Io.KnownBytes.{Appends}
use Rattle.clap.specs.Walk.{Text}
use Rattle.jp_doc.specs.declared.fault.DocFault.{DocFault}
use Rattle.jp_answer.specs.Answer.{Answer}
use Rattle.jp_answer.specs.Policy.{passed_in}
use Rattle.jp_run.specs.AskedTexts.{AskedTexts}
use Rattle.jp_run.specs.Answered.{IsAnswerBy}
use Rattle.jp_run.specs.Counts.{counted}
use Rattle.jp_run.specs.Cutting.{documents, documents_in}
use Rattle.jp_run.specs.Manner.{Manner}
use Rattle.jp_run.specs.Status.{status_of}
use Rattle.jp_run.specs.Written.{AppendsFront}
use Rattle.jp_run.specs.declared.ends.Sink as sink
use Rattle.jp_run.specs.declared.ends.Supply as supply
use Rattle.jp_run.specs.declared.fault.RunFault.{RunFault}
use Rattle.jp_run.specs.declared.fault.RunFault.TheVariants.{Document, Memory, Settings, Write}
use Rattle.jp_run.specs.declared.running.Totals.{Totals}
use Rattle.jp_run.proofs.Handing.{at_ok}
use Rattle.jp_program.specs.inner.Ended.{RunEnded}
use Rattle.jp_program.specs.inner.Turn.{HasTurned, IsRunFor}
use Rattle.jp_program.specs.Inputs.{Input, Sunk}
use Rattle.jp_program.specs.Outcome.{IsFront, IsHanded, IsTaken, Left, asked_in, count_line, count_of}
use Rattle.jp_program.specs.Outcome.{head_of}
use Rattle.jp_program.specs.Outcome.{manner_for, told}
use Rattle.jp_program.specs.Wanted.{Wanted}
use Rattle.jp_program.proofs.Manners.{CutBy, FrontBy, LimitBy, ToldBy, WroteBy}
use Rattle.jp_program.proofs.Ran.{finished_ok, nothing_ok, one_answer, passes_ok, run_ended, something_ok}
use Rattle.jp_program.proofs.Told.{IsToldIn, front_none}

-- where nodes are not counted an answer is told by its bytes
module _ (w : Wanted) (off : w.counts ≡ false) where
  plain : (name : Text) (a : Answer) → told w name a ≡ a.bytes
  plain name a = ap (λ b. if b then count_of (head_of w name) a.stopped a.bytes else a.bytes) off

  told_plain : (stopped : Option (ℕ × DocFault)) (input : Input) (old new : Sunk)
      → ToldBy (manner_for w input.0 w.on_fault) (asked_in w) stopped input.1 old new
      → IsToldIn w.on_fault w stopped input old new
  told_plain stopped (name, None) old new h = tt
  told_plain stopped (name, Some bytes) old new h =
      (h.0, h.1, h.2, subst (Appends old new) (sym (plain name h.0)) h.3)

  front_plain : (input : Input) (old new : Sunk)
      → FrontBy (manner_for w input.0 w.on_fault) (asked_in w) input.1 old new → IsFront w input old new
  front_plain (name, None) old new h = tt
  front_plain (name, Some bytes) old new h =
      λ a is. subst (AppendsFront old new) (sym (plain name a)) (h a is)

  told_ok : {T : Type 0} (r : Result T RunFault) (input : Input) (old new : Sunk)
      → OnOk r (ToldBy (manner_for w input.0 w.on_fault) (asked_in w) None input.1 old new)
      → OnOk r (IsToldIn w.on_fault w None input old new)
  told_ok (Ok x) input old new h = told_plain None input old new h
  told_ok (Err f) input old new h = tt

  front_err : {T : Type 0} (r : Result T RunFault) (input : Input) (old new : Sunk)
      → OnErr r (FrontBy (manner_for w input.0 w.on_fault) (asked_in w) input.1 old new)
      → OnErr r (IsFront w input old new)
  front_err (Ok x) input old new h = tt
  front_err (Err f) input old new h = front_plain input old new h

  -- so it is of a run into the sink itself
  pub turned_plain : {S K : Type 0} (source : supply.Ghosts S) (k : sink.Ghosts K) (name : Text) (a b : S)
      (u v : K) (r : Result Totals RunFault) → IsTaken w → IsRunFor w name source k a b u v r
      → HasTurned w (record {
        rest = source.remaining b;
        reads = source.reads a;
        reads_new = source.reads b;
        source_failed = source.failed b;
        sink_failed = k.failed v;
      }) (name, source.remaining a) (k.contents u) (k.contents v) (k.flushed v) r
  turned_plain source k name a b u v r taken h =
      let asked : AskedTexts = asked_in w in
      let input : Input = (name, source.remaining a) in
      let old : Sunk = k.contents u in
      let new : Sunk = k.contents v in
      let is = h.manner in
      let ran = h.ran in
      let e : Left = record {
        rest = source.remaining b;
        reads = source.reads a;
        reads_new = source.reads b;
        source_failed = source.failed b;
        sink_failed = k.failed v;
      } in
      let answer = told_ok r input old new
      (subst (λ (m : Manner). OnOk r (ToldBy m asked None input.1 old new)) is ran.answer) in
      let faulty = subst (λ (m : Manner). IfOk r (λ totals. IfSome input.1 (λ bytes. totals.faulty
      ≡ passed_in m.policy (documents m.numbering bytes)))) is ran.faulty in
      let wrote = subst (λ (m : Manner). IfOk r (λ totals. WroteBy m asked input.1 totals.wrote)) is ran.wrote
      in
      record {
        taken = at_ok r taken;
        whole = answer;
        finished = finished_ok w input old new r answer faulty;
        passes = λ on. passes_ok w input old new on r answer faulty;
        none_passed = λ off. ran.none_passed (h.on_fault ∙ off);
        nothing = nothing_ok w input r wrote;
        something = something_ok w input r wrote;
        end = ran.end;
        flushed = ran.flushed;
        still_working = ran.still_working;
        goes_on = λ on. ran.goes_on (h.on_fault ∙ on);
        query = ran.taken;
        settings = ran.settings_fine;
        fault = run_ended w e input old new r
            (λ f said two. absurd (ran.taken f said two))
            (λ on. ran.goes_on (h.on_fault ∙ on))
            (λ line fault said. told_plain (Some (line, fault)) input old new
            (subst (λ (m : Manner). ToldBy m asked (Some (line, fault)) input.1 old new) is
            (ran.document line fault said)))
            (λ said.
            let cut = subst (λ (m : Manner). CutBy m asked e.source_failed input.1 e.rest old new) is
            (ran.read said) in (
              cut.0,
              cut.1,
              cut.2,
              subst (λ c. IsHanded c (manner_for w name w.on_fault) asked
                  (documents_in (manner_for w name w.on_fault).numbering cut.1) old new) (sym off) cut.3,
            ))
            ran.write
            (λ said. subst (λ (m : Manner). LimitBy m e.reads e.reads_new input.1 e.rest) is (ran.limit said))
            ran.settings_fine
            (front_err r input old new
            (subst (λ (m : Manner). OnErr r (FrontBy m asked input.1 old new)) is ran.front));
      }

-- where they are counted it is told by how many they are
module _ (w : Wanted) (on : w.counts ≡ true) where
  by_count : (name : Text) (a : Answer) → told w name a ≡ count_of (head_of w name) a.stopped a.bytes
  by_count name a = ap (λ b. if b then count_of (head_of w name) a.stopped a.bytes else a.bytes) on

  whole_count : (name : Text) (a : Answer) → a.stopped ≡ None
      → told w name a ≡ count_line (head_of w name) (counted 0 (length a.bytes))
  whole_count name a whole = by_count name a ∙ ap (λ s. count_of (head_of w name) s a.bytes) whole

  no_count : (name : Text) (a : Answer) (stop : ℕ × DocFault) → a.stopped ≡ Some stop → told w name a ≡ []
  no_count name a stop is = by_count name a ∙ ap (λ s. count_of (head_of w name) s a.bytes) is

  module _ {S K : Type 0} (source : supply.Ghosts S) (k : sink.Ghosts K) (name : Text) (a b : S) (u v : K)
    where
      abbrev rest : Sunk
      rest = source.remaining a

      -- the answer, and how many bytes it has
      abbrev pub IsCounted : ℕ → Type 0
      IsCounted n = IfSome rest (λ bytes. (x : Answer)
          × IsAnswerBy (manner_for w name w.on_fault) (asked_in w) bytes x × (x.stopped ≡ None)
          × (n ≡ counted 0 (length x.bytes)))

      counted_by : (m : Manner) (input : Option (List ℕ)) (old new : Sunk) (n : ℕ)
          → ToldBy m (asked_in w) None input old new → WroteBy m (asked_in w) input n
          → IfSome input (λ bytes. (x : Answer) × IsAnswerBy m (asked_in w) bytes x × (x.stopped ≡ None)
          × (n ≡ counted 0 (length x.bytes)))
      counted_by m None old new n h k = tt
      counted_by m (Some bytes) old new n h k =
          let same : k.0 ≡ h.0 = one_answer m (asked_in w) bytes k.0 h.0 k.1 h.1 in
          (h.0, h.1, h.2, k.2 ∙ ap (λ (x : Answer). counted 0 (length x.bytes)) same)

      pub run_counted : (totals : Totals) → IsRunFor w name source k a b u v (Ok totals)
          → IsCounted totals.wrote
      run_counted totals h = counted_by (manner_for w name w.on_fault) rest (k.contents u) (k.contents v)
          totals.wrote
          (subst (λ (m : Manner). ToldBy m (asked_in w) None rest (k.contents u) (k.contents v)) h.manner
          h.ran.answer)
          (subst (λ (m : Manner). WroteBy m (asked_in w) rest totals.wrote) h.manner h.ran.wrote)

  -- the line with the count is what is told, and a front of it a front
  told_count : (input : Input) (old new : Sunk) (n : ℕ)
      → IfSome input.1 (λ bytes. (x : Answer)
      × IsAnswerBy (manner_for w input.0 w.on_fault) (asked_in w) bytes x × (x.stopped ≡ None)
      × (n ≡ counted 0 (length x.bytes)))
      → Appends old new (count_line (head_of w input.0) n) → IsToldIn w.on_fault w None input old new
  told_count (name, None) old new n h wrote = tt
  told_count (name, Some bytes) old new n h wrote = (
    h.0,
    h.1,
    h.2,
    subst (Appends old new) (ap (count_line (head_of w name)) h.3 ∙ sym (whole_count name h.0 h.2)) wrote,
  )

  -- nothing of an answer that has stopped
  stopped_count : (stop : ℕ × DocFault) (input : Input) (sunk old new : Sunk)
      → ToldBy (manner_for w input.0 w.on_fault) (asked_in w) (Some stop) input.1 old new
      → IsToldIn w.on_fault w (Some stop) input sunk sunk
  stopped_count stop (name, None) sunk old new h = tt
  stopped_count stop (name, Some bytes) sunk old new h =
      (h.0, h.1, h.2, subst (Appends sunk sunk) (sym (no_count name h.0 stop h.2)) (Appends-nil sunk))

  front_count : (input : Input) (old new : Sunk) (n : ℕ)
      → IfSome input.1 (λ bytes. (x : Answer)
      × IsAnswerBy (manner_for w input.0 w.on_fault) (asked_in w) bytes x × (x.stopped ≡ None)
      × (n ≡ counted 0 (length x.bytes)))
      → AppendsFront old new (count_line (head_of w input.0) n) → IsFront w input old new
  front_count (name, None) old new n h wrote = tt
  front_count (name, Some bytes) old new n h wrote = λ x is.
      let same : h.0 ≡ x = one_answer (manner_for w name w.on_fault) (asked_in w) bytes h.0 x h.1 is in
      subst (AppendsFront old new) (ap (count_line (head_of w name)) h.3 ∙ sym (whole_count name h.0 h.2)
      ∙ ap (told w name) same) wrote

err_same : (f g : RunFault) → ◌≡◌ {A = Result Totals RunFault} (Err f) (Err g) → status_of f ≡ status_of g
err_same f g e = let same : f ≡ g = cc in ap status_of same

-- a run that counts, into one sink, and the line with its count, into another
module _ (w : Wanted) (on : w.counts ≡ true) {S C K : Type 0} (source : supply.Ghosts S) (c : sink.Ghosts C)
    (k : sink.Ghosts K) (name : Text) (a b : S) (u v : C) where
  -- the count was written
  pub turned_count : (x y : K) (totals : Totals) → IsTaken w → IsRunFor w name source c a b u v (Ok totals)
      → Appends (k.contents x) (k.contents y) (count_line (head_of w name) totals.wrote)
      → k.flushed y ≡ true → k.failed y ≡ false → HasTurned w (record {
        rest = source.remaining b;
        reads = source.reads a;
        reads_new = source.reads b;
        source_failed = source.failed b;
        sink_failed = k.failed y;
      }) (name, source.remaining a) (k.contents x) (k.contents y) (k.flushed y) (Ok totals)
  turned_count x y totals taken h wrote flushed working =
      let input : Input = (name, source.remaining a) in
      let old : Sunk = k.contents x in
      let new : Sunk = k.contents y in
      let ran = h.ran in
      let answer : IsToldIn w.on_fault w None input old new = told_count w on input old new totals.wrote
      (run_counted w on source c name a b u v totals h) wrote in
      let faulty = subst (λ (m : Manner). IfSome input.1 (λ bytes. totals.faulty
      ≡ passed_in m.policy (documents m.numbering bytes))) h.manner ran.faulty in
      let bytes = subst (λ (m : Manner). WroteBy m (asked_in w) input.1 totals.wrote) h.manner ran.wrote in
      record {
        taken = taken;
        whole = answer;
        finished = finished_ok w input old new (Ok totals) answer faulty;
        passes = λ going. passes_ok w input old new going (Ok totals) answer faulty;
        none_passed = λ off. ran.none_passed (h.on_fault ∙ off);
        nothing = nothing_ok w input (Ok totals) bytes;
        something = something_ok w input (Ok totals) bytes;
        end = ran.end;
        flushed = flushed;
        still_working = (ran.still_working.0, working);
        goes_on = λ going. ran.goes_on (h.on_fault ∙ going);
        query = ran.taken;
        settings = ran.settings_fine;
        fault = tt;
      }

  -- the run has failed, and nothing was written
  pub turned_fault : (x : K) (f : RunFault) → IsRunFor w name source c a b u v (Err f) → c.failed v ≡ false
      → HasTurned w (record {
        rest = source.remaining b;
        reads = source.reads a;
        reads_new = source.reads b;
        source_failed = source.failed b;
        sink_failed = k.failed x;
      }) (name, source.remaining a) (k.contents x) (k.contents x) (k.flushed x) (Err f)
  turned_fault x f h working =
      let asked : AskedTexts = asked_in w in
      let input : Input = (name, source.remaining a) in
      let old : Sunk = k.contents x in
      let is = h.manner in
      let ran = h.ran in
      let e : Left = record {
        rest = source.remaining b;
        reads = source.reads a;
        reads_new = source.reads b;
        source_failed = source.failed b;
        sink_failed = k.failed x;
      } in
      record {
        taken = tt;
        whole = tt;
        finished = tt;
        passes = λ going. tt;
        none_passed = λ off. tt;
        nothing = tt;
        something = tt;
        end = tt;
        flushed = tt;
        still_working = tt;
        goes_on = λ going. ran.goes_on (h.on_fault ∙ going);
        query = ran.taken;
        settings = ran.settings_fine;
        fault = run_ended w e input old old (Err f)
            (λ g said two. absurd (ran.taken g said two))
            (λ going. ran.goes_on (h.on_fault ∙ going))
            (λ line fault said. stopped_count w on (line, fault) input old (c.contents u) (c.contents v)
            (subst (λ (m : Manner). ToldBy m asked (Some (line, fault)) input.1 (c.contents u)
            (c.contents v)) is
            (ran.document line fault said)))
            (λ said.
            let cut = subst (λ (m : Manner). CutBy m asked e.source_failed input.1 e.rest (c.contents u)
            (c.contents v)) is (ran.read said) in (
              cut.0,
              cut.1,
              cut.2,
              subst (λ counts. IsHanded counts (manner_for w name w.on_fault) asked
                  (documents_in (manner_for w name w.on_fault).numbering cut.1) old old) (sym on)
                  (Keeps-refl old),
            ))
            (λ said. absurd (let both : true ≡ false = sym (ran.write said) ∙ working in cc))
            (λ said. subst (λ (m : Manner). LimitBy m e.reads e.reads_new input.1 e.rest) is (ran.limit said))
            ran.settings_fine
            (front_none w input old old refl);
      }

  -- the line could not be made, or not be written
  pub turned_unwritten : (x y : K) (totals : Totals) (f : RunFault)
      → IsRunFor w name source c a b u v (Ok totals)
      → ((f ≡ Memory) × (y ≡ x)) ⊎ ((f ≡ Write) × (k.failed y ≡ true)
      × AppendsFront (k.contents x) (k.contents y) (count_line (head_of w name) totals.wrote))
      → HasTurned w (record {
        rest = source.remaining b;
        reads = source.reads a;
        reads_new = source.reads b;
        source_failed = source.failed b;
        sink_failed = k.failed y;
      }) (name, source.remaining a) (k.contents x) (k.contents y) (k.flushed y) (Err f)
  turned_unwritten x y totals f h (inl (is, same)) =
      let input : Input = (name, source.remaining a) in
      let five : status_of f ≡ 5 = ap status_of is in
      record {
        taken = tt;
        whole = tt;
        finished = tt;
        passes = λ going. tt;
        none_passed = λ off. tt;
        nothing = tt;
        something = tt;
        end = tt;
        flushed = tt;
        still_working = tt;
        goes_on = λ going line fault said. omega (arith, five, err_same f (Document line fault) said);
        query = λ g said two. omega (arith, five, err_same f g said, two);
        settings = λ said. omega (arith, five, err_same f Settings said);
        fault = subst (λ g. RunEnded w (record {
          rest = source.remaining b;
          reads = source.reads a;
          reads_new = source.reads b;
          source_failed = source.failed b;
          sink_failed = k.failed y;
        }) g input (k.contents x) (k.contents y)) (sym is)
            (front_none w input (k.contents x) (k.contents y) (ap k.contents same));
      }
  turned_unwritten x y totals f h (inr (is, failed, front)) =
      let input : Input = (name, source.remaining a) in
      let four : status_of f ≡ 4 = ap status_of is in
      record {
        taken = tt;
        whole = tt;
        finished = tt;
        passes = λ going. tt;
        none_passed = λ off. tt;
        nothing = tt;
        something = tt;
        end = tt;
        flushed = tt;
        still_working = tt;
        goes_on = λ going line fault said. omega (arith, four, err_same f (Document line fault) said);
        query = λ g said two. omega (arith, four, err_same f g said, two);
        settings = λ said. omega (arith, four, err_same f Settings said);
        fault = subst (λ g. RunEnded w (record {
          rest = source.remaining b;
          reads = source.reads a;
          reads_new = source.reads b;
          source_failed = source.failed b;
          sink_failed = k.failed y;
        }) g input (k.contents x) (k.contents y)) (sym is) (
          front_count w on input (k.contents x) (k.contents y) totals.wrote
              (run_counted w on source c name a b u v totals h) front,
          failed,
        );
      }

-- what is told of a call that passes on a fault
pub turned_by : (w : Wanted) (e : Left) (input : Input) (old new : Sunk) (flushed : Bool)
    (r : Result Totals RunFault) (f : RunFault) → IsErrAnd r (λ g. g ≡ f)
    → HasTurned w e input old new flushed (Err f) → HasTurned w e input old new flushed r
turned_by w e input old new flushed (Ok totals) f h k = absurd h
turned_by w e input old new flushed (Err g) f h k =
    subst (λ x. HasTurned w e input old new flushed (Err x)) (sym h) k
