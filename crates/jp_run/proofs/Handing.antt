-- Answers that are handed out one after another.
use Rattle.std.proofs.Common.{◌≡◌, ℕ, ◌+◌, Bool, true, false, inl, inr, List, [], ◌++◌, length, take}
use Rattle.std.proofs.Common.{Option, Some, IfOk}
use Rattle.std.proofs.Common.{None, Result, Ok, Err, IfErr, OnOk, IsErrAnd, refl, sym, ◌∙◌, ap, subst, arith}
use Rattle.std.proofs.Common.{append-nil, length-append}
use Rattle.std.proofs.Math.Seq.{take-length, take-append-add}
use Rattle.std.proofs.lemmas.List.{take-append-le}
use Rattle.std.specs.Io.KnownBytes.{Appends}
use Rattle.std.proofs.KnownBytes.{Appends-nil, Appends-trans}
use Rattle.jp_doc.specs.Lines.{Line}
use Rattle.jp_doc.specs.declared.fault.DocFault.{DocFault}
use Rattle.jp_answer.specs.FilteredQuery.{FilteredQuery}
use Rattle.jp_pattern.specs.Tests.{Tests, AreRight}
use Rattle.jp_answer.specs.Answer.{Answer, answer_by, joined, nothing, unless_stopped}
use Rattle.jp_answer.specs.Blocks.{IsAnswerTo}
use Rattle.jp_answer.specs.declared.outcome.Outcome.{Outcome}
use Rattle.jp_answer.specs.declared.policy.LinePolicy.{LinePolicy}
use Rattle.jp_output.specs.OutputForm.{OutputForm}
use Rattle.jp_output.specs.declared.layout.Layout.{Layout}
use Rattle.jp_answer.proofs.OnFaults.{formed_joined, nothing_in}
use Rattle.jp_run.specs.Manner.{Manner}
use Rattle.jp_run.specs.declared.fault.RunFault.{RunFault}
use Rattle.jp_run.specs.declared.fault.RunFault.TheVariants.{Query, Filter, Document, Read, Write, Limit}
use Rattle.jp_run.specs.declared.fault.RunFault.TheVariants.{Memory, Settings}
use Rattle.jp_run.specs.inner.Ended.{HandingEnded, AnswerEnded}
use Rattle.jp_run.specs.Handed.{Handed, HandedFront}
use Rattle.jp_run.specs.Written.{AppendsFront, IsPassedOn}

-- what is told by a call that passes on a fault
pub told : {T : Type 0} (r : Result T RunFault) (fault : RunFault) (P : RunFault → Type 0)
    → IsErrAnd r (λ e. e ≡ fault) → P fault → IfErr r P
told (Ok x) fault P h p = tt
told (Err f) fault P h p = subst P (sym h) p

-- another fact of the same fault
pub told_so : {T : Type 0} (r : Result T RunFault) (P R : RunFault → Type 0) → ((f : RunFault) → P f → R f)
    → IfErr r P → IfErr r R
told_so (Ok x) P R h p = tt
told_so (Err f) P R h p = h f p

pub ok_so : {T E : Type 0} (r : Result T E) (P R : T → Type 0) → ((x : T) → P x → R x) → IfOk r P → IfOk r R
ok_so (Ok x) P R h p = h x p
ok_so (Err f) P R h p = tt

-- what a call says that has returned this
pub from_ok : {T E : Type 0} (r : Result T E) (x : T) (P : T → Type 0) → r ≡ Ok x → IfOk r P → P x
from_ok (Ok y) x P e h = let same : y ≡ x = cc in subst P same h
from_ok (Err f) x P e h = absurd (cc)

pub on_ok : {T E P : Type 0} (r : Result T E) (x : T) → r ≡ Ok x → OnOk r P → P
on_ok (Ok y) x e h = h
on_ok (Err f) x e h = absurd (cc)

-- a fact that holds anyway
pub at_ok : {T E P : Type 0} (r : Result T E) → P → OnOk r P
at_ok (Ok x) p = p
at_ok (Err f) p = tt

pub both_ok : {T E P Q R : Type 0} (r : Result T E) → (P → Q → R) → OnOk r P → OnOk r Q → OnOk r R
both_ok (Ok x) h p q = h p q
both_ok (Err f) h p q = tt

pub also_ok : {T E P : Type 0} (R : Type 0) (r : Result T E) → P → OnOk r R → OnOk r (P × R)
also_ok R (Ok x) p h = (p, h)
also_ok R (Err f) p h = tt

-- what holds nothing back, and has not failed, was flushed
pub is_flushed : (flushed failed : Bool) → IsPassedOn flushed failed → failed ≡ false → flushed ≡ true
is_flushed flushed failed (inl h) e = h
is_flushed flushed failed (inr h) e = absurd (cc)

pub front_of_all : (old new : Option (List ℕ)) (bytes : List ℕ) → Appends old new bytes
    → AppendsFront old new bytes
front_of_all old new bytes h = (
  length bytes,
  omega arith,
  subst (Appends old new) (sym (take-length bytes))
      h,
)

pub front_longer : (old new : Option (List ℕ)) (xs more bytes : List ℕ) → bytes ≡ xs ++ more
    → AppendsFront old new xs → AppendsFront old new bytes
front_longer old new xs more bytes e h = (
  h.0,
  omega (arith, ap length e, length-append xs more, h.1),
  subst (Appends old new) (sym (ap (take h.0) e ∙ take-append-le h.0 xs more h.1)) h.2,
)

bytes_by : (stop : Option (ℕ × DocFault)) (a b : Answer) → (more : List ℕ)
    × ((unless_stopped stop a b).bytes ≡ a.bytes ++ more)
bytes_by None a b = (b.bytes, refl)
bytes_by (Some s) a b = ([], sym (append-nil a.bytes))

module _ (going : Manner) (q : FilteredQuery) where
  pub handed_none : (a : Option (List ℕ)) → Handed going q [] None a a
  handed_none a = record {
    whole = nothing;
    is = λ t right. nothing_in going.form t q going.policy;
    stopped = refl;
    appended = Appends-nil a;
  }

  pub handed_both : (xs ys : List Line) (stop : Option (ℕ × DocFault)) (a b c : Option (List ℕ))
      → Handed going q xs None a b → Handed going q ys stop b c → Handed going q (xs ++ ys) stop a c
  handed_both xs ys stop a b c f g = record {
    whole = unless_stopped None f.whole g.whole;
    is = λ t right. formed_joined going.form t q going.policy xs ys ∙ ap (λ h. joined h (answer_by
        going.form going.policy t q ys)) (f.is t right)
        ∙ ap (joined f.whole) (g.is t right) ∙ ap (λ s. unless_stopped s f.whole g.whole) f.stopped;
    stopped = g.stopped;
    appended = Appends-trans a b c f.whole.bytes g.whole.bytes f.appended g.appended;
  }

  pub handed_stopped : (xs ys : List Line) (s : ℕ × DocFault) (a b : Option (List ℕ))
      → Handed going q xs (Some s) a b → Handed going q (xs ++ ys) (Some s) a b
  handed_stopped xs ys s a b f = record {
    whole = f.whole;
    is = λ t right. formed_joined going.form t q going.policy xs ys ∙ ap (λ h. joined h (answer_by
        going.form going.policy t q ys)) (f.is t right)
        ∙ ap (λ s. unless_stopped s f.whole (answer_by going.form going.policy t q ys)) f.stopped;
    stopped = f.stopped;
    appended = f.appended;
  }

  pub no_front : (ls : List Line) (a : Option (List ℕ)) → HandedFront going q ls a a
  no_front ls a = λ t right. (0, omega arith, Appends-nil a)

  pub handed_front : (ls : List Line) (stop : Option (ℕ × DocFault)) (a b : Option (List ℕ))
      → Handed going q ls stop a b → HandedFront going q ls a b
  handed_front ls stop a b f = λ t right. front_of_all a b (answer_by going.form going.policy t q ls).bytes
      (subst (Appends a b) (sym (ap (λ (h : Answer). h.bytes) (f.is t right))) f.appended)

  pub front_more : (xs ys : List Line) (a b : Option (List ℕ)) → HandedFront going q xs a b
      → HandedFront going q (xs ++ ys) a b
  front_more xs ys a b h = λ t right.
      let parts = bytes_by (answer_by going.form going.policy t q xs).stopped (answer_by going.form
      going.policy t q xs)
      (answer_by going.form going.policy t q ys) in
      front_longer a b (answer_by going.form going.policy t q xs).bytes parts.0 (answer_by going.form
      going.policy t q (xs ++ ys)).bytes
      (ap (λ (h : Answer). h.bytes) (formed_joined going.form t q going.policy xs ys) ∙ parts.1) (h t right)

  pub front_after : (xs ys : List Line) (a b c : Option (List ℕ)) → Handed going q xs None a b
      → HandedFront going q ys b c → HandedFront going q (xs ++ ys) a c
  front_after xs ys a b c f h = λ t right.
      let first : List ℕ = f.whole.bytes in
      let later : List ℕ = (answer_by going.form going.policy t q ys).bytes in
      let whole : (answer_by going.form going.policy t q (xs ++ ys)).bytes ≡ first ++ later =
      ap (λ (h : Answer). h.bytes) (formed_joined going.form t q going.policy xs ys
      ∙ ap (λ h. joined h (answer_by going.form going.policy t q ys)) (f.is t right)
      ∙ ap (λ s. unless_stopped s f.whole (answer_by going.form going.policy t q ys)) f.stopped) in
      let front : AppendsFront b c later = h t right in (
        length first + front.0,
        omega (arith, ap length whole, length-append first later, front.1),
        subst (Appends a c) (sym (ap (take (length first + front.0)) whole
            ∙ take-append-add first later front.0))
            (Appends-trans a b c first (take front.0 later) f.appended front.2),
      )

  -- the same of what stands after a fault
  pub ended_more : (xs ys : List Line) (failed : Bool) (a b : Option (List ℕ)) (f : RunFault)
      → AnswerEnded going q xs failed a b f → AnswerEnded going q (xs ++ ys) failed a b f
  ended_more xs ys failed a b (Document line fault) h = handed_stopped xs ys (line, fault) a b h
  ended_more xs ys failed a b Write h = (h.0, front_more xs ys a b h.1)
  ended_more xs ys failed a b Memory h = front_more xs ys a b h
  ended_more xs ys failed a b (Query fault) h = absurd h
  ended_more xs ys failed a b (Filter fault) h = absurd h
  ended_more xs ys failed a b Read h = absurd h
  ended_more xs ys failed a b Limit h = absurd h
  ended_more xs ys failed a b Settings h = absurd h

  pub ended_after : (xs ys : List Line) (failed : Bool) (a b c : Option (List ℕ)) (f : RunFault)
      → Handed going q xs None a b → AnswerEnded going q ys failed b c f
      → AnswerEnded going q (xs ++ ys) failed a c f
  ended_after xs ys failed a b c (Document line fault) g h = handed_both xs ys (Some (line, fault)) a b c g h
  ended_after xs ys failed a b c Write g h = (h.0, front_after xs ys a b c g h.1)
  ended_after xs ys failed a b c Memory g h = front_after xs ys a b c g h
  ended_after xs ys failed a b c (Query fault) g h = absurd h
  ended_after xs ys failed a b c (Filter fault) g h = absurd h
  ended_after xs ys failed a b c Read g h = absurd h
  ended_after xs ys failed a b c Limit g h = absurd h
  ended_after xs ys failed a b c Settings g h = absurd h

  module _ (ls : List Line) (whole : Answer) (is : (t : Tests) → AreRight t → answer_by going.form
      going.policy t q ls ≡ whole)
      (a b : Option (List ℕ)) where
    pub ended_handing : (failed : Bool) (f : RunFault) → HandingEnded whole failed a b f
        → AnswerEnded going q ls failed a b f
    ended_handing failed (Document line fault) h = record {
      whole = whole;
      is = is;
      stopped = h.0;
      appended = h.1;
    }
    ended_handing failed Write h = (
      h.0,
      λ t right. subst (λ (r : Answer). AppendsFront a b r.bytes) (sym (is t right)) h.1,
    )
    ended_handing failed (Query fault) h = absurd h
    ended_handing failed (Filter fault) h = absurd h
    ended_handing failed Read h = absurd h
    ended_handing failed Limit h = absurd h
    ended_handing failed Memory h = absurd h
    ended_handing failed Settings h = absurd h

    pub handing_done : whole.stopped ≡ None → Appends a b whole.bytes → Handed going q ls None a b
    handing_done h k = record { whole = whole; is = is; stopped = h; appended = k }

-- the answer in a layout, by a policy, and to a query, that are the same
pub in_manner : (form : Layout → OutputForm) (laid wanted : Layout) (done meant : LinePolicy)
    (q r : FilteredQuery) (ls : List Line) (a : Outcome) → laid ≡ wanted → done ≡ meant → q ≡ r
    → IsAnswerTo (form laid) done q ls a → IsAnswerTo (form wanted) meant r ls a
in_manner form laid wanted done meant q r ls a d e f h =
    subst (λ (b : Layout). IsAnswerTo (form b) meant r ls a) d
    (subst (λ (k : LinePolicy). IsAnswerTo (form laid) k r ls a) e
    (subst (λ (x : FilteredQuery). IsAnswerTo (form laid) done x ls a) f h))
