use Rattle.std.proofs.Common.{◌≡◌, ℕ, ◌<◌, List, [], ◌∷◌, map, Bool, Option, Some, None, IfSome, inl, inr}
use Rattle.std.proofs.Common.{arith, ap, subst, sym, codes}
use Rattle.std.specs.Io.KnownBytes.{Appends}
use Rattle.jp_pattern.specs.Tests.{Tests, AreRight}
use Rattle.jp_answer.specs.FilteredQuery.{FilteredQuery}
use Rattle.jp_answer.specs.Answer.{Answer, answer_by}
use Rattle.jp_answer.specs.Policy.{policy}
use Rattle.jp_answer.specs.declared.on_fault.OnFault.{OnFault}
use Rattle.jp_answer.specs.declared.on_fault.OnFault.TheVariants.{KeepGoing}
use Rattle.jp_run.specs.AskedTexts.{AreAcceptedIn}
use Rattle.jp_run.specs.Cutting.{documents}
use Rattle.jp_program.specs.Inputs.{Course, EndsIn, Held, Input, Standing, named, standard}
use Rattle.jp_program.specs.Outcome.{AreFailed, HasFailed, HasGoneOn, IsWholeOrCut, Left, Passes, form_for}
use Rattle.jp_program.specs.Outcome.{asked_in, left_of, numbering_in, told}
use Rattle.jp_program.specs.Wanted.{Wanted}
use Rattle.jp_program.proofs.Ran.{left_alone}
use Rattle.jp_program.proofs.Told.{IsToldIn}
use Rattle.jp_program.proofs.laws.no_file.Goals as goal

pub returns-clause-answered : goal.returns-clause-answered
returns-clause-answered c = λ w holds first old new h. h

pub returns-clause-stopped : goal.returns-clause-stopped
returns-clause-stopped c = λ w stop holds first course h. h

-- no file was passed where none is named
none_gone : (w : Wanted) (failed : Bool) (inputs : List Input) (course : Course) → inputs ≡ []
    → HasGoneOn w failed inputs course → ⊥
none_gone w failed [] course none h =
    let zero : h.0 ≡ 0 = ap (λ (s : Standing). s.1) h.2 in omega (arith, h.1, zero)
none_gone w failed (x ∷ xs) course none h = absurd (cc)

failed_alone : (w : Wanted) (e : Left) (holds : List ℕ → Held) (first : Held) (course : Course)
    → w.files ≡ [] → AreFailed w e holds first course
    → HasFailed w e (standard first) course.contents course.contents_new
failed_alone w e holds first course none (inl h) =
    let same = sym (left_alone w none e) in
    subst (λ l. HasFailed w l (standard first) course.contents course.contents_new) same
    (subst (λ fs. EndsIn (IsWholeOrCut w) (HasFailed w (left_of w e)) fs holds first course) none h)
failed_alone w e holds first course none (inr h) =
    absurd (none_gone w e.source_failed (map (named holds) w.files) course (ap (map (named holds)) none) h)

pub returns-clause-failed : goal.returns-clause-failed
returns-clause-failed c = failed_alone

pub returns-clause-front : goal.returns-clause-front
returns-clause-front c = λ w holds first course h. h

passed_by : (w : Wanted) (first old new : Option (List ℕ)) (n : ℕ) → 0 < n
    → Passes w (standard first) (old, 0) (new, n)
    → IfSome first (λ bytes. (q : FilteredQuery) × AreAcceptedIn w.numbers (asked_in w) q
    × (x : Answer)
    × ((t : Tests) → AreRight t → answer_by (form_for w (codes "-")) (policy w.numbers KeepGoing) t q
    (documents (numbering_in w) bytes) ≡ x) × (0 < x.faulty) × Appends old new (told w (codes "-") x))
passed_by w None old new n some h = tt
passed_by w (Some bytes) old new n some h = (h.0, h.1, h.2, h.3, omega (arith, h.4, some), h.5)

pub returns-clause-passed : goal.returns-clause-passed
returns-clause-passed c = λ w holds first old new h. passed_by w first old new h.0 h.1 h.2

pub returns-clause-whole : goal.returns-clause-whole
returns-clause-whole c = λ w input old new off h.
    subst (λ (g : OnFault). IsToldIn g w None input old new) off h
