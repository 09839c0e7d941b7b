use Rattle.std.proofs.Common.{◌∙◌, ◌++◌, ap, refl, subst, sym}
use Rattle.std.specs.Prelude.{string_bytes}
use Rattle.std.specs.Str.{chars}
use Rattle.clap.specs.Walk.{texts}
use Rattle.jp_program.specs.Split.{question}
use Rattle.jp_program.specs.inner.Invocation.{IsAsked}
use Rattle.jp_program.proofs.Noted.{refused_in}
use Rattle.jp_program.proofs.OneWish.{asked_is, not_shown, verdict_so}
use Rattle.jp_program.proofs.Splits.{explained}
use Rattle.jp_program.proofs.advice.explanation.Goals as goal

pub returns-in_ok-with_question-in-Query : goal.returns-in_ok-with_question-in-Query
returns-in_ok-with_question-in-Query c = λ f w wants v.
    let same = asked_is _ _ _ w c.in-Query.is c.in_ok-wanted.ensures.asked wants in
    explained _ w (sym same) c.in-Some.lines c.in_ok-with_question-in-Query.field-0
    (rw c.in-Some.is at c.in_ok-lines-in-Query.ensures.shown)
    (c.in_ok-with_question-in-Query.ensures
    ∙ ap (λ files. string_bytes c.in-Some.lines ++ question (chars c.in-Query.wanted.query.now) (texts files))
    c.as_slice-files.ensures.value)

pub returns-in_default : goal.returns-in_default
returns-in_default c = λ f w wants v.
    let told = verdict_so _ _ _ w f c.in-Query.is c.in_ok-wanted.ensures.asked wants v in
    refused_in _ _ _ f refl told
    (rw c.in_default.is at c.in_ok-lines-in-Query.ensures.accepted)

pub returns-in-Show : goal.returns-in-Show
returns-in-Show c = λ f w wants v. not_shown _ w wants
    (subst (IsAsked _) c.in-Show.is c.in_ok-wanted.ensures.asked)
