use Rattle.std.proofs.Common.{sym, ap, ◌∙◌, rules}
use Rattle.std.specs.Int.{w128}
use mir.Val.{SFits}
use Rattle.std.proofs.lemmas.Int.{to_z-of_z}
use Rattle.jp_value.specs.Functions.{length_value}
use Rattle.jp_eval.specs.inner.Base.{base_of}
use Rattle.jp_eval.specs.inner.Walk.{value_given}
use Rattle.jp_eval.proofs.CompiledParts.{given_length}
use Rattle.jp_eval.proofs.context.Context.given.Goals as goal

pub returns-in-Nothing : goal.returns-in-Nothing
returns-in-Nothing c = λ n.
    let base = base_of c.args.self.now in
    c.in-Nothing.ensures n
    ∙ ap (λ v. length_value (value_given base v n)) c.deref.ensures
    ∙ sym (ap (λ v. value_given base v n) c.in-Length.is ∙ given_length base n c.in-Length.of)

pub returns-in-Number : goal.returns-in-Number
returns-in-Number c = λ n.
    let base = base_of c.args.self.now in
    let f : SFits w128 c.in-Number.number = search rules in
    rw to_z-of_z (c.in-Number.ensures n
    ∙ ap (λ v. length_value (value_given base v n)) c.deref.ensures
    ∙ sym (ap (λ v. value_given base v n) c.in-Length.is ∙ given_length base n c.in-Length.of))
