use Rattle.std.proofs.Common.{sym, ap, ap₂, ◌∙◌}
use Rattle.jp_doc.specs.Location.{node}
use Rattle.jp_node.specs.Part.{part_value}
use Rattle.jp_value.specs.Comparison.{compared}
use Rattle.jp_eval.specs.inner.Base.{base_of}
use Rattle.jp_eval.specs.inner.Walk.{value_given}
use Rattle.jp_eval.proofs.CompiledParts.{given_constant, given_single}
use Rattle.std.proofs.lemmas.Option.{IfSome_then}
use Rattle.std.proofs.lemmas.Result.{IfOk-weaker}
use Rattle.jp_eval.proofs.local.compare.Goals as goal

pub returns-in-Single-Constant : goal.returns-in-Single-Constant
returns-in-Single-Constant c =
    let base = base_of c.args.context.now in
    IfOk-weaker c.compare_found.result _ _ (λ o e. IfSome_then o e (λ b f at.
    let n = node at (part_value c.args.value) in
    f base at ∙ ap₂ (compared c.args.operator)
    (sym (ap (λ v. value_given base v n) c.in-Single-Constant.is-0
    ∙ given_single base n c.in-Single-Constant.nodes))
    (sym (ap (λ v. value_given base v n) c.in-Single-Constant.is-1
    ∙ given_constant base n c.in-Single-Constant.constant)))) c.compare_found.ensures

pub returns-in-Constant-Single : goal.returns-in-Constant-Single
returns-in-Constant-Single c =
    let base = base_of c.args.context.now in
    IfOk-weaker c.compare_found-in-Constant-Single.result _ _ (λ o e. IfSome_then o e (λ b f at.
    let n = node at (part_value c.args.value) in
    f base at ∙ c.turned.ensures _ _ ∙ ap₂ (compared c.args.operator)
    (sym (ap (λ v. value_given base v n) c.in-Constant-Single.is-0
    ∙ given_constant base n c.in-Constant-Single.constant))
    (sym (ap (λ v. value_given base v n) c.in-Constant-Single.is-1
    ∙ given_single base n c.in-Constant-Single.nodes)))) c.compare_found-in-Constant-Single.ensures
