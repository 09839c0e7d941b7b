use Rattle.std.proofs.Common.{◌∙◌, ap, sym, subst, inr, refl, option_map, List}
use Rattle.std.specs.Str.{chars}
use Rattle.jp_tree.specs.Tree.{Text}
use Rattle.jp_check.specs.Plan.{planned_query}
use Rattle.jp_check.specs.Verdict.{IsAccepted}
use Rattle.jp_compiled.specs.Parts.{roots_of, segments_in}
use Rattle.jp_compiled.specs.declared.query.CompiledSegment.{CompiledSegment}
use Rattle.jp_output.specs.Rows.{field_of}
use Rattle.jp_field.specs.FieldText.{path_in, path_of}
use Rattle.jp_field.proofs.field_text.field_in.Goals as goal

pub returns-in-Some-2-clause-ok : goal.returns-in-Some-2-clause-ok
returns-in-Some-2-clause-ok c =
    let root = rw c.in-Some.is at c.in_ok-query.ensures in
    let q = planned_query c.in_ok-plan.plan in
    let roots = roots_of c.compiled.result.now.roots.items in (
      root.0,
      root.1,
      q,
      subst (λ (t : Text). IsAccepted t q) (ap chars c.as_str.ensures.value ∙ root.2) c.in_ok-plan.ensures.ok,
      ap path_of (sym c.compiled.ensures)
          ∙ ap (λ (ss : List CompiledSegment). path_in (segments_in roots ss)) (sym c.as_slice.ensures.value)
          ∙ c.in_ok-field.ensures roots ∙ ap (option_map field_of) c.in-Some-2.is,
    )

pub returns-clause-fault : goal.returns-clause-fault
returns-clause-fault c = λ other.
    let root = rw c.in-Some.is at c.in_ok-query.ensures in
    let q = planned_query c.in_ok-plan.plan in
    let roots = roots_of c.compiled.result.now.roots.items in inr (
      root.0,
      root.1,
      inr (
        q,
        subst (λ (t : Text). IsAccepted t q) (ap chars c.as_str.ensures.value ∙ root.2)
            c.in_ok-plan.ensures.ok,
        ap path_of (sym c.compiled.ensures)
            ∙ ap (λ (ss : List CompiledSegment). path_in (segments_in roots ss)) (sym
            c.as_slice.ensures.value)
            ∙ c.in_ok-field.ensures roots ∙ ap (option_map field_of) c.in-None.is,
        refl,
      ),
    )
