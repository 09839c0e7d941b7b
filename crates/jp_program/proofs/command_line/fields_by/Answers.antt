use Rattle.std.proofs.Common.{◌∙◌, codes, subst, IfOk, List, map}
use Rattle.std.specs.Prelude.{IfSome, IsNone}
use Rattle.clap.specs.Walk.{Text}
use Rattle.clap.specs.Words.{found_of, rows_of}
use Rattle.clap.proofs.WalkLemmas.{raw_values-rows}
use Rattle.jp_output.specs.Rows.{Path, field_of}
use Rattle.jp_program.specs.Wanted.{AreFieldsOf}
use Rattle.jp_program.proofs.Saying.{texts_some, texts_none}
use Rattle.jp_program.proofs.command_line.fields_by.Goals as goal

pub returns-in-Some : goal.returns-in-Some
returns-in-Some c =
    let found = found_of c.args.matches.now in
    let are = texts_some (codes "field") (rows_of found) c.get_strs.result
    (c.get_strs.ensures ∙ raw_values-rows found (codes "field")) c.in-Some.given c.in-Some.is in
    record {
      some = subst (λ (ts : List Text). IfOk c.fields_of.result (λ o. IfSome o (λ fields. AreFieldsOf ts
          c.args.output (map field_of fields.items)))) are c.fields_of.ensures.some;
      none = subst (λ (ts : List Text). IfOk c.fields_of.result (λ o. IsNone o → (fields : List Path) →
          AreFieldsOf ts c.args.output fields → ⊥)) are c.fields_of.ensures.none;
    }

pub returns-in-None : goal.returns-in-None
returns-in-None c =
    let found = found_of c.args.matches.now in
    let are = texts_none (codes "field") (rows_of found) c.get_strs.result
    (c.get_strs.ensures ∙ raw_values-rows found (codes "field")) c.in-None.is in
    record {
      some = subst (λ (ts : List Text). IfOk c.fields_of-in-None.result (λ o. IfSome o (λ fields.
          AreFieldsOf ts c.args.output (map field_of fields.items)))) are c.fields_of-in-None.ensures.some;
      none = subst (λ (ts : List Text). IfOk c.fields_of-in-None.result (λ o. IsNone o → (fields : List
          Path) → AreFieldsOf ts c.args.output fields → ⊥)) are c.fields_of-in-None.ensures.none;
    }
