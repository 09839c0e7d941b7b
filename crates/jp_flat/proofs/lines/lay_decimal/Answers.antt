use Rattle.std.proofs.Common.{◌≡◌, None, Some, refl, sym, ap, ◌∙◌, subst, length, arith}
use Rattle.std.proofs.lemmas.List.{length-map}
use Rattle.std.proofs.lemmas.Result.{IfOk-weaker}
use Rattle.json.specs.Lex.{tokens}
use Rattle.json.specs.Tape.{node_token}
use Rattle.jp_doc.specs.declared.fault.DocFault.TheVariants.{LongNumber}
use Rattle.jp_flat.specs.inner.Decimals.{whole_fault}
use Rattle.jp_flat.specs.inner.FlatAnswers.{told_over}
use Rattle.jp_flat.specs.inner.Rows.{pass_fault}
use Rattle.jp_flat_nodes.specs.Nodes.{AreLinked, source}
use Rattle.jp_flat.proofs.Decimal.{fault_of_pass, over_of_pass, refused}
use Rattle.jp_flat.proofs.FewTokens.{few_tokens}
use Rattle.jp_flat.proofs.ReadNodes.{laid_grammar}
use Rattle.jp_flat.proofs.lines.lay_decimal.Goals as goal

pub returns-in-Some-LongNumber : goal.returns-in-Some-LongNumber
returns-in-Some-LongNumber c =
    let text = c.args.text.now in
    let read = c.in-Ok.ensures.ok in
    let found : pass_fault (tokens text) ≡ Some LongNumber = ap pass_fault (sym read.0)
    ∙ ap pass_fault (sym c.nodes.ensures.tokens) ∙ sym c.fault_in.ensures ∙ c.in-Some-LongNumber.is
    ∙ ap Some c.in-Some-LongNumber.field-0-is in
    IfOk-weaker c.over_answer.result _ _ (λ a e. over_of_pass text _ a c.utf8.text read.1 c.requires found (e
    ∙ ap (λ ts. told_over (whole_fault ts)) (c.nodes-in-Some-LongNumber.ensures.tokens ∙ read.0)))
    c.over_answer.ensures

pub returns-in-Some : goal.returns-in-Some
returns-in-Some c =
    let read = c.in-Ok.ensures.ok in
    fault_of_pass c.args.text.now c.in-Some.fault c.utf8.text read.1 c.requires
    (ap pass_fault (sym read.0) ∙ ap pass_fault (sym c.nodes.ensures.tokens) ∙ sym c.fault_in.ensures
    ∙ c.in-Some.is) (λ e. grind arith)

pub lay-requires-clause-few : goal.lay-requires-clause-few
lay-requires-clause-few c =
    let read = c.in-Ok.ensures.ok in
    omega (
      arith,
      length-map c.nodes-in-Ok.result.now node_token,
      ap length c.nodes-in-Ok.ensures.tokens,
      ap length read.0,
      few_tokens c.args.text.now,
      c.requires,
    )

pub returns-in_ok-lay-in-Ok : goal.returns-in_ok-lay-in-Ok
returns-in_ok-lay-in-Ok c =
    let tape = c.in-Ok.tape in
    let read = c.in-Ok.ensures.ok in
    let laid = c.in_ok-lay-in-Ok.ensures in
    let same = c.nodes-in-Ok.ensures.tokens in
    let none : pass_fault tape ≡ None = ap pass_fault (sym c.nodes.ensures.tokens)
    ∙ sym c.fault_in.ensures ∙ c.in-None.is in
    laid_grammar c.args.text.now (source c.lay.new.out.texts.items c.lay.new.out.texts.items)
    c.lay.new.out.nodes.items tape read.0 read.1
    (laid.tokens ∙ same) (subst (λ ts. AreLinked ts c.lay.new.out.nodes.items) same laid.linked) laid.within
    c.utf8.text c.requires none

pub returns-in-Err : goal.returns-in-Err
returns-in-Err c =
    let text = c.args.text.now in
    refused text text c.parse.result c.in-Err.field-0 c.in-Err.is (λ e. grind arith)
    c.parse.ensures.invalid c.parse.ensures.too_long c.parse.ensures.never_duplicate (refl, c.utf8.text)
    c.requires
