use Rattle.std.proofs.Common.{◌≡◌, true, map, refl, sym, ap, ◌∙◌, subst, length, arith}
use Rattle.std.proofs.lemmas.List.{length-map}
use Rattle.std.proofs.lemmas.Result.{IfOk-weaker}
use Rattle.json.specs.Tape.{node_token}
use Rattle.jp_flat.specs.inner.Decimals.{whole_fault}
use Rattle.jp_flat.specs.inner.FlatAnswers.{told}
use Rattle.jp_flat.specs.inner.Plain.{is_plain_from}
use Rattle.jp_flat_nodes.specs.Nodes.{AreLinked, source}
use Rattle.jp_flat.proofs.FewTokens.{few_tokens}
use Rattle.jp_flat.proofs.ReadNodes.{laid_whole}
use Rattle.jp_flat.proofs.WholeFaults.{answer_of_nodes, refused_line}
use Rattle.jp_flat.proofs.lines.lay_plain.Goals as goal

pub returns-then-not-are_plain : goal.returns-then-not-are_plain
returns-then-not-are_plain c =
    let line = c.args.text.now in
    let read = c.in-Ok.ensures.ok in
    IfOk-weaker c.whole_answer.result _ _ (λ a e. answer_of_nodes line _ a c.utf8.text read.1 c.requires (e
    ∙ ap (λ ts. told (whole_fault ts)) (c.nodes-then-not-are_plain.ensures.tokens ∙ read.0)))
    c.whole_answer.ensures

pub lay-requires-clause-few : goal.lay-requires-clause-few
lay-requires-clause-few c =
    let read = c.in-Ok.ensures.ok in
    omega (
      arith,
      length-map c.nodes-in-Ok.result.now node_token,
      ap length c.nodes-in-Ok.ensures.tokens,
      ap length read.0,
      few_tokens c.args.text.now,
      c.requires,
    )

pub returns-in_ok-lay-in-Ok : goal.returns-in_ok-lay-in-Ok
returns-in_ok-lay-in-Ok c =
    let tape = c.in-Ok.tape in
    let read = c.in-Ok.ensures.ok in
    let laid = c.in_ok-lay-in-Ok.ensures in
    let same = c.nodes-in-Ok.ensures.tokens in
    let passes : is_plain_from 0 (map node_token c.nodes.result.now) ≡ true = grind arith in
    let plain : is_plain_from 0 tape ≡ true = ap (is_plain_from 0) (sym c.nodes.ensures.tokens) ∙ passes in
    laid_whole c.args.text.now (source c.lay.new.out.texts.items c.lay.new.out.texts.items)
    c.lay.new.out.nodes.items tape read.0 read.1
    (laid.tokens ∙ same) (subst (λ ts. AreLinked ts c.lay.new.out.nodes.items) same laid.linked) laid.within
    c.utf8.text c.requires plain

pub returns-in-Err : goal.returns-in-Err
returns-in-Err c =
    let text = c.args.text.now in
    refused_line text text c.parse.result c.in-Err.field-0 c.in-Err.is (λ e. grind arith)
    c.parse.ensures.invalid c.parse.ensures.too_long c.parse.ensures.never_duplicate (refl, c.utf8.text)
    c.requires
