use Rattle.std.proofs.Common.{refl, ap, length, arith}
use Rattle.std.proofs.lemmas.List.{length-map}
use Rattle.json.specs.Tape.{node_token}
use Rattle.jp_flat.proofs.FewTokens.{few_tokens}
use Rattle.jp_flat.proofs.PrintedTrees.{laid_on, no_error}
use Rattle.jp_flat.proofs.lines.lay_printed.Goals as goal

pub lay-requires-clause-few : goal.lay-requires-clause-few
lay-requires-clause-few c =
    let read = c.in-Ok.ensures.ok in
    omega (
      arith,
      length-map c.nodes.result.now node_token,
      ap length c.nodes.ensures.tokens,
      ap length read.0,
      few_tokens c.args.text.now,
      c.requires.printed.1.short,
    )

pub unreachable-requires : goal.unreachable-requires
unreachable-requires c =
    let text = c.args.text.now in
    no_error text text c.requires.printed.0 c.parse.result c.in-Err.field-0 c.in-Err.is (λ e. grind arith)
    c.parse.ensures.invalid c.parse.ensures.too_long c.parse.ensures.never_duplicate refl c.requires.printed.1

pub returns-in_ok-reserve-in-Ok : goal.returns-in_ok-reserve-in-Ok
returns-in_ok-reserve-in-Ok c v p =
    let read = c.in-Ok.ensures.ok in
    let same = c.nodes.ensures.tokens in
    laid_on c.lay.result c.args.text.now _ _ _ _ v p read.0 same c.lay.ensures.tokens c.lay.ensures.linked
    c.lay.ensures.within
