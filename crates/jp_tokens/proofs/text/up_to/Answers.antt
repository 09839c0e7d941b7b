use Rattle.std.proofs.Common.{◌≡◌, ◌-◌, length, take, arith}
use Rattle.std.proofs.lemmas.Grind.{common_steps}
use Rattle.jp_tokens.proofs.Cuts.{rest_fits, may_cut, front_is}
use Rattle.jp_tokens.proofs.text.up_to.Goals as goal

pub overflow_sub-text : goal.overflow_sub-text
overflow_sub-text c = rest_fits c.args.text.now c.args.rest.now c.requires.0 c.utf8.text c.utf8.rest
    c.requires.1

pub range-requires-clause-end_boundary : goal.range-requires-clause-end_boundary
range-requires-clause-end_boundary c = may_cut c.args.text.now c.args.rest.now c.requires.0 c.utf8.text
    c.utf8.rest c.requires.1

pub returns : goal.returns
returns c =
    let cut : c.range.result.now ≡ take (length c.args.text.now - length c.args.rest.now) c.args.text.now =
    grind (arith, common_steps) in
    front_is c.args.text.now c.args.rest.now c.requires.0 c.utf8.text c.utf8.rest c.requires.1
    c.range.result.now c.range.utf8 cut
