use Rattle.std.proofs.Common.{◌<◌, ◌^◌, ◌∙◌, rules, subst, sym, arith}
use Rattle.std.proofs.lemmas.Grind.{common_steps}
use Rattle.std.specs.Str.{IsAscii}
use Rattle.jp_node.proofs.PathBytes.{index_appended, index_text}
use Rattle.jp_node.proofs.step.append_index.Goals as goal

pub returns-clause-ok : goal.returns-clause-ok
returns-clause-ok c =
    let small : c.args.index < 2 ^ 32 = search rules in
    index_appended c.args.out.now.items _ _ _ c.as_bytes.result.now c.args.index small
    (c.as_bytes.ensures.value ∙ c.format.ensures.text)
    c.in_ok-push.ensures.items c.in_ok-extend_from_slice.ensures.items c.in_ok-push-2.ensures.items

pub returns-clause-text : goal.returns-clause-text
returns-clause-text c =
    index_text c.args.out.now.items _ _ _ c.as_bytes.result.now (subst IsAscii (sym c.as_bytes.ensures.value)
    c.format.ensures.ascii)
    c.in_ok-push.ensures.items c.in_ok-extend_from_slice.ensures.items c.in_ok-push-2.ensures.items

pub returns-clause-kept : goal.returns-clause-kept
returns-clause-kept c = grind (arith, common_steps)

pub returns-in_err-push-2-clause-kept : goal.returns-in_err-push-2-clause-kept
returns-in_err-push-2-clause-kept c = grind (arith, common_steps)
