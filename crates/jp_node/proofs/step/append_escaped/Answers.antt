use Rattle.std.proofs.Common.{◌∙◌, sym, arith}
use Rattle.std.proofs.lemmas.Grind.{common_steps}
use Rattle.jp_node.proofs.PathBytes.{name_bare}
use Rattle.jp_node.proofs.step.append_escaped.Goals as goal

pub loop-byte-preserved : goal.loop-byte-preserved
loop-byte-preserved c = grind (arith, common_steps)

pub returns-in_err-append_byte-clause-kept : goal.returns-in_err-append_byte-clause-kept
returns-in_err-append_byte-clause-kept c = grind (arith, common_steps)

pub returns-clause-ok : goal.returns-clause-ok
returns-clause-ok c = grind (arith, common_steps)

pub returns-then-is_bare-clause-ok : goal.returns-then-is_bare-clause-ok
returns-then-is_bare-clause-ok c =
    let bare = name_bare c.as_bytes.result.now (sym c.is_bare.ensures ∙ c.if-is_bare.true) in
    grind (arith, common_steps, bare)
