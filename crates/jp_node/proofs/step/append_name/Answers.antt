use Rattle.std.proofs.Common.{refl, arith}
use Rattle.std.proofs.lemmas.Grind.{common_steps}
use Rattle.jp_node.proofs.PathBytes.{name_appended, name_text}
use Rattle.jp_node.proofs.step.append_name.Goals as goal

pub returns-clause-ok : goal.returns-clause-ok
returns-clause-ok c =
    name_appended c.args.out.now.items _ _ _ c.args.text.now c.args.text.now c.utf8.text refl
    c.in_ok-extend_from_slice.ensures.items c.in_ok-append_escaped.ensures.ok
    c.in_ok-extend_from_slice-2.ensures.items

pub returns-clause-text : goal.returns-clause-text
returns-clause-text c =
    name_text c.args.out.now.items _ _ _ c.args.text.now c.args.text.now c.utf8.text refl
    c.in_ok-extend_from_slice.ensures.items c.in_ok-append_escaped.ensures.ok
    c.in_ok-extend_from_slice-2.ensures.items

pub returns-clause-kept : goal.returns-clause-kept
returns-clause-kept c = grind (arith, common_steps)

pub returns-in_err-append_escaped-clause-kept : goal.returns-in_err-append_escaped-clause-kept
returns-in_err-append_escaped-clause-kept c = grind (arith, common_steps)
