use Rattle.std.proofs.Common.{◌∙◌, ap, ◌++◌, arith}
use Rattle.std.proofs.lemmas.Grind.{common_steps}
use Rattle.jp_node.specs.Links.{links_bytes}
use Rattle.jp_node.proofs.MadeLaws.{path_appended}
use Rattle.jp_node.proofs.path_stack.PathStack.append_path.Goals as goal

pub returns-clause-ok : goal.returns-clause-ok
returns-clause-ok c =
    path_appended c.args.out.now.items _ _ c.make.new.text.items c.args.self.now c.in_ok-push.ensures.items
    (c.in_ok-make.ensures.ok ∙ ap links_bytes (c.as_slice.ensures ∙ c.self.view_is))
    (c.in_ok-extend_from_slice.ensures.items
    ∙ ap (λ bs. c.push.new.self.items ++ bs) c.as_slice-2.ensures.value)

pub returns-clause-kept : goal.returns-clause-kept
returns-clause-kept c = grind (arith, common_steps)
