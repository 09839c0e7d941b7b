use Rattle.std.proofs.Common.{◌≡◌, ◌<◌, ◌-◌, Some, get_or, length, take, vec_len, ap, ◌∙◌, arith, refl}
use Rattle.jp_node.proofs.MadeLaws.{bare_link_gone, made_link_gone}
use Rattle.jp_node.proofs.path_stack.forget_last.Goals as goal

pub returns-then-len-links : goal.returns-then-len-links
returns-then-len-links c = bare_link_gone c.args.links.now c.args.text.now.items c.args.starts.now.items
    c.requires (omega arith)

pub returns-in-Some : goal.returns-in-Some
returns-in-Some c =
    let starts = c.args.starts.now in
    let start = c.in-Some.start in
    let is_len : vec_len starts ≡ length starts.items = starts.ok.0 in
    let some : 0 < vec_len starts = c.in-Some.ensures.variant.0 refl in
    made_link_gone c.args.links.now c.args.text.now.items starts.items c.requires _ _
    start (omega arith) (omega arith)
    (c.in-Some.ensures.value start some ∙ ap (λ n. Some (get_or starts.items (n - 1) start)) is_len)
    (c.in-Some.ensures.rest ∙ ap (λ n. take (n - 1) starts.items) is_len) c.truncate.ensures.items
