use Rattle.std.proofs.Common.{sym, ◌∙◌}
use Rattle.jp_doc.proofs.TextLaws.{text_eq-bytes}
use Rattle.jp_flat.proofs.gather.is_same_text.Goals as goal

pub returns : goal.returns
returns c = c.eq.ensures ∙ sym (text_eq-bytes c.args.left.now c.args.right.now c.utf8.left c.utf8.right)
