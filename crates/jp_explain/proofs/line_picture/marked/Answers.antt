use Rattle.std.proofs.Common.{refl}
use Rattle.jp_explain.proofs.Pictures.{pictured}
use Rattle.jp_explain.proofs.line_picture.marked.Goals as goal

pub returns : goal.returns
returns c =
    pictured c.with_caret.result _ _ _ _ refl c.with_caret.ensures.line c.with_caret.ensures.value
