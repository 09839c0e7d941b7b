use Rattle.std.proofs.Common.{◌≡◌, [], ap, refl, ◌∙◌}
use Rattle.std.specs.Str.{chars}
use Rattle.std.proofs.lemmas.Str.{chars-nil}
use Rattle.jp_tree.specs.View.{text_of}
use Rattle.jp_explain.proofs.explanation.front.Goals as goal

pub loop-turn-init : goal.loop-turn-init
loop-turn-init c =
    let empty : text_of c.new-front.result ≡ [] = ap chars c.new-front.ensures.bytes ∙ chars-nil in
    (c.utf8.text, rw empty refl, rw empty refl)
