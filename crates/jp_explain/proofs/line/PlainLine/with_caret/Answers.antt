use Rattle.std.proofs.Common.{◌≡◌, ℕ, List, [], ◌∷◌, ◌++◌, ap, ◌∙◌}
use Rattle.std.specs.Str.{chars}
use Rattle.std.proofs.lemmas.Str.{chars-nil}
use Rattle.jp_tree.specs.View.{text_of}
use Rattle.jp_explain.proofs.line.PlainLine.with_caret.Goals as goal

pub loop-at-init : goal.loop-at-init
loop-at-init c =
    let empty : text_of c.new-text.result ≡ [] = ap chars c.new-text.ensures.bytes ∙ chars-nil in
    let line : text_of c.push_text.new.text ≡ text_of c.args.self.now.text =
    c.in_ok-push_text.ensures ∙ ap (λ (t : List ℕ). t ++ chars c.as_str.result.now) empty
    ∙ ap chars c.as_str.ensures.value in
    c.in_ok-push_character.ensures ∙ ap (λ (t : List ℕ). t ++ 10 ∷ []) line
