use Rattle.std.proofs.Common.{◌≡◌, List, ℕ, [], ◌++◌, ap, ◌∙◌}
use Rattle.std.specs.Str.{chars}
use Rattle.std.proofs.lemmas.Str.{chars-nil}
use Rattle.jp_tree.specs.View.{text_of}
use Rattle.jp_explain.proofs.Pictures.{with_line_feed}
use Rattle.jp_explain.proofs.line.PlainLine.above.Goals as goal

pub returns-clause-value : goal.returns-clause-value
returns-clause-value c =
    let empty : text_of c.new-text.result ≡ [] = ap chars c.new-text.ensures.bytes ∙ chars-nil in
    let front : text_of c.push_text.new.text ≡ text_of c.new-text.result ++ text_of c.args.self.now.text =
    c.in_ok-push_text.ensures
    ∙ ap (λ (t : List ℕ). text_of c.new-text.result ++ t) (ap chars c.as_str.ensures.value) in
    with_line_feed _ _ _ _ _ _ empty front c.in_ok-push_character.ensures c.in_ok-push_text-2.ensures
