use Rattle.std.proofs.Common.{◌∷◌, List, ℕ, ◌∙◌, ap, sym}
use Rattle.std.specs.Str.{chars}
use Rattle.std.proofs.lemmas.Str.{chars_past_char}
use Rattle.jp_tokens.proofs.text.first_character.Goals as goal

pub returns : goal.returns
returns c =
    let cut = sym c.chars-characters.ensures.rest ∙ c.in_ok-first.ensures.steps.0 in
    chars_past_char c.args.text.now c.next.new.self.rest.now c.in_ok-first.first c.utf8.text cut
    ∙ ap (λ (rest : List ℕ). c.in_ok-first.first ∷ chars rest) (sym c.as_str.ensures)
