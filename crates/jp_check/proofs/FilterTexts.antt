-- The query text with a filter.
use Rattle.std.proofs.Common.{◌≡◌, ℕ, List, ◌++◌, codes, refl, ap, ap₂, ◌∙◌}
use lib.Utf8.{encode}
use Rattle.std.proofs.lemmas.Str.{chars-append}
use Rattle.std.specs.Str.{chars, IsUtf8}
use Rattle.jp_check.specs.Filter.{filter_text}

open_text : chars (codes "$[?") ≡ codes "$[?"
unfolding chars
open_text = refl

close_text : chars (codes "]") ≡ codes "]"
unfolding chars
close_text = refl

open_utf8 : IsUtf8 (codes "$[?")
unfolding encode
open_utf8 = (codes "$[?", (refl, refl))

-- the text that is put together
pub put_together : (s t u filter : List ℕ) → IsUtf8 filter → s ≡ codes "$[?" → t ≡ s ++ filter
    → u ≡ t ++ codes "]" → chars u ≡ filter_text (chars filter)
put_together s t u filter known first second third =
    ap chars (third ∙ ap (λ x. x ++ codes "]") (second ∙ ap (λ x. x ++ filter) first))
    ∙ chars-append (codes "$[?") (filter ++ codes "]") open_utf8
    ∙ ap₂ (λ x y. x ++ y) open_text
    (chars-append filter (codes "]") known ∙ ap (λ x. chars filter ++ x) close_text)
