-- The text of a query of `@`, and that with `$` in its place.
use Rattle.std.proofs.Common.{◌≡◌, ℕ, List, [], ◌∷◌, ◌++◌, codes, refl, ap, ◌∙◌, encode_utf8}
use lib.Utf8.{encode}
use Rattle.std.proofs.lemmas.Str.{chars-append}
use Rattle.std.specs.Str.{chars, IsUtf8}
use Rattle.jp_tree.specs.Tree.{Text}

current_text : chars (codes "@") ≡ 64 ∷ []
unfolding chars
current_text = refl

root_text : chars (codes "$") ≡ 36 ∷ []
unfolding chars
root_text = refl

current_utf8 : IsUtf8 (codes "@")
unfolding encode
current_utf8 = (codes "@", (refl, refl))

root_utf8 : IsUtf8 (codes "$")
unfolding encode
root_utf8 = (codes "$", (refl, refl))

current_bytes : encode_utf8 64 ≡ codes "@"
unfolding encode
current_bytes = refl

pub put_together : (text rest s t : List ℕ) → text ≡ encode_utf8 64 ++ rest → s ≡ codes "$" → t ≡ s ++ rest
    → (x : Text) × (chars text ≡ 64 ∷ x) × (chars t ≡ 36 ∷ x)
put_together text rest s t first second third = (
  chars rest,
  ap chars (first ∙ ap (λ x. x ++ rest) current_bytes) ∙ chars-append (codes "@") rest current_utf8
      ∙ ap (λ x. x ++ chars rest) current_text,
  ap chars (third ∙ ap (λ x. x ++ rest) second) ∙ chars-append (codes "$") rest root_utf8
      ∙ ap (λ x. x ++ chars rest) root_text,
)
