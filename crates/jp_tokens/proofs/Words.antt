-- A text is a word exactly where its characters are.
use Rattle.std.proofs.Common.{◌≡◌, ℕ, true, false, List, refl, sym, ap, ◌∙◌, inl, inr, Some, None}
use Rattle.std.specs.Prelude.{bytes_eq, codes}
use Rattle.std.specs.Str.{chars, IsUtf8, encode_utf8_all}
use Rattle.std.proofs.lemmas.Bool.{cases_Bool}
use Rattle.std.proofs.lemmas.Slice.Eq.{bytes_eq-Decides}
use Rattle.std.proofs.lemmas.Str.{encodes-chars}
use Rattle.std.proofs.Math.Utf8.{encode}
use Rattle.jp_tree.specs.Tree as tree
use Rattle.jp_tokens.specs.Reading.{word_literal}

module _ (bs : List ℕ) (u : IsUtf8 bs) where
  other_word : (w : List ℕ) → encode_utf8_all w ≡ w → (bs ≡ w → ⊥) → bytes_eq (chars bs) w ≡ false
  other_word w e h =
      elim (cases_Bool (bytes_eq (chars bs) w)) [
        | inl k ↦ absurd (h (sym (encodes-chars bs u)
            ∙ ap encode_utf8_all ((bytes_eq-Decides (chars bs) w).0 k) ∙ e))
        | inr k ↦ k
      ]

  pub true_read : bs ≡ codes "true" → word_literal (chars bs) ≡ Some (tree.truth true)
  unfolding chars
  true_read e = rw e refl

  pub false_read : bs ≡ codes "false" → word_literal (chars bs) ≡ Some (tree.truth false)
  unfolding chars
  false_read e = rw e refl

  pub null_read : bs ≡ codes "null" → word_literal (chars bs) ≡ Some tree.null
  unfolding chars
  null_read e = rw e refl

  pub none_read : (bs ≡ codes "true" → ⊥) → (bs ≡ codes "false" → ⊥) → (bs ≡ codes "null" → ⊥)
      → word_literal (chars bs) ≡ None
  unfolding encode
  none_read a b d = rw (
    other_word (codes "true") refl a,
    other_word (codes "false") refl b,
    other_word
        (codes "null") refl d,
  ) refl
