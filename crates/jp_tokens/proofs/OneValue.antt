-- A string literal has one value.
use Rattle.std.proofs.Common.{◌≡◌, ℕ, Bool, true, false, not, ◌&&◌, ◌==◌, IsTrue, refl, sym, ap, subst, ◌∙◌}
use Rattle.std.proofs.Common.{inl, inr, [], ◌∷◌, ◌++◌, append_assoc, arith, Some, None, nat_le}
use Rattle.std.proofs.lemmas.Bool.{and_parts, or_cases, not-true, eqb-true, false_from_ne_true}
use Rattle.std.proofs.lemmas.Bool.Decides.{nat_tests}
use Rattle.jp_tree.specs.Tree.{Text}
use Rattle.jp_tree.specs.Characters.{is_scalar, is_quote, is_bare, escaped, hex_number, is_surrogate}
use Rattle.jp_tree.specs.Characters.{is_high_surrogate, pair_value}
use Rattle.jp_tree.specs.Parts.{Star, none, more}
use Rattle.jp_tree.specs.Strings.{Piece, bare, escape, unicode, surrogates, HexIs, four, IsString, quoted}
use Rattle.jp_tokens.proofs.Following.{never_at}

-- a bare character is no backslash, and no quote
pub bare_is_no_backslash : (quote c : ℕ) → IsTrue (is_bare quote c) → (c == 92) ≡ false
bare_is_no_backslash quote c h =
    not-true (c == 92) (and_parts (nat_le 0x20 c && is_scalar c && not (c == quote)) (not (c == 92)) h).1

pub bare_is_no_quote : (quote c : ℕ) → IsTrue (is_bare quote c) → (c == quote) ≡ false
bare_is_no_quote quote c h =
    let outer = and_parts (nat_le 0x20 c && is_scalar c && not (c == quote)) (not (c == 92)) h in
    not-true (c == quote) (and_parts (nat_le 0x20 c && is_scalar c) (not (c == quote)) outer.0).1

pub quote_is_no_backslash : (quote : ℕ) → IsTrue (is_quote quote) → (quote == 92) ≡ false
quote_is_no_backslash quote h = false_from_ne_true (quote == 92) (never_at is_quote 92 refl quote h)

-- whether the text begins with this character
abbrev pub begins_as : ℕ → Text → Bool
begins_as n [] = false
begins_as n (c ∷ t) = c == n

eqb-same : (n : ℕ) → (n == n) ≡ true
eqb-same n = grind (arith, nat_tests)

-- `u` is none of the letters
pub no_letter_u : (quote : ℕ) → IsTrue (is_quote quote) → escaped quote 117 ≡ None
no_letter_u quote h =
    elim (or_cases (quote == 34) (quote == 39) h) [
      | inl e ↦ subst (λ (c : ℕ). escaped c 117 ≡ None) (sym (eqb-true quote 34 e)) refl
      | inr e ↦ subst (λ (c : ℕ). escaped c 117 ≡ None) (sym (eqb-true quote 39 e)) refl
    ]

high_is_surrogate : (n : ℕ) → IsTrue (is_high_surrogate n) → IsTrue (not (is_surrogate n)) → ⊥
high_is_surrogate n h k = let e : is_surrogate n ≡ true = rw h refl in cc

-- the same four digits write the same number
pub hex_front : (s t : Text) (m n : ℕ) (r w : Text) → HexIs s m → HexIs t n → s ++ r ≡ t ++ w
    → (m ≡ n) × (r ≡ w)
hex_front s t m n r w (four a b c d h) (four e f g i k) same =
    let ea : a ≡ e = cc in
    let eb : b ≡ f = cc in
    let ec : c ≡ g = cc in
    let ed : d ≡ i = cc in (
      ap (λ x. hex_number x b c d) ea
          ∙ (ap (λ x. hex_number e x c d) eb
          ∙ (ap (λ x. hex_number e f x d) ec ∙ ap (λ x. hex_number e f g x) ed)),
      cc,
    )

-- what stands in front of the same text is the same piece
module _ (quote : ℕ) (is : IsTrue (is_quote quote)) where
  pub bare_or_escape : (c : ℕ) (r w : Text) → IsTrue (is_bare quote c) → c ∷ r ≡ 92 ∷ w → ⊥
  bare_or_escape c r w h e =
      let first : c ≡ 92 = cc in
      let k = ap (λ x. x == 92) first in
      let n = bare_is_no_backslash quote c h in cc

  pub letter_or_u : (letter value : ℕ) (r w : Text) → escaped quote letter ≡ Some value → letter ∷ r ≡ 117 ∷ w
      → ⊥
  letter_or_u letter value r w h e =
      let first : letter ≡ 117 = cc in
      let k : escaped quote 117 ≡ Some value = subst (λ (x : ℕ). escaped quote x ≡ Some value) first h in
      let n = no_letter_u quote is in
      let f : Some value ≡ None = sym k ∙ n in absurd cc

  -- behind `\u` and the first four digits
  pub past_u : (s t r w : Text) → 92 ∷ 117 ∷ (s ++ r) ≡ 92 ∷ 117 ∷ (t ++ w) → s ++ r ≡ t ++ w
  past_u s t r w e = cc

  -- a plain number against a pair
  plain_or_pair : (s t u : Text) (n a : ℕ) (r w : Text) → HexIs s n → IsTrue (not (is_surrogate n))
      → HexIs t a → IsTrue (is_high_surrogate a) → 92 ∷ 117 ∷ (s ++ r) ≡ 92 ∷ 117 ∷ ((t ++ u) ++ w) → ⊥
  plain_or_pair s t u n a r w h m k g e =
      let tail : s ++ r ≡ t ++ (u ++ w) = past_u s (t ++ u) r w e ∙ append_assoc t u w in
      let f = hex_front s t n a r (u ++ w) h k tail in
      high_is_surrogate a g (subst (λ (x : ℕ). IsTrue (not (is_surrogate x))) f.0 m)

  pub piece_front : (s t : Text) (x y : ℕ) (r w : Text) → Piece quote s x → Piece quote t y → s ++ r ≡ t ++ w
      → (x ≡ y) × (r ≡ w)
  piece_front s t x y r w (bare c h) (bare d k) e = (cc, cc)
  piece_front s t x y r w (bare c h) (escape letter v k) e = absurd (bare_or_escape c r (letter ∷ w) h e)
  piece_front s t x y r w (bare c h) (unicode u n k m) e = absurd (bare_or_escape c r (117 ∷ u ++ w) h e)
  piece_front s t x y r w (bare c h) (surrogates u v m n f g i k) e =
      absurd (bare_or_escape c r (117 ∷ (u ++ 92 ∷ 117 ∷ v) ++ w) h e)
  piece_front s t x y r w (escape letter v k) (bare c h) e =
      absurd (bare_or_escape c w (letter ∷ r) h (sym e))
  piece_front s t x y r w (escape letter v k) (escape sign u h) e =
      let same : letter ≡ sign = cc in
      let p : Some x ≡ Some y = sym k ∙ (ap (λ (c : ℕ). escaped quote c) same ∙ h) in
      (cc, cc)
  piece_front s t x y r w (escape letter v k) (unicode u n h m) e =
      let f : letter ∷ r ≡ 117 ∷ (u ++ w) = cc in absurd (letter_or_u letter x r (u ++ w) k f)
  piece_front s t x y r w (escape letter v k) (surrogates u z m n f g i h) e =
      let d : letter ∷ r ≡ 117 ∷ ((u ++ 92 ∷ 117 ∷ z) ++ w) =
      cc in absurd (letter_or_u letter x r ((u ++ 92 ∷ 117 ∷ z) ++ w) k d)
  piece_front s t x y r w (unicode u n k m) (bare c h) e =
      absurd (bare_or_escape c w (117 ∷ u ++ r) h (sym e))
  piece_front s t x y r w (unicode u n k m) (escape letter v h) e =
      let f : letter ∷ w ≡ 117 ∷ (u ++ r) = cc in absurd (letter_or_u letter y w (u ++ r) h f)
  piece_front s t x y r w (unicode u n k m) (unicode v l h i) e = hex_front u v x y r w k h (past_u u v r w e)
  piece_front s t x y r w (unicode u n k m) (surrogates v z a b f g i h) e =
      absurd (plain_or_pair u v (92 ∷ 117 ∷ z) x a r w k m f g e)
  piece_front s t x y r w (surrogates u v m n f g i k) (bare c h) e =
      absurd (bare_or_escape c w (117 ∷ (u ++ 92 ∷ 117 ∷ v) ++ r) h (sym e))
  piece_front s t x y r w (surrogates u v m n f g i k) (escape letter z h) e =
      let d : letter ∷ w ≡ 117 ∷ ((u ++ 92 ∷ 117 ∷ v) ++ r) =
      cc in absurd (letter_or_u letter y w ((u ++ 92 ∷ 117 ∷ v) ++ r) h d)
  piece_front s t x y r w (surrogates u v m n f g i k) (unicode z l h j) e =
      absurd (plain_or_pair z u (92 ∷ 117 ∷ v) y m w r h j f g (sym e))
  piece_front s t x y r w (surrogates u v m n f g i k) (surrogates z j a b h l p q) e =
      let tail : u ++ (92 ∷ 117 ∷ (v ++ r)) ≡ z ++ (92 ∷ 117 ∷ (j ++ w)) =
      sym (append_assoc u (92 ∷ 117 ∷ v) r) ∙ (past_u (u ++ 92 ∷ 117 ∷ v) (z ++ 92 ∷ 117 ∷ j) r w e
      ∙ append_assoc z (92 ∷ 117 ∷ j) w) in
      let front = hex_front u z m a (92 ∷ 117 ∷ (v ++ r)) (92 ∷ 117 ∷ (j ++ w)) f h tail in
      let back = hex_front v j n b r w i p (past_u v j r w front.1) in
      (ap (λ (c : ℕ). pair_value c n) front.0 ∙ ap (λ (c : ℕ). pair_value a c) back.0, back.1)

  -- no piece begins with the quote
  piece_or_quote : (s : Text) (x : ℕ) (r w : Text) → Piece quote s x → s ++ r ≡ quote ∷ w → ⊥
  piece_or_quote s x r w (bare c h) e =
      let first : c ≡ quote = cc in
      let n = bare_is_no_quote quote c h in
      let k = ap (λ d. d == quote) first in
      let same = eqb-same quote in cc
  piece_or_quote s x r w (escape letter v k) e = let n = quote_is_no_backslash quote is in let f =
      ap (begins_as 92) e in cc
  piece_or_quote s x r w (unicode u v h k) e = let n = quote_is_no_backslash quote is in let f =
      ap (begins_as 92) e in cc
  piece_or_quote s x r w (surrogates u v m n f g i k) e = let b = quote_is_no_backslash quote is in let f2 =
      ap (begins_as 92) e in cc

  pub pieces_front : (s t x y r w : Text) → Star (Piece quote) s x → Star (Piece quote) t y
      → s ++ quote ∷ r ≡ t ++ quote ∷ w → x ≡ y
  pieces_front s t x y r w none none e = refl
  pieces_front s t x y r w none (more u v a xs p ps) e =
      absurd (piece_or_quote u a (v ++ quote ∷ w) r p (sym (append_assoc u v (quote ∷ w)) ∙ sym e))
  pieces_front s t x y r w (more u v a xs p ps) none e =
      absurd (piece_or_quote u a (v ++ quote ∷ r) w p (sym (append_assoc u v (quote ∷ r)) ∙ e))
  pieces_front s t x y r w (more u v a xs p ps) (more u2 v2 b ys q qs) e =
      let tail : u ++ (v ++ quote ∷ r) ≡ u2 ++ (v2 ++ quote ∷ w) = sym (append_assoc u v (quote ∷ r))
      ∙ (e ∙ append_assoc u2 v2 (quote ∷ w)) in
      let front = piece_front u u2 a b (v ++ quote ∷ r) (v2 ++ quote ∷ w) p q tail in
      let rest = pieces_front v v2 xs ys r w ps qs front.1 in
      cc

strings_agree : (s t x y : Text) → IsString s x → IsString t y → s ≡ t → x ≡ y
strings_agree s t x y (quoted c u v h p) (quoted d w z k q) e =
    let same : d ≡ c = cc in
    let tail : u ++ c ∷ [] ≡ w ++ d ∷ [] = cc in
    pieces_front c h u w x y [] [] p (subst (λ (n : ℕ). Star (Piece n) w y) same q) (tail
    ∙ ap (λ (n : ℕ). w ++ n ∷ []) same)

pub one_value : (t x y : Text) → IsString t x → IsString t y → x ≡ y
one_value t x y p q = strings_agree t t x y p q refl
