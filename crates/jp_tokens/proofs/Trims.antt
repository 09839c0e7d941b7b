-- What `trim_start_matches` leaves of a text.
use Rattle.std.proofs.Common.{◌≡◌, ℕ, Bool, true, false, List, [], ◌∷◌, ◌++◌, drop, Option, Some, None, refl}
use Rattle.std.proofs.Common.{sym, ap, subst, ◌∙◌, arith}
use Rattle.std.specs.Char.{IsScalar, encode_utf8}
use Rattle.std.specs.Prelude.{IfSome}
use Rattle.std.specs.Fn.{Mut, Called, AlwaysReturns}
use Rattle.std.proofs.lemmas.List.Sorted.{answers_always}
use Rattle.std.proofs.lemmas.Bool.{and_parts}
use Rattle.std.specs.Str.{chars, IsUtf8, encode_utf8_all}
use Rattle.std.specs.Str.Pattern.{FindsPrefixBy, HasPassingCharAt, CutsPrefixes, IsTrimStartMatches}
use Rattle.std.proofs.lemmas.Str.{chars_past_char, IsUtf8-past_char, encodes-chars, scalars-chars}
use Rattle.std.proofs.lemmas.Str.{len_utf8_bounds}
use Rattle.std.proofs.Math.Utf8.{scalar, scalars}
use Rattle.jp_tokens.specs.Reading.{past}

module _ (p : ℕ → Bool) where
  -- one character is cut off
  one_cut : (m : List ℕ) (n : ℕ) (r : List ℕ) → IsUtf8 m → HasPassingCharAt p m 0 n → r ≡ drop n m
      → IsUtf8 r × (past p (chars m) ≡ past p (chars r))
  one_cut m n r u h e =
      let at : m ≡ encode_utf8 h.0 ++ r = h.2.split ∙ ap (λ (t : List ℕ). encode_utf8 h.0 ++ t) (sym e) in
      (IsUtf8-past_char m r h.0 u at, ap (past p) (chars_past_char m r h.0 u at) ∙ rw h.1 refl)

  -- the first character does not pass
  first_stays : (cs : List ℕ) → scalars cs ≡ true
      → ((c : ℕ) (rest : List ℕ) → IsScalar c → encode_utf8_all cs ≡ encode_utf8 c ++ rest → p c ≡ false)
      → past p cs ≡ cs
  first_stays [] s h = refl
  first_stays (c ∷ cs) s h = rw (h c (encode_utf8_all cs) (and_parts (scalar c) (scalars cs) s).0 refl) refl

  -- no character is left to cut
  none_left : (r : List ℕ) → IsUtf8 r → (o : Option ℕ) → FindsPrefixBy p r o → IfSome o (λ n. n ≡ 0)
      → past p (chars r) ≡ chars r
  none_left r u (Some n) h e =
      let ends = h.2.ends in
      let pos = (len_utf8_bounds h.0).0 in
      absurd (omega arith)
  none_left r u None h e = first_stays (chars r) (scalars-chars r u)
      (λ c rest v w. h c rest v (sym (encodes-chars r u) ∙ w))

  module _ {F : Type 0} (g : Mut F (ℕ × Unit {0}) Bool) (f : F) (s : List ℕ) (u : IsUtf8 s) where
    abbrev Cuts : List ℕ → Option ℕ → Type 0
    Cuts t o = (k : ℕ → Bool) → AlwaysReturns g (λ a r. r ≡ k a.0) f → FindsPrefixBy k t o

    cuts : AlwaysReturns g (λ a r. r ≡ p a.0) f → (ns : List ℕ) (r : List ℕ) → CutsPrefixes Cuts s ns r
        → IsUtf8 r × (past p (chars s) ≡ past p (chars r))
    cuts tests [] r h = (subst IsUtf8 (sym h) u, ap (λ (t : List ℕ). past p (chars t)) (sym h))
    cuts tests (n ∷ ns) r h =
        let k = cuts tests ns h.0 h.1 in
        let c = one_cut h.0 n r k.0 (h.2 p tests) h.3 in
        (c.0, k.1 ∙ c.1)

    -- where the closure is the test p
    pub trimmed : (r : List ℕ) → IsTrimStartMatches Cuts s r → ((f : F) (a : ℕ × Unit {0}) (b : Bool) (f' : F)
        → Called g f a b f' → b ≡ p a.0) → chars r ≡ past p (chars s)
    trimmed r h each =
        let tests = answers_always g (λ a b. b ≡ p a.0) f each in
        let k = cuts tests h.0.0 r h.0.1 in
        sym (k.1 ∙ none_left r k.0 h.1.0 (h.1.1 p tests) h.1.2)
