-- How the code cuts a text in two.
use Rattle.std.proofs.Common.{◌≡◌, ℕ, ◌-◌, ◌≤◌, Bool, true, false, ◌==◌, List, [], ◌∷◌, ◌++◌, length, take}
use Rattle.std.proofs.Common.{Some, None, Result, Ok, Err, refl, sym, ap, subst, ◌∙◌, arith, length-append}
use Rattle.std.specs.Prelude.{OnOk, is_ok, if◌then◌else◌}
use Rattle.std.specs.Str.{chars, IsUtf8, IsCharBoundary, encode_utf8_all}
use Rattle.std.proofs.lemmas.List.{append-nil, append_cancel_right, take_at}
use Rattle.std.proofs.lemmas.Bool.{ne_eqb}
use Rattle.std.proofs.lemmas.Option.{same_Some}
use Rattle.std.proofs.lemmas.Str.{chars-encodes, chars-append, encodes-chars, encodes-append}
use Rattle.std.proofs.lemmas.Str.{length-le-encodes, IsCharBoundary-at_seam}
use Rattle.std.proofs.Math.Utf8.{encode, scalars}
use Rattle.jp_tree.specs.Tree.{Text}
use Rattle.jp_tokens.specs.Reading.{Outcome, behind, past, run_at}
use Rattle.jp_tokens.proofs.Fronts.{Front}
use Rattle.jp_tokens.proofs.LeavesRead.{Itself}

-- a text has no more characters than bytes
pub chars_fit : (bs : List ℕ) → IsUtf8 bs → length (chars bs) ≤ length bs
chars_fit bs u =
    let least = length-le-encodes (chars bs) in
    let size = ap length (encodes-chars bs u) in
    omega arith

-- a text with no byte is the one with no character
some_size : {A : Type 0} (x : A) (xs : List A) → (length (x ∷ xs) == 0) ≡ false
some_size x xs = ne_eqb (length (x ∷ xs)) 0 (λ e. absurd (omega arith))

some_character : (cs bs : List ℕ) (b : ℕ) → encode_utf8_all cs ≡ b ∷ bs → (length cs == 0) ≡ false
some_character [] bs b e = absurd cc
some_character (c ∷ cs) bs b e = some_size c cs

pub at_end : (bs : List ℕ) → IsUtf8 bs → (length (chars bs) == 0) ≡ (length bs == 0)
unfolding chars
at_end [] u = refl
at_end (b ∷ bs) u = some_character (chars (b ∷ bs)) bs b (encodes-chars (b ∷ bs) u) ∙ sym (some_size b bs)

-- the text ends in the rest, and stands cut where the rest begins
module _ (text rest front : List ℕ) (u : IsUtf8 text) (v : IsUtf8 rest) (e : chars text ≡ front ++ chars rest)
  where
    in_two : text ≡ encode_utf8_all front ++ rest
    in_two = sym (encodes-chars text u) ∙ ap encode_utf8_all e ∙ encodes-append front (chars rest)
        ∙ ap (λ (t : List ℕ). encode_utf8_all front ++ t) (encodes-chars rest v)

    pub rest_fits : length rest ≤ length text
    rest_fits = let l = ap length in_two in omega (arith, length-append (encode_utf8_all front) rest)

    seam : length (encode_utf8_all front) ≡ length text - length rest
    seam = let l = ap length in_two in omega (arith, length-append (encode_utf8_all front) rest)

    pub may_cut : IsCharBoundary text (length text - length rest)
    may_cut = subst (IsCharBoundary text) seam (IsCharBoundary-at_seam text (encode_utf8_all front) rest
        in_two
        v)

    pub front_is : (s : List ℕ) → IsUtf8 s → s ≡ take (length text - length rest) text
        → chars text ≡ chars s ++ chars rest
    front_is s w h =
        let same : s ≡ encode_utf8_all front = h ∙ ap (take (length text - length rest)) in_two
        ∙ take_at (encode_utf8_all front) rest (length text - length rest) seam in
        ap chars (in_two ∙ ap (λ (t : List ℕ). t ++ rest) (sym same)) ∙ chars-append s rest w

-- ---- what is read, and the rest

module _ (P : Text → Type 0) (o : Outcome Text) (t rest : Text) (e : behind o ≡ Some rest)
    (sound : (x r : Text) → o ≡ Some (x, r) → Front (Itself P) t x r) where
  read_as : (o : Outcome Text) → behind o ≡ Some rest → (x : Text) × (o ≡ Some (x, rest))
  read_as (Some p) e = (p.0, ap (λ (r : Text). Some (p.0, r)) (same_Some p.1 rest e))
  read_as None e = absurd cc

  pub some_front : (front : Text) × (t ≡ front ++ rest)
  some_front =
      let r = read_as o e in
      let f = sound r.0 rest r.1 in
      (f.front, f.whole)

  pub front_read : (front : Text) → t ≡ front ++ rest → o ≡ Some (front, rest)
  front_read front h =
      let r = read_as o e in
      let f = sound r.0 rest r.1 in
      r.1 ∙ ap (λ (x : Text). Some (x, rest)) (sym f.part.1
      ∙ append_cancel_right f.front front rest (sym f.whole ∙ h))

pub run_behind : (first later : ℕ → Bool) (t more rest : Text) (c : ℕ) → t ≡ c ∷ more → first c ≡ true
    → rest ≡ past later more → behind (run_at first later t) ≡ Some rest
unfolding run_at
run_behind first later t more rest c e h r = rw (e, h, r) refl

chars_one : (c : ℕ) → scalars (c ∷ []) ≡ true → chars (encode c) ≡ c ∷ []
chars_one c s = ap chars (sym (append-nil (encode c))) ∙ chars-encodes (c ∷ []) s

-- a character at the end of a text
pub pushed : {X E : Type 0} (r : Result X E) (old new : List ℕ) (c : ℕ) → IsUtf8 old → scalars (c ∷ []) ≡ true
    → new ≡ (if is_ok r then old ++ encode c else old) → OnOk r (chars new ≡ chars old ++ c ∷ [])
pushed (Ok x) old new c u s e = ap chars e ∙ chars-append old (encode c) u
    ∙ ap (λ (t : List ℕ). chars old ++ t) (chars_one c s)
pushed (Err x) old new c u s e = tt
