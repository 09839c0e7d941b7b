-- Names, numbers, strings and literals: what is read is spelled so, and what is spelled so is read.
use Rattle.std.proofs.Common.{◌≡◌, ℕ, ◌<◌, Bool, true, false, not, cond, ◌||◌, ◌&&◌, eqb, [], ◌∷◌, ◌++◌}
use Rattle.std.proofs.Common.{length, Option, Some, None, refl, sym, ap, subst, ◌∙◌, append_assoc}
use Rattle.std.proofs.Common.{length-append, arith, inl, inr}
use Rattle.std.specs.Prelude.{IsTrue, bytes_eq, codes}
use Rattle.std.proofs.lemmas.Bool.Decides.{nat_tests}
use Rattle.std.proofs.lemmas.Slice.Eq.{bytes_eq-Decides}
use Rattle.std.proofs.lemmas.Bool.{eqb-true, ne_eqb, eq-eqb, or_cases, and_parts, not-true, cases_Bool}
use Rattle.std.proofs.lemmas.Option.{cond_some, same_Some, option_and_then_some}
use Rattle.jp_tree.specs.Tree.{Text}
use Rattle.jp_tree.specs.Tree as tree
use Rattle.jp_tree.specs.Characters.{is_blank, is_digit, is_positive_digit, is_lower, is_function_character}
use Rattle.jp_tree.specs.Characters.{is_first, is_name_character, is_quote, is_bare, escaped, is_hex_digit}
use Rattle.jp_tree.specs.Characters.{hex_number, is_surrogate, is_high_surrogate, is_low_surrogate}
use Rattle.jp_tree.specs.Characters.{pair_value}
use Rattle.jp_tree.specs.Parts.{IsRun, run, Each, IsOptional, absent, present, Star}
use Rattle.jp_tree.specs.Strings.{Piece, bare, escape, unicode, surrogates, HexIs, four, IsString, quoted}
use Rattle.jp_tree.specs.Numbers.{IsInt, zero_int, positive_int, negative_int, IsDigits, IsWhole}
use Rattle.jp_tree.specs.Numbers.{whole_int, minus_zero, IsFraction, fraction, IsSign, no_sign, plus_sign}
use Rattle.jp_tree.specs.Numbers.{minus_sign, IsExponent, exponent, is_exponent_mark, IsNumber, number}
use Rattle.jp_tree.specs.Spelling.{IsShorthand, IsFunctionName, LiteralIs}
use Rattle.jp_tree.specs.Spelling.{number_literal, text_literal, true_literal, false_literal, null_literal}
use Rattle.jp_tokens.specs.Reading.{Outcome, ◌>>=◌, taken, past, run_at, mark_at, name_at, function_name_at}
use Rattle.jp_tokens.specs.Reading.{digits_at, positive_at, int_at, minus_at, whole_at, fraction_at, is_sign}
use Rattle.jp_tokens.specs.Reading.{sign_at, exponent_at, number_at, hex_at, pair_at, unicode_at, escape_at}
use Rattle.jp_tokens.specs.Reading.{piece_at, string_at, word_literal, word_at, literal_at}
use Rattle.jp_tokens.proofs.Fronts.{given, bind_some, chosen, Front, run_whole, run_each, run_at_whole}
use Rattle.jp_tokens.proofs.Fronts.{starts, IsTurn, all_sound, Steps, all_whole}
use Rattle.jp_tokens.proofs.Following.{differs, firm, Meets, Leaves, after_side, side_before_digit}
use Rattle.jp_tokens.proofs.Following.{side_before_point, side_before_mark, side_before_word}
use Rattle.jp_tokens.proofs.OneValue.{bare_is_no_backslash, bare_is_no_quote, no_letter_u}

-- a part whose value is its own text
abbrev pub Itself : (Text → Type 0) → Text → Text → Type 0
Itself P s v = P s × (s ≡ v)

pub carried : {A : Type 0} (Part : Text → A → Type 0) (t : Text) (y p : A × Text)
    → ◌≡◌ {A = Outcome A} (Some y) (Some p) → Front Part t y.0 y.1 → Front Part t p.0 p.1
carried {A} Part t y p e f = subst (λ (p : A × Text). Front Part t p.0 p.1) (same_Some y p e) f

-- ---- runs

pub run_sound : (first later : ℕ → Bool) (t x rest : Text) → run_at first later t ≡ Some (x, rest)
    → Front (Itself (IsRun first later)) t x rest
unfolding run_at
run_sound first later [] x rest e = absurd cc
run_sound first later (c ∷ t) x rest e =
    let g = cond_some (first c) (c ∷ taken later t, past later t) (x, rest) e in
    subst (λ (p : Text × Text). Front (Itself (IsRun first later)) (c ∷ t) p.0 p.1) g.1
    (record {
      front = c ∷ taken later t;
      part = (run c (taken later t) g.0 (run_each later t), refl);
      whole =
          ap (λ (u : Text). c ∷ u) (run_whole later t);
    })

pub run_read : (first later : ℕ → Bool) (s u : Text) → IsRun first later s → starts (λ c. not (later c)) u
    ≡ true → run_at first later (s ++ u) ≡ Some (s, u)
unfolding run_at
run_read first later s u (run c t f h) stop = let r = run_at_whole later t u h stop in rw (f, r.0, r.1) refl

pub weaker : (P R : Text → Type 0) (t x rest : Text) → ((s : Text) → P s → R s) → Front (Itself P) t x rest
    → Front (Itself R) t x rest
weaker P R t x rest h f = record { front = f.front; part = (h f.front f.part.0, f.part.1); whole = f.whole }

pub name_sound : (t x rest : Text) → name_at t ≡ Some (x, rest) → Front (Itself IsShorthand) t x rest
name_sound = run_sound is_first is_name_character

pub name_whole : (s u : Text) → IsShorthand s → starts (λ c. not (is_name_character c)) u ≡ true
    → name_at (s ++ u) ≡ Some (s, u)
name_whole = run_read is_first is_name_character

pub function_sound : (t x rest : Text) → function_name_at t ≡ Some (x, rest)
    → Front (Itself IsFunctionName) t x rest
function_sound = run_sound is_lower is_function_character

pub function_whole : (s u : Text) → IsFunctionName s → starts (λ c. not (is_function_character c)) u ≡ true
    → function_name_at (s ++ u) ≡ Some (s, u)
function_whole = run_read is_lower is_function_character

digits_sound : (t x rest : Text) → digits_at t ≡ Some (x, rest) → Front (Itself IsDigits) t x rest
digits_sound = run_sound is_digit is_digit

digits_whole : (s u : Text) → IsDigits s → starts (λ c. not (is_digit c)) u ≡ true
    → digits_at (s ++ u) ≡ Some (s, u)
digits_whole = run_read is_digit is_digit

-- ---- integers

abbrev pub IsPositive : Text → Type 0
IsPositive = IsRun is_positive_digit is_digit

int_of : (s : Text) → IsPositive s → IsInt s
int_of s (run c t d h) = positive_int c t d h

int_minus : (s : Text) → IsPositive s → IsInt (45 ∷ s)
int_minus s (run c t d h) = negative_int c t d h

positive_sound : (t x rest : Text) → positive_at t ≡ Some (x, rest) → Front (Itself IsPositive) t x rest
positive_sound t x rest e = run_sound is_positive_digit is_digit t x rest e

-- what is read behind one more character
behind_minus : (c : ℕ) (t x rest : Text) → eqb c 45 ≡ true → (positive_at t >>= given (λ (u : Text). 45 ∷ u))
    ≡ Some (x, rest) → Front (Itself IsInt) (c ∷ t) x rest
behind_minus c t x rest h e =
    option_and_then_some (given (λ (u : Text). 45 ∷ u)) (positive_at t) (x, rest) e (λ a k l.
    let f = positive_sound t a.0 a.1 k in
    let is : c ≡ 45 = eqb-true c 45 h in
    carried (Itself IsInt) (c ∷ t) (45 ∷ a.0, a.1) (x, rest) l
    (record {
      front = 45 ∷ f.front;
      part = (int_minus f.front f.part.0, ap (λ (u : Text). 45 ∷ u) f.part.1);
      whole = rw is (ap (λ (u : Text). 45 ∷ u) f.whole);
    }))

pub int_sound : (t x rest : Text) → int_at t ≡ Some (x, rest) → Front (Itself IsInt) t x rest
unfolding int_at
int_sound [] x rest e = absurd cc
int_sound (c ∷ t) x rest e =
    elim (chosen (eqb c 48) (Some (48 ∷ [], t)) _ (Some (x, rest)) e) [
      | inl h ↦
          let is : c ≡ 48 = eqb-true c 48 h.0 in
          carried (Itself IsInt) (c ∷ t) (48 ∷ [], t) (x, rest) h.1
          (record { front = 48 ∷ []; part = (zero_int, refl); whole = rw is refl })
      | inr h ↦ elim (chosen (eqb c 45) _ (positive_at (c ∷ t)) (Some (x, rest)) h.1) [
        | inl k ↦ behind_minus c t x rest k.0 k.1
        | inr k ↦ weaker IsPositive IsInt (c ∷ t) x rest int_of (positive_sound (c ∷ t) x rest k.1)
      ]
    ]

pub int_whole : (s u : Text) → IsInt s → starts (λ c. not (is_digit c)) u ≡ true
    → int_at (s ++ u) ≡ Some (s, u)
unfolding int_at
int_whole s u zero_int stop = refl
int_whole s u (positive_int c t d h) stop =
    rw (
      differs is_positive_digit 48 refl c d,
      differs is_positive_digit 45 refl c d,
      run_read
          is_positive_digit is_digit (c ∷ t) u (run c t d h) stop,
    ) refl
int_whole s u (negative_int c t d h) stop =
    rw (run_read is_positive_digit is_digit (c ∷ t) u (run c t d h) stop) refl

-- ---- numbers

minus_sound : (c : ℕ) (t x rest : Text) → eqb c 45 ≡ true → minus_at t ≡ Some (x, rest)
    → Front (Itself IsWhole) (c ∷ t) x rest
unfolding minus_at
minus_sound c [] x rest m e = absurd cc
minus_sound c (d ∷ t) x rest m e =
    let is : c ≡ 45 = eqb-true c 45 m in
    elim (chosen (eqb d 48) (Some (45 ∷ 48 ∷ [], t)) _ (Some (x, rest)) e) [
      | inl h ↦
          let nought : d ≡ 48 = eqb-true d 48 h.0 in
          carried (Itself IsWhole) (c ∷ d ∷ t) (45 ∷ 48 ∷ [], t) (x, rest) h.1
          (record { front = 45 ∷ 48 ∷ []; part = (minus_zero, refl); whole = rw (is, nought) refl })
      | inr h ↦ weaker IsInt IsWhole (c ∷ d ∷ t) x rest (λ s i. whole_int s i)
          (behind_minus c (d ∷ t) x rest m h.1)
    ]

whole_sound : (t x rest : Text) → whole_at t ≡ Some (x, rest) → Front (Itself IsWhole) t x rest
unfolding whole_at
whole_sound [] x rest e = absurd cc
whole_sound (c ∷ t) x rest e =
    elim (chosen (eqb c 45) (minus_at t) (int_at (c ∷ t)) (Some (x, rest)) e) [
      | inl h ↦ minus_sound c t x rest h.0 h.1
      | inr h ↦ weaker IsInt IsWhole (c ∷ t) x rest (λ s i. whole_int s i) (int_sound (c ∷ t) x rest h.1)
    ]

whole_read : (s u : Text) → IsWhole s → starts (λ c. not (is_digit c)) u ≡ true
    → whole_at (s ++ u) ≡ Some (s, u)
unfolding whole_at minus_at
whole_read s u (whole_int t zero_int) stop = int_whole (48 ∷ []) u zero_int stop
whole_read s u (whole_int w (positive_int c t d h)) stop = rw (differs is_positive_digit 45 refl c d)
    (int_whole (c ∷ t) u (positive_int c t d h) stop)
whole_read s u (whole_int w (negative_int c t d h)) stop =
    rw (
      differs is_positive_digit 48 refl c d,
      run_read is_positive_digit is_digit (c ∷ t) u (run c t d h)
          stop,
    ) refl
whole_read s u minus_zero stop = refl

fraction_of : (c : ℕ) (t x rest : Text) → eqb c 46 ≡ true → (digits_at t >>= given (λ (u : Text). 46 ∷ u))
    ≡ Some (x, rest) → Front (Itself (IsOptional IsFraction)) (c ∷ t) x rest
fraction_of c t x rest h e =
    option_and_then_some (given (λ (u : Text). 46 ∷ u)) (digits_at t) (x, rest) e (λ a k l.
    let f = digits_sound t a.0 a.1 k in
    let is : c ≡ 46 = eqb-true c 46 h in
    carried (Itself (IsOptional IsFraction)) (c ∷ t) (46 ∷ a.0, a.1) (x, rest) l
    (record {
      front = 46 ∷ f.front;
      part =
          (present (46 ∷ f.front) (fraction f.front f.part.0), ap (λ (u : Text). 46 ∷ u) f.part.1);
      whole =
          rw is (ap (λ (u : Text). 46 ∷ u) f.whole);
    }))

nothing_read : (P : Text → Type 0) (t x rest : Text) → ◌≡◌ {A = Outcome Text} (Some ([], t)) (Some (x, rest))
    → Front (Itself (IsOptional P)) t x rest
nothing_read P t x rest e = carried (Itself (IsOptional P)) t ([], t) (x, rest) e
    (record { front = []; part = (absent, refl); whole = refl })

fraction_sound : (t x rest : Text) → fraction_at t ≡ Some (x, rest)
    → Front (Itself (IsOptional IsFraction)) t x rest
unfolding fraction_at
fraction_sound [] x rest e = nothing_read IsFraction [] x rest e
fraction_sound (c ∷ t) x rest e =
    elim (chosen (eqb c 46) _ (Some ([], c ∷ t)) (Some (x, rest)) e) [
      | inl h ↦ fraction_of c t x rest h.0 h.1
      | inr h ↦ nothing_read IsFraction (c ∷ t) x rest h.1
    ]

fraction_read : (s u : Text) → IsOptional IsFraction s → starts (λ c. not (is_digit c)) u ≡ true
    → starts (λ c. not (eqb c 46)) u ≡ true → fraction_at (s ++ u) ≡ Some (s, u)
unfolding fraction_at
fraction_read s [] absent stop point = refl
fraction_read s (c ∷ u) absent stop point = rw (not-true (eqb c 46) point) refl
fraction_read s u (present t (fraction d h)) stop point = rw (digits_whole d u h stop) refl

sign_front : (t : Text) → IsSign (sign_at t).0 × (t ≡ (sign_at t).0 ++ (sign_at t).1)
sign_front [] = (no_sign, refl)
sign_front (c ∷ t) =
    let pick : Bool → Text × Text = λ b. cond b (c ∷ [], t) ([], c ∷ t) in
    let P : Bool → Type 0 = λ b. IsSign (pick b).0 × (c ∷ t ≡ (pick b).0 ++ (pick b).1) in
    elim (cases_Bool (is_sign c)) [
      | inl h ↦
          let sign : IsSign (c ∷ []) = elim (or_cases (eqb c 43) (eqb c 45) h) [
            | inl k ↦ let is : c ≡ 43 = eqb-true c 43 k in rw is plus_sign
            | inr k ↦ let is : c ≡ 45 = eqb-true c 45 k in rw is minus_sign
          ] in
          subst P (sym h) (sign, refl)
      | inr h ↦ subst P (sym h) (no_sign, refl)
    ]

exponent_of : (c : ℕ) (t x rest : Text) → is_exponent_mark c ≡ true
    → (digits_at (sign_at t).1 >>= given (λ (u : Text). c ∷ (sign_at t).0 ++ u)) ≡ Some (x, rest)
    → Front (Itself (IsOptional IsExponent)) (c ∷ t) x rest
exponent_of c t x rest h e =
    option_and_then_some (given (λ (u : Text). c ∷ (sign_at t).0 ++ u)) (digits_at (sign_at t).1) (x, rest) e
    (λ a k l.
    let f = digits_sound (sign_at t).1 a.0 a.1 k in
    let s = sign_front t in
    carried (Itself (IsOptional IsExponent)) (c ∷ t) (c ∷ (sign_at t).0 ++ a.0, a.1) (x, rest) l (record {
      front = c ∷ (sign_at t).0 ++ f.front;
      part = (
        present (c ∷ (sign_at t).0 ++ f.front) (exponent c (sign_at t).0 f.front h s.0 f.part.0),
        ap
            (λ (u : Text). c ∷ (sign_at t).0 ++ u) f.part.1,
      );
      whole = ap (λ (u : Text). c ∷ u) (s.1 ∙ ap (λ (u : Text). (sign_at t).0 ++ u) f.whole
          ∙ sym (append_assoc (sign_at t).0 f.front a.1));
    }))

exponent_sound : (t x rest : Text) → exponent_at t ≡ Some (x, rest)
    → Front (Itself (IsOptional IsExponent)) t x rest
unfolding exponent_at
exponent_sound [] x rest e = nothing_read IsExponent [] x rest e
exponent_sound (c ∷ t) x rest e =
    elim (chosen (is_exponent_mark c) _ (Some ([], c ∷ t)) (Some (x, rest)) e) [
      | inl h ↦ exponent_of c t x rest h.0 h.1
      | inr h ↦ nothing_read IsExponent (c ∷ t) x rest h.1
    ]

digit_no_sign : (c : ℕ) → is_digit c ≡ true → is_sign c ≡ false
digit_no_sign c h = rw (differs is_digit 43 refl c h, differs is_digit 45 refl c h) refl

sign_read : (s t u : Text) → IsSign s → IsDigits t → sign_at (s ++ (t ++ u)) ≡ (s, t ++ u)
sign_read s w u no_sign (run c t d h) = rw (digit_no_sign c d) refl
sign_read s t u plus_sign h = refl
sign_read s t u minus_sign h = refl

exponent_read : (s u : Text) → IsOptional IsExponent s → starts (λ c. not (is_digit c)) u ≡ true
    → starts (λ c. not (is_exponent_mark c)) u ≡ true → exponent_at (s ++ u) ≡ Some (s, u)
unfolding exponent_at
exponent_read s [] absent stop mark = refl
exponent_read s (c ∷ u) absent stop mark = rw (not-true (is_exponent_mark c) mark) refl
exponent_read w u (present r (exponent c s t m g h)) stop mark =
    rw (m, append_assoc s t u, sign_read s t u g h, digits_whole t u h stop) refl

pub number_sound : (t x rest : Text) → number_at t ≡ Some (x, rest) → Front (Itself IsNumber) t x rest
unfolding number_at
number_sound t x rest e =
    option_and_then_some (λ whole. fraction_at whole.1 >>= λ part. exponent_at part.1 >>= λ power. Some
    (whole.0 ++ (part.0 ++ power.0), power.1)) (whole_at t) (x, rest) e (λ a ea ka.
    option_and_then_some (λ part. exponent_at part.1 >>= λ power. Some (a.0 ++ (part.0 ++ power.0), power.1))
    (fraction_at a.1) (x, rest) ka (λ b eb kb.
    option_and_then_some (λ power. Some (a.0 ++ (b.0 ++ power.0), power.1)) (exponent_at b.1) (x, rest) kb
    (λ d ed kd.
    let f = whole_sound t a.0 a.1 ea in
    let g = fraction_sound a.1 b.0 b.1 eb in
    let h = exponent_sound b.1 d.0 d.1 ed in
    carried (Itself IsNumber) t (a.0 ++ (b.0 ++ d.0), d.1) (x, rest) kd (record {
      front = f.front ++ (g.front ++ h.front);
      part = (
        number f.front g.front h.front f.part.0 g.part.0 h.part.0,
        rw (f.part.1, g.part.1, h.part.1)
            refl,
      );
      whole = f.whole ∙ ap (λ (u : Text). f.front ++ u) (g.whole ∙ ap (λ (u : Text). g.front ++ u) h.whole)
          ∙ simp append_assoc;
    }))))

-- a class without marks, digits and points stops before an exponent too
mark_all : (P : ℕ → Type 0) → P 101 → P 69 → (c : ℕ) → is_exponent_mark c ≡ true → P c
mark_all P a b c h = elim (or_cases (eqb c 101) (eqb c 69) h) [
  | inl k ↦ let m : 101 ≡ c = sym (eqb-true c 101 k) in subst P m a
  | inr k ↦ let m : 69 ≡ c = sym (eqb-true c 69 k) in subst P m b
]

exponent_leaves : (q : ℕ → Bool) → q 101 ≡ false → q 69 ≡ false → (t u : Text) → IsOptional IsExponent t
    → Leaves q u → Leaves q (t ++ u)
exponent_leaves q a b t u absent h = h
exponent_leaves q a b w u (present r (exponent c s t m g k)) h = ap not (mark_all (λ d. q d ≡ false) a b c m)

fraction_leaves : (s t u : Text) → IsOptional IsFraction s → IsOptional IsExponent t → Leaves is_digit u
    → Leaves is_digit (s ++ (t ++ u))
fraction_leaves s t u absent k h = exponent_leaves is_digit refl refl t u k h
fraction_leaves s t u (present r (fraction d p)) k h = refl

number_parts : (r s t u : Text) → whole_at (r ++ (s ++ (t ++ u))) ≡ Some (r, s ++ (t ++ u))
    → fraction_at (s ++ (t ++ u)) ≡ Some (s, t ++ u) → exponent_at (t ++ u) ≡ Some (t, u)
    → number_at (r ++ (s ++ (t ++ u))) ≡ Some (r ++ (s ++ t), u)
unfolding number_at
number_parts r s t u a b c = rw (a, b, c) refl

pub number_whole : (s u : Text) → IsNumber s → Meets after_side u → number_at (s ++ u) ≡ Some (s, u)
number_whole w u (number r s t h f e) m =
    let shape : (r ++ (s ++ t)) ++ u ≡ r ++ (s ++ (t ++ u)) = simp append_assoc in
    let d : Leaves is_digit u = side_before_digit u m in
    let x : Leaves is_digit (t ++ u) = exponent_leaves is_digit refl refl t u e d in
    let p : Leaves (λ c. eqb c 46) (t ++ u) = exponent_leaves (λ c. eqb c 46) refl refl t u e
    (side_before_point u m) in
    ap number_at shape ∙ number_parts r s t u (whole_read r (s ++ (t ++ u)) h (fraction_leaves s t u f e d))
    (fraction_read s (t ++ u) f x p) (exponent_read t u e d (side_before_mark u m))

-- ---- strings

-- the quote that closes
abbrev pub Close : ℕ → Text → Type 0
Close quote s = s ≡ quote ∷ []

pub mark_sound : (mark : ℕ) (t rest : Text) → mark_at mark t ≡ Some rest → t ≡ mark ∷ rest
unfolding mark_at
mark_sound mark [] rest e = absurd cc
mark_sound mark (c ∷ t) rest e =
    let g = cond_some (eqb c mark) t rest e in
    let h : c ≡ mark = eqb-true c mark g.0 in
    rw (h, g.1) refl

pub mark_whole : (mark : ℕ) (u : Text) → mark_at mark (mark ∷ u) ≡ Some u
unfolding mark_at
mark_whole mark u = rw (eq-eqb mark mark refl) refl

hex_sound : (t : Text) (n : ℕ) (rest : Text) → hex_at t ≡ Some (n, rest) → Front HexIs t n rest
unfolding hex_at
hex_sound [] n rest e = absurd cc
hex_sound (a ∷ []) n rest e = absurd cc
hex_sound (a ∷ b ∷ []) n rest e = absurd cc
hex_sound (a ∷ b ∷ c ∷ []) n rest e = absurd cc
hex_sound (a ∷ b ∷ c ∷ d ∷ t) n rest e =
    let g = cond_some (is_hex_digit a && is_hex_digit b && is_hex_digit c && is_hex_digit d)
    (hex_number a b c d, t) (n, rest) e in
    let abc = and_parts (is_hex_digit a && is_hex_digit b && is_hex_digit c) (is_hex_digit d) g.0 in
    let ab = and_parts (is_hex_digit a && is_hex_digit b) (is_hex_digit c) abc.0 in
    let a1 = and_parts (is_hex_digit a) (is_hex_digit b) ab.0 in
    subst (λ (p : ℕ × Text). Front HexIs (a ∷ b ∷ c ∷ d ∷ t) p.0 p.1) g.1
    (record {
      front = a ∷ b ∷ c ∷ d ∷ [];
      part = four a b c d (a1.0, (a1.1, (ab.1, (abc.1, tt))));
      whole =
          refl;
    })

hex_read : (s : Text) (n : ℕ) (u : Text) → HexIs s n → hex_at (s ++ u) ≡ Some (n, u)
unfolding hex_at
hex_read s n u (four a b c d h) = rw (h.0, h.1.0, h.1.1.0, h.1.1.1.0) refl

-- one character of a string, or the end
abbrev pub Next : ℕ → Text → Option ℕ → Type 0
Next quote = IsTurn (piece_at quote) (Piece quote) (Close quote)

neither_surrogate : (n : ℕ) → is_high_surrogate n ≡ false → is_low_surrogate n ≡ false
    → IsTrue (not (is_surrogate n))
neither_surrogate n h k = rw (h, k) refl

pair_shape : (s u v w r x y z : Text) → x ≡ s ++ u → u ≡ 92 ∷ v → v ≡ 117 ∷ w → w ≡ r ++ y
    → 92 ∷ 117 ∷ x ≡ (92 ∷ 117 ∷ s ++ 92 ∷ 117 ∷ r) ++ y
pair_shape s u v w r x y z a b c d = rw (a, b, c, d) (simp append_assoc)

abbrev low_given : ℕ → ℕ × Text → Outcome (Option ℕ)
low_given high low = cond (is_low_surrogate low.0) (Some (Some (pair_value high low.0), low.1)) None

pair_sound : (quote : ℕ) (t : Text) (high : ℕ) (u : Text) (o : Option ℕ) (rest : Text) → Front HexIs t high u
    → is_high_surrogate high ≡ true → pair_at high u ≡ Some (o, rest)
    → Front (Next quote) (92 ∷ 117 ∷ t) o rest
unfolding pair_at
pair_sound quote t high u o rest f h e =
    option_and_then_some (λ v. mark_at 117 v >>= λ w. hex_at w >>= low_given high) (mark_at 92 u) (o, rest) e
    (λ v ev kv.
    option_and_then_some (λ w. hex_at w >>= low_given high) (mark_at 117 v) (o, rest) kv (λ w ew kw.
    option_and_then_some (low_given high) (hex_at w) (o, rest) kw (λ low el kl.
    let g = cond_some (is_low_surrogate low.0) (Some (pair_value high low.0), low.1) (o, rest) kl in
    let r = hex_sound w low.0 low.1 el in
    subst (λ (p : Option ℕ × Text). Front (Next quote) (92 ∷ 117 ∷ t) p.0 p.1) g.1 (record {
      front = 92 ∷ 117 ∷ f.front ++ 92 ∷ 117 ∷ r.front;
      part = surrogates f.front r.front high low.0 f.part h r.part g.0;
      whole = pair_shape f.front u v w r.front t low.1 [] f.whole (mark_sound 92 u v ev)
          (mark_sound 117 v w ew) r.whole;
    }))))

abbrev high_given : ℕ × Text → Outcome (Option ℕ)
high_given r = cond (is_high_surrogate r.0) (pair_at r.0 r.1)
    (cond (is_low_surrogate r.0) None (Some (Some r.0, r.1)))

unicode_sound : (quote : ℕ) (t : Text) (o : Option ℕ) (rest : Text) → unicode_at t ≡ Some (o, rest)
    → Front (Next quote) (92 ∷ 117 ∷ t) o rest
unfolding unicode_at
unicode_sound quote t o rest e =
    option_and_then_some high_given (hex_at t) (o, rest) e (λ r er kr.
    let f = hex_sound t r.0 r.1 er in
    elim (chosen (is_high_surrogate r.0) (pair_at r.0 r.1)
    (cond (is_low_surrogate r.0) None (Some (Some r.0, r.1))) (Some (o, rest)) kr) [
      | inl h ↦ pair_sound quote t r.0 r.1 o rest f h.0 h.1
      | inr h ↦ elim (chosen (is_low_surrogate r.0) None (Some (Some r.0, r.1)) (Some (o, rest)) h.1) [
        | inl k ↦ absurd cc
        | inr k ↦ carried (Next quote) (92 ∷ 117 ∷ t) (Some r.0, r.1) (o, rest) k.1 (record {
          front = 92 ∷ 117 ∷ f.front;
          part = unicode f.front r.0 f.part (neither_surrogate r.0 h.0 k.0);
          whole = ap (λ (u : Text). 92 ∷ 117 ∷ u) f.whole;
        })
      ]
    ])

escape_sound : (quote : ℕ) (t : Text) (o : Option ℕ) (rest : Text) → escape_at quote t ≡ Some (o, rest)
    → Front (Next quote) (92 ∷ t) o rest
unfolding escape_at
escape_sound quote [] o rest e = absurd cc
escape_sound quote (c ∷ t) o rest e =
    elim (chosen (eqb c 117) (unicode_at t) _ (Some (o, rest)) e) [
      | inl h ↦ let is : c ≡ 117 = eqb-true c 117 h.0 in rw is (unicode_sound quote t o rest h.1)
      | inr h ↦
          let b = bind_some (escaped quote c) (λ value. Some (Some value, t)) (o, rest) h.1 in
          carried (Next quote) (92 ∷ c ∷ t) (Some b.0, t) (o, rest) b.2
          (record { front = 92 ∷ c ∷ []; part = escape c b.0 b.1; whole = refl })
    ]

pub piece_sound : (quote : ℕ) (t : Text) (o : Option ℕ) (rest : Text) → piece_at quote t ≡ Some (o, rest)
    → Front (Next quote) t o rest
unfolding piece_at
piece_sound quote [] o rest e = absurd cc
piece_sound quote (c ∷ t) o rest e =
    elim (chosen (eqb c quote) (Some (None, t)) _ (Some (o, rest)) e) [
      | inl h ↦ carried (Next quote) (c ∷ t) (None, t) (o, rest) h.1
          (record { front = c ∷ []; part = ap (λ (d : ℕ). d ∷ []) (eqb-true c quote h.0); whole = refl })
      | inr h ↦ elim (chosen (eqb c 92) (escape_at quote t) _ (Some (o, rest)) h.1) [
        | inl k ↦ let is : c ≡ 92 = eqb-true c 92 k.0 in rw is (escape_sound quote t o rest k.1)
        | inr k ↦
            let g = cond_some (is_bare quote c) (Some c, t) (o, rest) k.1 in
            subst (λ (p : Option ℕ × Text). Front (Next quote) (c ∷ t) p.0 p.1) g.1
            (record { front = c ∷ []; part = bare c g.0; whole = refl })
      ]
    ]

pub string_sound : (quote : ℕ) (t value rest : Text) → is_quote quote ≡ true
    → string_at quote t ≡ Some (value, rest) → Front IsString (quote ∷ t) value rest
string_sound quote t value rest q e =
    let m = all_sound (piece_at quote) (Piece quote) (Close quote) (piece_sound quote) [] value t rest e in
    rw m.list (record {
      front = quote ∷ m.front ++ quote ∷ [];
      part = quoted quote m.front m.more q m.parts;
      whole = ap (λ (u : Text). quote ∷ u) (m.whole ∙ ap (λ (u : Text). m.front ++ (u ++ rest)) m.ends
          ∙ sym (append_assoc m.front (quote ∷ []) rest));
    })

backslash_is_no_quote : (quote : ℕ) → is_quote quote ≡ true → eqb 92 quote ≡ false
backslash_is_no_quote quote q = elim (or_cases (eqb quote 34) (eqb quote 39) q) [
  | inl h ↦ let is : quote ≡ 34 = eqb-true quote 34 h in rw is refl
  | inr h ↦ let is : quote ≡ 39 = eqb-true quote 39 h in rw is refl
]

letter_is_no_u : (quote letter value : ℕ) → is_quote quote ≡ true → escaped quote letter ≡ Some value
    → eqb letter 117 ≡ false
letter_is_no_u quote letter value q e =
    ne_eqb letter 117 (λ same.
    let k : escaped quote 117 ≡ Some value = subst (λ (n : ℕ). escaped quote n ≡ Some value) same e in
    let none = no_letter_u quote q in
    let f : ◌≡◌ {A = Option ℕ} None (Some value) = sym none ∙ k in absurd cc)

plain_value : (n : ℕ) → IsTrue (not (is_surrogate n)) → (is_high_surrogate n ≡ false)
    × (is_low_surrogate n ≡ false)
plain_value n h = either_off (is_high_surrogate n) (is_low_surrogate n) h
  where
    either_off : (x y : Bool) → not (x || y) ≡ true → (x ≡ false) × (y ≡ false)
    either_off true y k = absurd cc
    either_off false true k = absurd cc
    either_off false false k = (refl, refl)

pub piece_some : (quote : ℕ) (s : Text) (x : ℕ) → Piece quote s x → 0 < length s
piece_some quote s x (bare c h) = omega arith
piece_some quote s x (escape c value h) = omega arith
piece_some quote s x (unicode t value h k) = omega arith
piece_some quote s x (surrogates t w m n f g i k) = omega arith

piece_read : (quote : ℕ) → is_quote quote ≡ true → (s : Text) (x : ℕ) (u : Text) → Piece quote s x
    → piece_at quote (s ++ u) ≡ Some (Some x, u)
unfolding piece_at escape_at unicode_at pair_at
piece_read quote q s x u (bare c h) = rw (h, bare_is_no_quote quote c h, bare_is_no_backslash quote c h) refl
piece_read quote q s x u (escape c value h) =
    rw (backslash_is_no_quote quote q, letter_is_no_u quote c value q h, h) refl
piece_read quote q w x u (unicode t value h k) =
    let p = plain_value value k in rw (backslash_is_no_quote quote q, hex_read t value u h, p.0, p.1) refl
piece_read quote q z x u (surrogates s t high low h i k l) =
    let shape : (s ++ 92 ∷ 117 ∷ t) ++ u ≡ s ++ (92 ∷ 117 ∷ (t ++ u)) = append_assoc s (92 ∷ 117 ∷ t) u in
    rw (
      backslash_is_no_quote quote q,
      shape,
      hex_read s high (92 ∷ 117 ∷ (t ++ u)) h,
      i,
      mark_whole 92
          (117 ∷ (t ++ u)),
      mark_whole 117 (t ++ u),
      hex_read t low u k,
      l,
    ) refl

piece_steps : (quote limit : ℕ) → is_quote quote ≡ true → Steps (piece_at quote) (Piece quote) (λ u. Unit {0})
    limit
piece_steps quote limit q = record {
  some = λ s x p. piece_some quote s x p;
  good = λ s x u p g. tt;
  step = λ s x u p le g. (u, piece_read quote q s x u p, refl);
}

piece_end : (quote : ℕ) (u : Text) → piece_at quote (quote ∷ u) ≡ Some (None, u)
unfolding piece_at
piece_end quote u = rw (eq-eqb quote quote refl) refl

pub string_whole : (quote : ℕ) (t value u : Text) → is_quote quote ≡ true → Star (Piece quote) t value
    → string_at quote (t ++ quote ∷ u) ≡ Some (value, u)
string_whole quote t value u q ps = all_whole (piece_at quote) (Piece quote) (λ u. Unit {0}) (length t)
    (piece_steps quote (length t) q) [] (t ++ quote ∷ u) t value (quote ∷ u) u refl
    (omega (arith, length-append t (quote ∷ u))) ps (omega arith) tt (piece_end quote u)

-- ---- literals

word_is : (t : Text) (x : tree.Literal) → word_literal t ≡ Some x → LiteralIs t x
word_is t x e =
    elim (chosen (bytes_eq t (codes "true")) (Some (tree.truth true)) _ (Some x) e) [
      | inl h ↦
          let is : t ≡ codes "true" = (bytes_eq-Decides t (codes "true")).0 h.0 in
          let same : tree.truth true ≡ x = same_Some (tree.truth true) x h.1 in
          rw (is, ← same) true_literal
      | inr h ↦ elim (chosen (bytes_eq t (codes "false")) (Some (tree.truth false)) _ (Some x) h.1) [
        | inl k ↦
            let is : t ≡ codes "false" = (bytes_eq-Decides t (codes "false")).0 k.0 in
            let same : tree.truth false ≡ x = same_Some (tree.truth false) x k.1 in
            rw (is, ← same) false_literal
        | inr k ↦
            let g = cond_some (bytes_eq t (codes "null")) tree.null x k.1 in
            let is : t ≡ codes "null" = (bytes_eq-Decides t (codes "null")).0 g.0 in
            rw (is, ← g.1) null_literal
      ]
    ]

word_sound : (t : Text) (x : tree.Literal) (rest : Text) → word_at t ≡ Some (x, rest)
    → Front LiteralIs t x rest
unfolding word_at
word_sound t x rest e =
    option_and_then_some (λ r. word_literal r.0 >>= λ y. Some (y, r.1)) (function_name_at t) (x, rest) e
    (λ r er kr.
    option_and_then_some (λ y. Some (y, r.1)) (word_literal r.0) (x, rest) kr (λ y ey ky.
    let f = function_sound t r.0 r.1 er in
    carried LiteralIs t (y, r.1) (x, rest) ky
    (record {
      front = f.front;
      part = subst (λ (w : Text). LiteralIs w y) (sym f.part.1) (word_is r.0 y ey);
      whole = f.whole;
    })))

pub literal_sound : (t : Text) (x : tree.Literal) (rest : Text) → literal_at t ≡ Some (x, rest)
    → Front LiteralIs t x rest
unfolding literal_at
literal_sound [] x rest e = absurd cc
literal_sound (c ∷ t) x rest e =
    elim (chosen (is_quote c) _ _ (Some (x, rest)) e) [
      | inl h ↦
          option_and_then_some (given (λ v. tree.text v)) (string_at c t) (x, rest) h.1 (λ r er kr.
          let f = string_sound c t r.0 r.1 h.0 er in
          carried LiteralIs (c ∷ t) (tree.text r.0, r.1) (x, rest) kr
          (record { front = f.front; part = text_literal f.front r.0 f.part; whole = f.whole }))
      | inr h ↦ elim (chosen (is_lower c) (word_at (c ∷ t)) _ (Some (x, rest)) h.1) [
        | inl k ↦ word_sound (c ∷ t) x rest k.1
        | inr k ↦
            option_and_then_some (given (λ v. tree.number v)) (number_at (c ∷ t)) (x, rest) k.1 (λ r er kr.
            let f = number_sound (c ∷ t) r.0 r.1 er in
            carried LiteralIs (c ∷ t) (tree.number r.0, r.1) (x, rest) kr
            (record {
              front = f.front;
              part = subst (λ (w : Text). LiteralIs f.front (tree.number w))
                  f.part.1 (number_literal f.front f.part.0);
              whole = f.whole;
            }))
      ]
    ]

pub positive_not_lower : (c : ℕ) → is_positive_digit c ≡ true → is_lower c ≡ false
positive_not_lower c h = grind (arith, nat_tests)

number_literal_read : (s u : Text) → IsNumber s → number_at (s ++ u) ≡ Some (s, u)
    → literal_at (s ++ u) ≡ Some (tree.number s, u)
unfolding literal_at
number_literal_read w u (number r s t (whole_int v zero_int) f x) e = rw e refl
number_literal_read w u (number r s t (whole_int v (positive_int c d p h)) f x) e =
    rw (
      differs is_positive_digit 34 refl c p,
      differs is_positive_digit 39 refl c p,
      positive_not_lower c p,
      e,
    ) refl
number_literal_read w u (number r s t (whole_int v (negative_int c d p h)) f x) e = rw e refl
number_literal_read w u (number r s t minus_zero f x) e = rw e refl

string_literal_read : (quote : ℕ) (w value u : Text) → is_quote quote ≡ true
    → string_at quote (w ++ quote ∷ u) ≡ Some (value, u) → literal_at (quote ∷ (w ++ quote ∷ u))
    ≡ Some (tree.text value, u)
unfolding literal_at
string_literal_read quote w value u q e = rw (q, e) refl

word_literal_read : (s : Text) (x : tree.Literal) (u : Text) → function_name_at (s ++ u) ≡ Some (s, u)
    → word_literal s ≡ Some x → word_at (s ++ u) ≡ Some (x, u)
unfolding word_at
word_literal_read s x u e h = rw (e, h) refl

pub literal_whole : (s : Text) (x : tree.Literal) (u : Text) → LiteralIs s x → Meets after_side u
    → literal_at (s ++ u) ≡ Some (x, u)
unfolding literal_at
literal_whole s x u (number_literal t h) m = number_literal_read t u h (number_whole t u h m)
literal_whole s x u (text_literal t v (quoted quote w value q ps)) m =
    ap (λ (k : Text). literal_at (quote ∷ k)) (append_assoc w (quote ∷ []) u)
    ∙ string_literal_read quote w value u q (string_whole quote w value u q ps)
literal_whole s x u true_literal m = word_literal_read (codes "true") x u
    (function_whole (codes "true") u (run 116 (codes "rue") refl (refl, (refl, (refl, tt))))
    (side_before_word u m)) refl
literal_whole s x u false_literal m = word_literal_read (codes "false") x u
    (function_whole (codes "false") u
    (run 102 (codes "alse") refl (refl, (refl, (refl, (refl, tt))))) (side_before_word u m)) refl
literal_whole s x u null_literal m = word_literal_read (codes "null") x u
    (function_whole (codes "null") u (run 110 (codes "ull") refl (refl, (refl, (refl, tt))))
    (side_before_word u m)) refl

positive_firm : (c : ℕ) → is_positive_digit c ≡ true → is_blank c ≡ false
positive_firm c h = rw (
  differs is_positive_digit 32 refl c h,
  differs is_positive_digit 9 refl c h,
  differs
      is_positive_digit 10 refl c h,
  differs is_positive_digit 13 refl c h,
) refl

pub int_firm : (s : Text) → IsInt s → firm s ≡ true
int_firm s zero_int = refl
int_firm s (positive_int c t d h) = ap not (positive_firm c d)
int_firm s (negative_int c t d h) = refl

pub quote_firm : (c : ℕ) → is_quote c ≡ true → is_blank c ≡ false
quote_firm c h = rw (
  differs is_quote 32 refl c h,
  differs is_quote 9 refl c h,
  differs is_quote 10 refl c h,
  differs is_quote 13 refl c h,
) refl
