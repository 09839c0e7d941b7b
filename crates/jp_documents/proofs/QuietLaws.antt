-- What the texts of good tokens do not hold.
use Rattle.std.proofs.Common.{◌≡◌, ℕ, suc, ◌+◌, ◌==◌, ◌||◌, ◌&&◌, Bool, true, false, cond, nat_lt, nat_eq}
use Rattle.std.proofs.Common.{List, [], ◌∷◌}
use Rattle.std.proofs.Common.{arith, take, ◌-◌, refl, sym, ◌∙◌, ap, subst, length, drop, eqb-true, Option}
use Rattle.std.proofs.Common.{Some, None, option_and_then}
use Rattle.std.specs.Char.{is_digit, is_ascii_digit, encode_utf8}
use Rattle.std.specs.List.{prefix_len, starts_with}
use Rattle.json.specs.Text.{Within, plain, after_backslash, after_u, after_high, content, code_unit}
use Rattle.json.specs.Text.{short_escape, prepend}
use Rattle.json.specs.Text.{is_high_surrogate, is_low_surrogate, surrogate_pair}
use Rattle.json.specs.Token.{Token}
use Rattle.json.specs.Word.{is_operator, is_space, head, ends_word, after_digits, after_minus, after_sign}
use Rattle.json.specs.Word.{after_whole, after_fraction}
use Rattle.json.specs.Word.{after_exponent, after_number, number_before, literal, word}

pub ◌Bool-cases : (b : Bool) → (P : Bool → Type 0) → (b ≡ true → P true) → (b ≡ false → P false) → P b
◌Bool-cases true P f g = f refl
◌Bool-cases false P f g = g refl

-- a quote that ends a string, and no line feed before it, behind a backslash or not
abbrev pub quiet : Bool → List ℕ → Bool
quiet false [] = false
quiet true [] = false
quiet false (x ∷ xs) = cond (x == 34) true (cond (x == 92) (quiet true xs)
    (cond (x == 10) false (quiet false xs)))
quiet true (x ∷ xs) = cond (x == 10) false (quiet false xs)

prepended : (bytes : List ℕ) (o : Option (List ℕ)) (s : List ℕ) → prepend bytes o ≡ Some s
    → (t : List ℕ) × (o ≡ Some t)
prepended bytes None s e = absurd (cc)
prepended bytes (Some t) s e = (t, refl)

parted : {A B : Type 0} (f : A → Option B) (r : Option A) (b : B) → option_and_then f r ≡ Some b
    → (a : A) × (r ≡ Some a) × (f a ≡ Some b)
parted f None b e = absurd (cc)
parted f (Some a) b e = (a, refl, e)

plain_if : (a b l f : Bool) (x : ℕ) (xs s : List ℕ)
    → cond a (Some []) (cond b (content after_backslash xs)
    (cond l None (prepend (x ∷ []) (content plain xs)))) ≡ Some s
    → (f ≡ true → l ≡ true) → ((t : List ℕ) → content plain xs ≡ Some t → quiet false xs ≡ true)
    → ((t : List ℕ) → content after_backslash xs ≡ Some t → quiet true xs ≡ true)
    → cond a true (cond b (quiet true xs) (cond f false (quiet false xs))) ≡ true
plain_if true b l f x xs s e h p k = refl
plain_if false true l f x xs s e h p k = k s e
plain_if false false true f x xs s e h p k = absurd (cc)
plain_if false false false true x xs s e h p k = absurd (let n : false ≡ true = h refl in cc)
plain_if false false false false x xs s e h p k = let t = prepended (x ∷ []) (content plain xs) s e in
    p t.0 t.1

low_feed : (x : ℕ) → (x == 10) ≡ true → nat_lt x 32 ≡ true
low_feed x e = rw (eqb-true x 10 e) refl

-- a test that fails at a number is false of a byte at which it holds
unlike : (p : ℕ → Bool) (x c : ℕ) → p c ≡ false → p x ≡ true → (x == c) ≡ false
unlike p x c n h = ◌Bool-cases (x == c) (λ b. b ≡ false)
    (λ e. absurd (let same : x ≡ c = eqb-true x c e in let k : p x ≡ p c = ap p same in cc)) (λ e. refl)

hex_pass : (x : ℕ) (xs : List ℕ) → is_digit x 16 ≡ true → quiet false xs ≡ true → quiet false (x ∷ xs) ≡ true
hex_pass x xs h q =
    rw (
      unlike (λ b. is_digit b 16) x 34 refl h,
      unlike (λ b. is_digit b 16) x 92 refl h,
      unlike
          (λ b. is_digit b 16) x 10 refl h,
    ) q

and_both : (a b : Bool) → (a && b) ≡ true → (a ≡ true) × (b ≡ true)
and_both true b e = (refl, e)
and_both false b e = absurd (cc)

coded_if : (t : Bool) (n u : ℕ) → cond t (Some n) None ≡ Some u → t ≡ true
coded_if true n u e = refl
coded_if false n u e = absurd (cc)

unit_pass : (a b c d u : ℕ) (xs : List ℕ) → code_unit a b c d ≡ Some u → quiet false xs ≡ true
    → quiet false (a ∷ b ∷ c ∷ d ∷ xs) ≡ true
unfolding code_unit
unit_pass a b c d u xs e q =
    let all = coded_if (is_digit a 16 && is_digit b 16 && is_digit c 16 && is_digit d 16) _ u e in
    let l = and_both (is_digit a 16 && is_digit b 16 && is_digit c 16) (is_digit d 16) all in
    let m = and_both (is_digit a 16 && is_digit b 16) (is_digit c 16) l.0 in
    let n = and_both (is_digit a 16) (is_digit b 16) m.0 in
    hex_pass a (b ∷ c ∷ d ∷ xs) n.0 (hex_pass b (c ∷ d ∷ xs) n.1
    (hex_pass c (d ∷ xs) m.1 (hex_pass d xs l.1 q)))

backslash_if : (t : Bool) (x : ℕ) (xs s : List ℕ) → cond t (content after_u xs)
    (option_and_then (λ c. prepend (c ∷ []) (content plain xs)) (short_escape x)) ≡ Some s
    → ((t : List ℕ) → content after_u xs ≡ Some t → quiet false xs ≡ true)
    → ((t : List ℕ) → content plain xs ≡ Some t → quiet false xs ≡ true) → quiet false xs ≡ true
backslash_if true x xs s e u p = u s e
backslash_if false x xs s e u p =
    let k = parted (λ c. prepend (c ∷ []) (content plain xs)) (short_escape x) s e in
    let t = prepended (k.0 ∷ []) (content plain xs) s k.2 in p t.0 t.1

no_feed_escape : (xs s : List ℕ) → cond (10 == 117) (content after_u xs)
    (option_and_then (λ c. prepend (c ∷ []) (content plain xs)) (short_escape 10)) ≡ Some s → ⊥
unfolding short_escape
no_feed_escape xs s e = absurd (cc)

unit_if : (h l : Bool) (u : ℕ) (bytes xs s : List ℕ)
    → cond h (content (after_high u) xs) (cond l None (prepend bytes (content plain xs))) ≡ Some s
    → ((t : List ℕ) → content (after_high u) xs ≡ Some t → quiet false xs ≡ true)
    → ((t : List ℕ) → content plain xs ≡ Some t → quiet false xs ≡ true) → quiet false xs ≡ true
unit_if true l u bytes xs s e k p = k s e
unit_if false true u bytes xs s e k p = absurd (cc)
unit_if false false u bytes xs s e k p = let t = prepended bytes (content plain xs) s e in p t.0 t.1

low_if : (l : Bool) (bytes xs s : List ℕ) → cond l (prepend bytes (content plain xs)) None ≡ Some s
    → ((t : List ℕ) → content plain xs ≡ Some t → quiet false xs ≡ true) → quiet false xs ≡ true
low_if true bytes xs s e p = let t = prepended bytes (content plain xs) s e in p t.0 t.1
low_if false bytes xs s e p = absurd (cc)

some_if : {A : Type 0} (t : Bool) (o : Option A) (a : A) → cond t o None ≡ Some a → (t ≡ true) × (o ≡ Some a)
some_if true o a e = (refl, e)
some_if false o a e = absurd (cc)

abbrev pub Calm : Within → List ℕ → Type 0
Calm plain xs = quiet false xs ≡ true
Calm after_backslash xs = quiet true xs ≡ true
Calm after_u xs = quiet false xs ≡ true
Calm (after_high h) xs = quiet false xs ≡ true

-- a string that is read has no line feed
pub content_quiet : (w : Within) (xs s : List ℕ) → content w xs ≡ Some s → Calm w xs
unfolding content
content_quiet plain [] s e = absurd (cc)
content_quiet plain (x ∷ xs) s e =
    plain_if (x == 34) (x == 92) (nat_lt x 32) (x == 10) x xs s e (low_feed x) (content_quiet plain xs)
    (content_quiet after_backslash xs)
content_quiet after_backslash [] s e = absurd (cc)
content_quiet after_backslash (x ∷ xs) s e =
    ◌Bool-cases (x == 10) (λ b. cond b false (quiet false xs) ≡ true)
    (λ f. absurd (no_feed_escape xs s (let P : ℕ → Type 0 = λ y. cond (y == 117) (content after_u xs)
    (option_and_then (λ c. prepend (c ∷ []) (content plain xs)) (short_escape y)) ≡ Some s in
    subst P (eqb-true x 10 f) e)))
    (λ f. backslash_if (x == 117) x xs s e (content_quiet after_u xs) (content_quiet plain xs))
content_quiet after_u [] s e = absurd (cc)
content_quiet after_u (a ∷ []) s e = absurd (cc)
content_quiet after_u (a ∷ b ∷ []) s e = absurd (cc)
content_quiet after_u (a ∷ b ∷ c ∷ []) s e = absurd (cc)
content_quiet after_u (a ∷ b ∷ c ∷ d ∷ xs) s e =
    let k = parted (λ u. cond (is_high_surrogate u) (content (after_high u) xs)
    (cond (is_low_surrogate u) None (prepend (encode_utf8 u) (content plain xs)))) (code_unit a b c d) s e in
    unit_pass a b c d k.0 xs k.1
    (unit_if (is_high_surrogate k.0) (is_low_surrogate k.0) k.0 (encode_utf8 k.0) xs s k.2
    (content_quiet (after_high k.0) xs) (content_quiet plain xs))
content_quiet (after_high h) [] s e = absurd (cc)
content_quiet (after_high h) (x ∷ []) s e = absurd (cc)
content_quiet (after_high h) (x ∷ y ∷ []) s e = absurd (cc)
content_quiet (after_high h) (x ∷ y ∷ a ∷ []) s e = absurd (cc)
content_quiet (after_high h) (x ∷ y ∷ a ∷ b ∷ []) s e = absurd (cc)
content_quiet (after_high h) (x ∷ y ∷ a ∷ b ∷ c ∷ []) s e = absurd (cc)
content_quiet (after_high h) (x ∷ y ∷ a ∷ b ∷ c ∷ d ∷ xs) s e =
    let k = some_if ((x == 92) && (y == 117)) _ s e in
    let m = and_both (x == 92) (y == 117) k.0 in
    let n = parted (λ l. cond (is_low_surrogate l)
    (prepend (encode_utf8 (surrogate_pair h l)) (content plain xs)) None) (code_unit a b c d) s k.1 in
    rw (eqb-true x 92 m.0, eqb-true y 117 m.1)
    (unit_pass a b c d n.0 xs n.1 (low_if (is_low_surrogate n.0)
    (encode_utf8 (surrogate_pair h n.0)) xs s n.2 (content_quiet plain xs)))

-- ---- words

-- no quote before the end of a word
abbrev pub quiet_word : List ℕ → Bool
quiet_word [] = true
quiet_word (x ∷ xs) = cond (is_operator x || is_space x) true (cond (x == 34) false (quiet_word xs))

word_pass : (x : ℕ) (xs : List ℕ) → (x == 34) ≡ false → quiet_word xs ≡ true → quiet_word (x ∷ xs) ≡ true
word_pass x xs n q = ◌Bool-cases (is_operator x || is_space x)
    (λ b. cond b true (cond (x == 34) false (quiet_word xs)) ≡ true)
    (λ e. refl) (λ e. rw n q)

-- where a word ends
ended_quiet : (t : List ℕ) → ends_word t ≡ true → quiet_word t ≡ true
ended_quiet [] e = refl
ended_quiet (x ∷ xs) e = rw e refl

-- a part of a word that is taken away holds no quote
abbrev Passes : List ℕ → List ℕ → Type 0
Passes t rest = quiet_word rest ≡ true → quiet_word t ≡ true

head_pass : (p : ℕ → Bool) (t : List ℕ) → p 32 ≡ false → p 34 ≡ false → p (head t) ≡ true
    → Passes t (drop 1 t)
head_pass p [] s n h q = refl
head_pass p (x ∷ xs) s n h q = word_pass x xs (unlike p x 34 n h) q

minus_pass : (t : List ℕ) → Passes t (after_minus t)
minus_pass t = ◌Bool-cases (head t == 45) (λ b. Passes t (cond b (drop 1 t) t))
    (λ e. head_pass (λ x. x == 45) t refl refl e) (λ e q. q)

sign_pass : (t : List ℕ) → Passes t (after_sign t)
sign_pass t = ◌Bool-cases ((head t == 45) || (head t == 43)) (λ b. Passes t (cond b (drop 1 t) t))
    (λ e. head_pass (λ x. (x == 45) || (x == 43)) t refl refl e) (λ e q. q)

digit_if : (b : Bool) (x : ℕ) (xs : List ℕ) (n : ℕ) → is_ascii_digit x ≡ b → Passes xs (drop n xs)
    → Passes (x ∷ xs) (drop (cond b (1 + n) 0) (x ∷ xs))
digit_if true x xs n e h q = let one : 1 + n ≡ suc n = omega arith in
    let r : quiet_word (drop (suc n) (x ∷ xs)) ≡ true = rw one at q in
    word_pass x xs (unlike is_ascii_digit x 34 refl e) (h r)
digit_if false x xs n e h q = q

digits_all : (t : List ℕ) → Passes t (drop (prefix_len is_ascii_digit t) t)
digits_all [] q = refl
digits_all (x ∷ xs) q = digit_if (is_ascii_digit x) x xs (prefix_len is_ascii_digit xs) refl (digits_all xs) q

none_if : {A : Type 0} (t : Bool) (o : Option A) (a : A) → cond t None o ≡ Some a → o ≡ Some a
none_if true o a e = absurd (cc)
none_if false o a e = e

same_pass : (t u rest : List ℕ) → ◌≡◌ {A = Option (List ℕ)} (Some u) (Some rest) → Passes t u → Passes t rest
same_pass t u rest e h = let s : u ≡ rest = cc in let P : List ℕ → Type 0 = λ l. Passes t l in subst P s h

digits_pass : (t rest : List ℕ) → after_digits t ≡ Some rest → Passes t rest
digits_pass t rest e = same_pass t _ rest (none_if (prefix_len is_ascii_digit t == 0) _ rest e) (digits_all t)

whole_pass : (t rest : List ℕ) → after_whole t ≡ Some rest → Passes t rest
whole_pass t rest = ◌Bool-cases (head t == 48)
    (λ b. cond b (Some (drop 1 t)) (after_digits t) ≡ Some rest → Passes t rest)
    (λ e f. same_pass t (drop 1 t) rest f (head_pass (λ x. x == 48) t refl refl e))
    (λ e f. digits_pass t rest f)

fraction_pass : (t rest : List ℕ) → after_fraction t ≡ Some rest → Passes t rest
fraction_pass t rest = ◌Bool-cases (head t == 46)
    (λ b. cond b (after_digits (drop 1 t)) (Some t) ≡ Some rest → Passes t rest)
    (λ e f q. head_pass (λ x. x == 46) t refl refl e (digits_pass (drop 1 t) rest f q))
    (λ e f. same_pass t t rest f (λ q. q))

exponent_pass : (t rest : List ℕ) → after_exponent t ≡ Some rest → Passes t rest
exponent_pass t rest = ◌Bool-cases ((head t == 101) || (head t == 69))
    (λ b. cond b (after_digits (after_sign (drop 1 t))) (Some t) ≡ Some rest → Passes t rest)
    (λ e f q. head_pass (λ x. (x == 101) || (x == 69)) t refl refl e
    (sign_pass (drop 1 t) (digits_pass (after_sign (drop 1 t)) rest f q)))
    (λ e f. same_pass t t rest f (λ q. q))

number_pass : (t rest : List ℕ) → after_number t ≡ Some rest → Passes t rest
unfolding after_number
number_pass t rest e q =
    let k = parted after_exponent (option_and_then after_fraction (after_whole (after_minus t))) rest e in
    let l = parted after_fraction (after_whole (after_minus t)) k.0 k.1 in
    minus_pass t (whole_pass (after_minus t) l.0 l.1
    (fraction_pass l.0 k.0 l.2 (exponent_pass k.0 rest k.2 q)))

-- a word is bad, or a scalar's
abbrev pub Scalar : Token → Type 0
Scalar Token.begin_object = ⊥
Scalar Token.end_object = ⊥
Scalar Token.begin_array = ⊥
Scalar Token.end_array = ⊥
Scalar (Token.key s) = ⊥
Scalar (Token.string s) = ⊥
Scalar (Token.number s) = Unit {0}
Scalar (Token.boolean b) = Unit {0}
Scalar Token.null = Unit {0}
Scalar Token.bad = Unit {0}

abbrev pub IsBad : Token → Type 0
IsBad Token.begin_object = ⊥
IsBad Token.end_object = ⊥
IsBad Token.begin_array = ⊥
IsBad Token.end_array = ⊥
IsBad (Token.key s) = ⊥
IsBad (Token.string s) = ⊥
IsBad (Token.number s) = ⊥
IsBad (Token.boolean b) = ⊥
IsBad Token.null = ⊥
IsBad Token.bad = Unit {0}

-- a token of a word, which has no quote unless it is bad
abbrev pub Fine : List ℕ → Token → Type 0
Fine t k = Scalar k × ((IsBad k → ⊥) → quiet_word t ≡ true)

fine_bad : (t : List ℕ) → Fine t Token.bad
fine_bad t = (tt, λ n. absurd (n tt))

fine_if : (b : Bool) (t : List ℕ) (k m : Token) → (b ≡ true → Fine t k) → Fine t m → Fine t (cond b k m)
fine_if true t k m f g = f refl
fine_if false t k m f g = g

-- the bytes of a literal
abbrev no_quotes : List ℕ → Bool
no_quotes [] = true
no_quotes (x ∷ xs) = cond (x == 34) false (no_quotes xs)

quoteless : (b : Bool) (q : Bool) → cond b false q ≡ true → (b ≡ false) × (q ≡ true)
quoteless true q e = absurd (cc)
quoteless false q e = (refl, e)

name_pass : (name t : List ℕ) → starts_with nat_eq t name ≡ true → no_quotes name ≡ true
    → Passes t (drop (length name) t)
name_pass [] t s q p = p
name_pass (y ∷ ys) [] s q p = refl
name_pass (y ∷ ys) (x ∷ xs) s q p =
    let k = and_both (nat_eq y x) (starts_with nat_eq xs ys) s in
    let n = quoteless (y == 34) (no_quotes ys) q in
    let e : x ≡ y = sym (eqb-true y x k.0) in
    word_pass x xs (ap (λ z. z == 34) e ∙ n.0) (name_pass ys xs k.1 n.1 p)

scalar_fine : (t : List ℕ) (k : Token) → Scalar k → quiet_word t ≡ true → Fine t k
scalar_fine t k s q = (s, λ n. q)

literal_fine : (name t : List ℕ) (k : Token) → Scalar k → no_quotes name ≡ true → Fine t (literal name k t)
literal_fine name t k s q =
    fine_if (starts_with nat_eq t name && ends_word (drop (length name) t)) t k Token.bad
    (λ e. let b = and_both (starts_with nat_eq t name) (ends_word (drop (length name) t)) e in
    scalar_fine t k s (name_pass name t b.0 q (ended_quiet (drop (length name) t) b.1)))
    (fine_bad t)

number_fine : (t : List ℕ) (o : Option (List ℕ)) → after_number t ≡ o → Fine t (number_before t o)
number_fine t None e = fine_bad t
number_fine t (Some rest) e =
    fine_if (ends_word rest) t (Token.number (take (length t - length rest) t)) Token.bad
    (λ w. scalar_fine t (Token.number (take (length t - length rest) t)) tt
    (number_pass t rest e (ended_quiet rest w))) (fine_bad t)

pub word_fine : (t : List ℕ) → Fine t (word t)
unfolding word
word_fine t =
    fine_if (head t == 116) t _ _ (λ e. literal_fine (116 ∷ 114 ∷ 117 ∷ 101 ∷ []) t
    (Token.boolean true) tt refl)
    (fine_if (head t == 102) t _ _ (λ e. literal_fine (102 ∷ 97 ∷ 108 ∷ 115 ∷ 101 ∷ []) t
    (Token.boolean false) tt refl)
    (fine_if (head t == 110) t _ _ (λ e. literal_fine (110 ∷ 117 ∷ 108 ∷ 108 ∷ []) t Token.null tt refl)
    (number_fine t (after_number t) refl)))
