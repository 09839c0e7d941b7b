-- The content of a text or of a name in a line that is UTF-8 is UTF-8 too.
use Rattle.std.proofs.Common.{◌≡◌, ℕ, ◌+◌, ◌*◌, ◌<◌, ◌≤◌, Bool, true, false, cond, ◌&&◌, ◌||◌, ◌==◌, List}
use Rattle.std.proofs.Common.{[], ◌∷◌, ◌++◌, length, get_or, Option, Some, None, IfSome, option_and_then}
use Rattle.std.proofs.Common.{refl, sym, subst, arith, append_assoc, append-nil, length-append, eqb-true}
use Rattle.std.proofs.Math.Seq.{take-append_seam, drop-append-add, get_or-append_seam}
use Rattle.std.proofs.lemmas.Bool.{ltb-true, ltb-false, leb-true, lt-ltb, le-ltb, le-leb, cond_both}
use Rattle.std.proofs.lemmas.Bool.{and_parts}
use Rattle.std.proofs.lemmas.Str.{IsUtf8-append, IsUtf8-encode, IsUtf8-take, IsUtf8-drop, encode_ascii}
use Rattle.std.proofs.lemmas.Str.{IsCharBoundary-before_ascii, IsCharBoundary-after_ascii}
use Rattle.std.specs.Char.{digit_value, is_digit, encode_utf8, IsScalar}
use Rattle.std.specs.Prelude.{nat_lt, nat_le}
use Rattle.std.specs.Str.{IsUtf8}
use lib.Utf8.{low_scalar}
use Rattle.json.specs.Text.{Within, plain, after_backslash, after_u, after_high, content, prepend, code_unit}
use Rattle.json.specs.Text.{short_escape, is_high_surrogate, is_low_surrogate, surrogate_pair}

-- a text is cut at each byte below 128
pub cut_at_ascii : (before : List ℕ) (x : ℕ) (rest : List ℕ) → x < 128 → IsUtf8 (before ++ x ∷ rest)
    → IsUtf8 before × IsUtf8 rest
cut_at_ascii before x rest small u =
    let here : get_or (before ++ x ∷ rest) (length before) 0 ≡ x = get_or-append_seam before x rest 0 in
    let inside : length before < length (before ++ x ∷ rest) =
    omega (arith, length-append before (x ∷ rest)) in
    let ascii : get_or (before ++ x ∷ rest) (length before) 0 < 128 = omega (arith, here) in (
      subst IsUtf8 (take-append_seam before (x ∷ rest)) (IsUtf8-take (before ++ x ∷ rest) (length before) u
          (IsCharBoundary-before_ascii (before ++ x ∷ rest) (length before) inside ascii)),
      subst IsUtf8 (drop-append-add before (x ∷ rest) 1)
          (IsUtf8-drop (before ++ x ∷ rest) (length before + 1) u
          (IsCharBoundary-after_ascii (before ++ x ∷ rest) (length before) u inside ascii)),
    )

-- ---- the bytes of an escape

abbrev AreAscii : ℕ → Option ℕ → Type 0
AreAscii x o = IfSome o (λ c. (c < 128) × (x < 128))

one_short : (x y c : ℕ) (o : Option ℕ) → c < 128 → y < 128 → AreAscii x o
    → AreAscii x (cond (x == y) (Some c) o)
one_short x y c o small ascii others =
    cond_both (x == y) (Some c) o (AreAscii x) (λ e. let is : x ≡ y = eqb-true x y e in (small, omega arith))
    (λ _. others)

three_if : (p q : Bool) (x : ℕ) → (x == 34) ≡ p → (x == 92) ≡ q → (p || q || (x == 47)) ≡ true → x < 128
three_if true q x e f h = let is : x ≡ 34 = eqb-true x 34 e in omega arith
three_if false true x e f h = let is : x ≡ 92 = eqb-true x 92 f in omega arith
three_if false false x e f h = let is : x ≡ 47 = eqb-true x 47 h in omega arith

short_is : (x : ℕ) → AreAscii x (short_escape x)
unfolding short_escape
short_is x =
    cond_both ((x == 34) || (x == 92) || (x == 47)) (Some x) _ (AreAscii x)
    (λ e. let small = three_if (x == 34) (x == 92) x refl refl e in (small, small))
    (λ _. one_short x 98 8 _ (omega arith) (omega arith) (one_short x 102 12 _ (omega arith) (omega arith)
    (one_short x 110 10 _ (omega arith) (omega arith) (one_short x 114 13 _ (omega arith) (omega arith)
    (one_short x 116 9 _ (omega arith) (omega arith) tt)))))

high_digit : (x : ℕ) → 128 ≤ x → digit_value x ≡ 36
high_digit x h = rw (
  le-ltb x 48 (omega arith),
  le-ltb x 58 (omega arith),
  le-ltb x 65 (omega arith),
  le-ltb x 91 (omega arith),
  le-ltb x 97 (omega arith),
  le-ltb x 123 (omega arith),
) refl

hex_if : (t : Bool) (x : ℕ) → nat_lt x 128 ≡ t → digit_value x < 16 → x < 128
hex_if true x e h = ltb-true x 128 e
hex_if false x e h =
    let high : digit_value x ≡ 36 = high_digit x (ltb-false x 128 e) in
    absurd (omega (arith, high, h))

hex_is : (x : ℕ) → is_digit x 16 ≡ true → (x < 128) × (digit_value x < 16)
hex_is x h =
    let small : digit_value x < 16 = ltb-true (digit_value x) 16 h in
    (hex_if (nat_lt x 128) x refl small, small)

high_scalar : (c : ℕ) → 57344 ≤ c → c < 1114112 → IsScalar c
high_scalar c h k = rw (le-ltb c 55296 (omega arith), le-leb 57344 c h, lt-ltb c 1114112 k) refl

other_false : (a b : Bool) → a ≡ true → (a && b) ≡ false → b ≡ false
other_false true b e h = h
other_false false b e h = absurd (cc)

no_surrogate : (t : Bool) (u : ℕ) → nat_lt u 55296 ≡ t → is_high_surrogate u ≡ false
    → is_low_surrogate u ≡ false → u < 65536 → IsScalar u
no_surrogate true u e h l small = low_scalar u (ltb-true u 55296 e)
no_surrogate false u e h l small =
    let least : 55296 ≤ u = ltb-false u 55296 e in
    let most : 56320 ≤ u = ltb-false u 56320 (other_false (nat_le 55296 u) _ (le-leb 55296 u least) h) in
    let past : 57344 ≤ u = ltb-false u 57344 (other_false (nat_le 56320 u) _ (le-leb 56320 u most) l) in
    high_scalar u past (omega arith)

pair_is : (h u : ℕ) → 55296 ≤ h → h < 56320 → is_low_surrogate u ≡ true → IsScalar (surrogate_pair h u)
pair_is h u least most l =
    let p = and_parts (nat_le 56320 u) (nat_lt u 57344) l in
    let low : 56320 ≤ u = leb-true 56320 u p.0 in
    let top : u < 57344 = ltb-true u 57344 p.1 in
    high_scalar (surrogate_pair h u) (omega arith) (omega arith)

unit_if : (b : Bool) (a c d e : ℕ) → (is_digit a 16 && is_digit c 16 && is_digit d 16 && is_digit e 16) ≡ b
    → IfSome (cond b (Some (digit_value a * 4096 + digit_value c * 256 + digit_value d * 16 + digit_value e))
    None) (λ u. (u < 65536) × (e < 128))
unit_if false a c d e h = tt
unit_if true a c d e h =
    let p = and_parts (is_digit a 16 && is_digit c 16 && is_digit d 16) (is_digit e 16) h in
    let q = and_parts (is_digit a 16 && is_digit c 16) (is_digit d 16) p.0 in
    let r = and_parts (is_digit a 16) (is_digit c 16) q.0 in
    let first = hex_is a r.0 in
    let second = hex_is c r.1 in
    let third = hex_is d q.1 in
    let last = hex_is e p.1 in
    (omega (arith, first.1, second.1, third.1, last.1), last.0)

unit_is : (a c d e : ℕ) → IfSome (code_unit a c d e) (λ u. (u < 65536) × (e < 128))
unfolding code_unit
unit_is a c d e = unit_if _ a c d e refl

-- ---- what was read before, and what follows

abbrev Goes : List ℕ → List ℕ → Type 0
Goes before s = IsUtf8 (before ++ s)

abbrev Known : Within → List ℕ → List ℕ → Type 0
Known plain before rest = IsUtf8 (before ++ rest)
Known after_backslash before rest = IsUtf8 before × IsUtf8 rest
Known after_u before rest = IsUtf8 before × IsUtf8 rest
Known (after_high h) before rest = IsUtf8 before × IsUtf8 rest × (55296 ≤ h) × (h < 56320)

prepended : (c before : List ℕ) (o : Option (List ℕ)) → IfSome o (Goes (before ++ c))
    → IfSome (prepend c o) (Goes before)
prepended c before None h = tt
prepended c before (Some s) h = subst IsUtf8 (append_assoc before c s) h

-- an escape's character stands for it
escaped : (c before rest : List ℕ) → IsUtf8 c → IsUtf8 before → IsUtf8 rest
    → (Known plain (before ++ c) rest → IfSome (content plain rest) (Goes (before ++ c)))
    → IfSome (prepend c (content plain rest)) (Goes before)
escaped c before rest u v w more =
    prepended c before (content plain rest)
    (more (IsUtf8-append (before ++ c) rest (IsUtf8-append before c v u) w))

plain_byte : (q b l : Bool) (before rest : List ℕ) (x : ℕ) → (x == 34) ≡ q → (x == 92) ≡ b
    → Known plain before (x ∷ rest)
    → (Known after_backslash before rest → IfSome (content after_backslash rest) (Goes before))
    → IfSome (content plain rest) (Goes (before ++ x ∷ []))
    → IfSome (cond q (Some []) (cond b (content after_backslash rest)
    (cond l None (prepend (x ∷ []) (content plain rest))))) (Goes before)
plain_byte true b l before rest x e f u escape more =
    let is : x ≡ 34 = eqb-true x 34 e in
    subst IsUtf8 (sym (append-nil before)) (cut_at_ascii before x rest (omega arith) u).0
plain_byte false true l before rest x e f u escape more =
    let is : x ≡ 92 = eqb-true x 92 f in
    escape (cut_at_ascii before x rest (omega arith) u)
plain_byte false false true before rest x e f u escape more = tt
plain_byte false false false before rest x e f u escape more =
    prepended (x ∷ []) before (content plain rest) more

short_byte : (o : Option ℕ) (x : ℕ) (before rest : List ℕ) → IfSome o (λ c. (c < 128) × (x < 128))
    → Known after_backslash before (x ∷ rest)
    → ((c : List ℕ) → Known plain (before ++ c) rest → IfSome (content plain rest) (Goes (before ++ c)))
    → IfSome (option_and_then (λ c. prepend (c ∷ []) (content plain rest)) o) (Goes before)
short_byte None x before rest is u more = tt
short_byte (Some c) x before rest is u more =
    escaped (c ∷ []) before rest (IsUtf8-one c is.0) u.0 (cut_at_ascii [] x rest is.1 u.1).1 (more (c ∷ []))
  where
    IsUtf8-one : (c : ℕ) → c < 128 → IsUtf8 (c ∷ [])
    IsUtf8-one c small = subst IsUtf8 (encode_ascii c small) (IsUtf8-encode c (low_scalar c (omega arith)))

escape_byte : (t : Bool) (x : ℕ) (before rest : List ℕ) → (x == 117) ≡ t
    → Known after_backslash before (x ∷ rest)
    → (Known after_u before rest → IfSome (content after_u rest) (Goes before))
    → ((c : List ℕ) → Known plain (before ++ c) rest → IfSome (content plain rest) (Goes (before ++ c)))
    → IfSome (cond t (content after_u rest)
    (option_and_then (λ c. prepend (c ∷ []) (content plain rest)) (short_escape x))) (Goes before)
escape_byte true x before rest e u unit more =
    let is : x ≡ 117 = eqb-true x 117 e in
    unit (u.0, (cut_at_ascii [] x rest (omega arith) u.1).1)
escape_byte false x before rest e u unit more =
    short_byte (short_escape x) x before rest (short_is x) u more

-- a code unit that is no surrogate, or the first of a pair
unit_value : (h l : Bool) (u : ℕ) (before rest : List ℕ) → is_high_surrogate u ≡ h → is_low_surrogate u ≡ l
    → u < 65536 → IsUtf8 before → IsUtf8 rest
    → (Known (after_high u) before rest → IfSome (content (after_high u) rest) (Goes before))
    → ((c : List ℕ) → Known plain (before ++ c) rest → IfSome (content plain rest) (Goes (before ++ c)))
    → IfSome (cond h (content (after_high u) rest)
    (cond l None (prepend (encode_utf8 u) (content plain rest)))) (Goes before)
unit_value true l u before rest e f small v w high more =
    let p = and_parts (nat_le 55296 u) (nat_lt u 56320) e in
    high (v, w, leb-true 55296 u p.0, ltb-true u 56320 p.1)
unit_value false true u before rest e f small v w high more = tt
unit_value false false u before rest e f small v w high more =
    let is = no_surrogate (nat_lt u 55296) u refl e f small in
    escaped (encode_utf8 u) before rest (IsUtf8-encode u is) v w (more (encode_utf8 u))

unit_bytes : (o : Option ℕ) (x y z e : ℕ) (before rest : List ℕ) → IfSome o (λ u. (u < 65536) × (e < 128))
    → Known after_u before (x ∷ y ∷ z ∷ e ∷ rest)
    → ((u : ℕ) → Known (after_high u) before rest → IfSome (content (after_high u) rest) (Goes before))
    → ((c : List ℕ) → Known plain (before ++ c) rest → IfSome (content plain rest) (Goes (before ++ c)))
    → IfSome (option_and_then (λ u. cond (is_high_surrogate u) (content (after_high u) rest)
    (cond (is_low_surrogate u) None (prepend (encode_utf8 u) (content plain rest)))) o) (Goes before)
unit_bytes None x y z e before rest is u high more = tt
unit_bytes (Some n) x y z e before rest is u high more =
    unit_value (is_high_surrogate n) (is_low_surrogate n) n before rest refl refl is.0 u.0
    (cut_at_ascii (x ∷ y ∷ z ∷ []) e rest is.1 u.1).1 (high n) more

-- the second of a pair
low_value : (l : Bool) (h u : ℕ) (before rest : List ℕ) → is_low_surrogate u ≡ l → 55296 ≤ h → h < 56320
    → IsUtf8 before → IsUtf8 rest
    → ((c : List ℕ) → Known plain (before ++ c) rest → IfSome (content plain rest) (Goes (before ++ c)))
    → IfSome (cond l (prepend (encode_utf8 (surrogate_pair h u)) (content plain rest)) None) (Goes before)
low_value true h u before rest e least most v w more =
    let is = pair_is h u least most e in
    escaped (encode_utf8 (surrogate_pair h u)) before rest (IsUtf8-encode (surrogate_pair h u) is) v w
    (more (encode_utf8 (surrogate_pair h u)))
low_value false h u before rest e least most v w more = tt

low_bytes : (o : Option ℕ) (t : Bool) (h : ℕ) (front : List ℕ) (e : ℕ) (before rest : List ℕ)
    → IfSome o (λ u. (u < 65536) × (e < 128)) → Known (after_high h) before (front ++ e ∷ rest)
    → ((c : List ℕ) → Known plain (before ++ c) rest → IfSome (content plain rest) (Goes (before ++ c)))
    → IfSome (cond t (option_and_then (λ u. cond (is_low_surrogate u)
    (prepend (encode_utf8 (surrogate_pair h u)) (content plain rest)) None) o) None) (Goes before)
low_bytes o false h front e before rest is u more = tt
low_bytes None true h front e before rest is u more = tt
low_bytes (Some n) true h front e before rest is u more =
    low_value (is_low_surrogate n) h n before rest refl u.2 u.3 u.0
    (cut_at_ascii front e rest is.1 u.1).1 more

pub content_text : (w : Within) (rest before : List ℕ) → Known w before rest
    → IfSome (content w rest) (Goes before)
unfolding content
content_text plain [] before u = tt
content_text plain (x ∷ xs) before u =
    plain_byte (x == 34) (x == 92) (nat_lt x 32) before xs x refl refl u
    (content_text after_backslash xs before)
    (content_text plain xs (before ++ x ∷ []) (subst IsUtf8 (sym (append_assoc before (x ∷ []) xs)) u))
content_text after_backslash [] before u = tt
content_text after_backslash (x ∷ xs) before u =
    escape_byte (x == 117) x before xs refl u (content_text after_u xs before)
    (λ c. content_text plain xs (before ++ c))
content_text after_u [] before u = tt
content_text after_u (a ∷ []) before u = tt
content_text after_u (a ∷ b ∷ []) before u = tt
content_text after_u (a ∷ b ∷ c ∷ []) before u = tt
content_text after_u (a ∷ b ∷ c ∷ d ∷ xs) before u =
    unit_bytes (code_unit a b c d) a b c d before xs (unit_is a b c d) u
    (λ h. content_text (after_high h) xs before) (λ e. content_text plain xs (before ++ e))
content_text (after_high h) [] before u = tt
content_text (after_high h) (s ∷ []) before u = tt
content_text (after_high h) (s ∷ t ∷ []) before u = tt
content_text (after_high h) (s ∷ t ∷ a ∷ []) before u = tt
content_text (after_high h) (s ∷ t ∷ a ∷ b ∷ []) before u = tt
content_text (after_high h) (s ∷ t ∷ a ∷ b ∷ c ∷ []) before u = tt
content_text (after_high h) (s ∷ t ∷ a ∷ b ∷ c ∷ d ∷ xs) before u =
    low_bytes (code_unit a b c d) ((s == 92) && (t == 117)) h (s ∷ t ∷ a ∷ b ∷ c ∷ []) d before xs
    (unit_is a b c d) u (λ e. content_text plain xs (before ++ e))
