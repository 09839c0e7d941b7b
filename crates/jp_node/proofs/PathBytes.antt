-- The bytes of a path.
use Rattle.std.proofs.Common.{◌≡◌, ℕ, ◌/◌, ◌%◌, ◌<◌, ◌≤◌, ◌^◌}
use Rattle.std.proofs.Common.{◌==◌, Bool, true, false, List, [], ◌∷◌, ◌++◌, refl, ap, sym, ◌∙◌, arith}
use Rattle.std.proofs.Common.{append_assoc, decimal, codes, inl, inr, ◌⊎◌}
use Rattle.std.specs.Prelude.{nat_lt, encode_utf8_all}
use Rattle.std.specs.List.{flat_map, list_all, AllByRecursion}
use Rattle.std.specs.Str.{chars, IsUtf8, IsAscii}
use Rattle.std.proofs.lemmas.Str.{chars_from_encodes, IsUtf8-append, IsUtf8-from_ascii, encodes-append}
use Rattle.std.proofs.lemmas.Str.{encode_ascii, encodes-chars, scalars-chars, encodes-IsAscii}
use Rattle.std.proofs.lemmas.Fmt.{IsAscii-decimal}
use Rattle.std.proofs.lemmas.List.{append-nil}
use Rattle.std.proofs.lemmas.Grind.{flat_map-append}
use Rattle.std.proofs.lemmas.Bool.{and_parts, and_from, cond_both}
use Rattle.std.proofs.lemmas.Bool.Decides.{nat_tests}
use borrow.Author.Tests.{ltb-true, ltb-false}
use lib.Utf8.{encode, next, scalar, scalars, low_scalar}
use Rattle.jp_doc.specs.Location.{name, index}
use Rattle.jp_node.specs.Bare.{stands_bare}
use Rattle.jp_node.specs.Path.{escaped, hex_digit, step_text}

-- a text of ASCII alone is its own bytes
abbrev IsOwn : List ℕ → Type 0
IsOwn t = encode_utf8_all t ≡ t

own_more : (c : ℕ) (t : List ℕ) → c < 128 → IsOwn t → IsOwn (c ∷ t)
own_more c t h g = rw (encode_ascii c h, g) refl

hex_small : (d : ℕ) → d < 16 → hex_digit d < 128
hex_small d h = grind arith

control_own : (c : ℕ) → c < 32 → IsOwn (92 ∷ 117 ∷ 48 ∷ 48 ∷ hex_digit (c / 16) ∷ hex_digit (c % 16) ∷ [])
control_own c h =
    let high : hex_digit (c / 16) < 128 = hex_small (c / 16) (omega arith) in
    let low : hex_digit (c % 16) < 128 = hex_small (c % 16) (omega arith) in
    own_more 92 _ (omega arith)
    (own_more 117 _ (omega arith)
    (own_more 48 _ (omega arith)
    (own_more 48 _ (omega arith) (own_more _ _ high (own_more _ [] low refl)))))

two_own : (a b : ℕ) → a < 128 → b < 128 → IsOwn (a ∷ b ∷ [])
two_own a b h g = own_more a (b ∷ []) h (own_more b [] g refl)

escaped_own : (c : ℕ) → c < 128 → IsOwn (escaped c)
escaped_own c h =
    cond_both (c == 39) _ _ IsOwn (λ e. two_own 92 39 (omega arith) (omega arith))
    (λ e. cond_both (c == 92) _ _ IsOwn (λ e. two_own 92 92 (omega arith) (omega arith))
    (λ e. cond_both (c == 8) _ _ IsOwn (λ e. two_own 92 98 (omega arith) (omega arith))
    (λ e. cond_both (c == 9) _ _ IsOwn (λ e. two_own 92 116 (omega arith) (omega arith))
    (λ e. cond_both (c == 10) _ _ IsOwn (λ e. two_own 92 110 (omega arith) (omega arith))
    (λ e. cond_both (c == 12) _ _ IsOwn (λ e. two_own 92 102 (omega arith) (omega arith))
    (λ e. cond_both (c == 13) _ _ IsOwn (λ e. two_own 92 114 (omega arith) (omega arith))
    (λ e. cond_both (nat_lt c 32) _ _ IsOwn (λ e. control_own c (ltb-true c 32 e))
    (λ e. own_more c [] h refl))))))))

-- what is beyond ASCII stands bare
bare : (c : ℕ) → 128 ≤ c → escaped c ≡ c ∷ []
bare c h = grind (arith, nat_tests)

-- so does each byte of a name that none is escaped in
one_bare : (c : ℕ) → stands_bare 39 c ≡ true → escaped c ≡ c ∷ []
one_bare c h = grind (arith, nat_tests)

pub name_bare : (bs : List ℕ) → list_all (stands_bare 39) bs ≡ true → flat_map escaped bs ≡ bs
name_bare [] h = refl
name_bare (b ∷ bs) h =
    let p = and_parts (stands_bare 39 b) (list_all (stands_bare 39) bs) h in
    rw (one_bare b p.0, name_bare bs p.1) refl

-- all bytes are beyond ASCII
abbrev AreBeyond : List ℕ → Type 0
AreBeyond bs = AllByRecursion (λ b. 128 ≤ b) bs

bytes_bare : (bs : List ℕ) → AreBeyond bs → flat_map escaped bs ≡ bs
bytes_bare [] h = refl
bytes_bare (b ∷ bs) h = rw (bare b h.0, bytes_bare bs h.1) refl

next_beyond : (x : ℕ) → 128 ≤ next x
next_beyond x = omega arith

encode_beyond : (c : ℕ) → 128 ≤ c → AreBeyond (encode c)
unfolding encode
encode_beyond c h =
    cond_both (nat_lt c 128) _ _ AreBeyond
    (λ e. let below : c < 128 = ltb-true c 128 e in absurd (omega arith))
    (λ e. cond_both (nat_lt c 2048) _ _ AreBeyond (λ e. (omega arith, (next_beyond c, tt)))
    (λ e. cond_both (nat_lt c 65536) _ _ AreBeyond
    (λ e. (omega arith, (next_beyond (c / 64), (next_beyond c, tt))))
    (λ e. (omega arith, (next_beyond (c / 4096), (next_beyond (c / 64), (next_beyond c, tt)))))))

ascii_escaped : (c : ℕ) → c < 128 → encode_utf8_all (escaped c) ≡ flat_map escaped (encode c)
ascii_escaped c h = escaped_own c h ∙ sym (append-nil (escaped c))
    ∙ ap (flat_map escaped) (sym (encode_ascii c h))

beyond_escaped : (c : ℕ) → 128 ≤ c → encode_utf8_all (escaped c) ≡ flat_map escaped (encode c)
beyond_escaped c h = ap encode_utf8_all (bare c h) ∙ append-nil (encode c)
    ∙ sym (bytes_bare (encode c) (encode_beyond c h))

below_or_by : (c : ℕ) (b : Bool) → nat_lt c 128 ≡ b → (c < 128) ⊎ (128 ≤ c)
below_or_by c true e = inl (ltb-true c 128 e)
below_or_by c false e = inr (ltb-false c 128 e)

below_or : (c : ℕ) → (c < 128) ⊎ (128 ≤ c)
below_or c = below_or_by c (nat_lt c 128) refl

one_escaped : (c : ℕ) → encode_utf8_all (escaped c) ≡ flat_map escaped (encode c)
one_escaped c = elim (below_or c) [ inl h ↦ ascii_escaped c h | inr h ↦ beyond_escaped c h ]

-- a name can be escaped character by character, or byte by byte
pub name_escaped : (cs : List ℕ) → encode_utf8_all (flat_map escaped cs)
    ≡ flat_map escaped (encode_utf8_all cs)
name_escaped [] = refl
name_escaped (c ∷ cs) =
    encodes-append (escaped c) (flat_map escaped cs)
    ∙ ap (λ bs. bs ++ encode_utf8_all (flat_map escaped cs)) (one_escaped c)
    ∙ ap (λ bs. flat_map escaped (encode c) ++ bs) (name_escaped cs)
    ∙ sym (flat_map-append escaped (encode c) (encode_utf8_all cs))

open_own : IsOwn (codes "['")
open_own = two_own 91 39 (omega arith) (omega arith)

close_own : IsOwn (codes "']")
close_own = two_own 39 93 (omega arith) (omega arith)

pub name_bytes : (bs : List ℕ) → IsUtf8 bs → encode_utf8_all (step_text (name (chars bs)))
    ≡ codes "['" ++ (flat_map escaped bs ++ codes "']")
name_bytes bs u =
    encodes-append (codes "['") (flat_map escaped (chars bs) ++ codes "']")
    ∙ ap (λ ys. ys ++ encode_utf8_all (flat_map escaped (chars bs) ++ codes "']")) open_own
    ∙ ap (λ ys. codes "['" ++ ys) (
    encodes-append (flat_map escaped (chars bs)) (codes "']")
    ∙ ap (λ ys. ys ++ encode_utf8_all (codes "']")) (name_escaped (chars bs)
    ∙ ap (flat_map escaped) (encodes-chars bs u))
    ∙ ap (λ ys. flat_map escaped bs ++ ys) close_own)

bracket_own : IsOwn (codes "]")
bracket_own = own_more 93 [] (omega arith) refl

open_bracket_own : IsOwn (codes "[")
open_bracket_own = own_more 91 [] (omega arith) refl

pub index_bytes : (i : ℕ) → i < 2 ^ 32 → encode_utf8_all (step_text (index i))
    ≡ codes "[" ++ (decimal i ++ codes "]")
index_bytes i h =
    encodes-append (codes "[") (decimal i ++ codes "]")
    ∙ ap (λ ys. ys ++ encode_utf8_all (decimal i ++ codes "]")) open_bracket_own
    ∙ ap (λ ys. codes "[" ++ ys) (
    encodes-append (decimal i) (codes "]")
    ∙ ap (λ ys. ys ++ encode_utf8_all (codes "]"))
    (encodes-IsAscii (decimal i) (IsAscii-decimal i (omega arith)))
    ∙ ap (λ ys. decimal i ++ ys) bracket_own)

-- the bytes of a step, appended in three parts
three_parts : (old a b d x y z all : List ℕ) → a ≡ old ++ x → b ≡ a ++ y → d ≡ b ++ z → all ≡ x ++ (y ++ z)
    → d ≡ old ++ all
three_parts old a b d x y z all e f g h = rw (g, f, e, h) (append_assoc (old ++ x) y z
    ∙ append_assoc old x (y ++ z))

pub name_appended : (old a b d s bs : List ℕ) → IsUtf8 bs → s ≡ bs → a ≡ old ++ codes "['"
    → b ≡ a ++ flat_map escaped s → d ≡ b ++ codes "']"
    → d ≡ old ++ encode_utf8_all (step_text (name (chars bs)))
name_appended old a b d s bs u h e f g = three_parts old a b d (codes "['") (flat_map escaped bs) (codes "']")
    _ e (f ∙ ap (λ ys. a ++ flat_map escaped ys) h) g (name_bytes bs u)

pub index_appended : (old a b d s : List ℕ) (i : ℕ) → i < 2 ^ 32 → s ≡ decimal i → a ≡ old ++ codes "["
    → b ≡ a ++ s → d ≡ b ++ codes "]" → d ≡ old ++ encode_utf8_all (step_text (index i))
index_appended old a b d s i small h e f g = three_parts old a b d (codes "[") (decimal i) (codes "]") _ e (f
    ∙ ap (λ ys. a ++ ys) h) g (index_bytes i small)

-- Escapes of characters are characters.
scalars_both : (s t : List ℕ) → scalars s ≡ true → scalars t ≡ true → scalars (s ++ t) ≡ true
scalars_both [] t h g = g
scalars_both (c ∷ s) t h g = let p = and_parts (scalar c) (scalars s) h in and_from (scalar c)
    (scalars (s ++ t)) p.0 (scalars_both s t p.1 g)

small_scalar : (c : ℕ) → c < 128 → scalar c ≡ true
small_scalar c h = low_scalar c (omega arith)

more_scalars : (c : ℕ) (t : List ℕ) → c < 128 → scalars t ≡ true → scalars (c ∷ t) ≡ true
more_scalars c t h g = and_from (scalar c) (scalars t) (small_scalar c h) g

two_scalars : (a b : ℕ) → a < 128 → b < 128 → scalars (a ∷ b ∷ []) ≡ true
two_scalars a b h g = more_scalars a (b ∷ []) h (more_scalars b [] g refl)

abbrev AreScalars : List ℕ → Type 0
AreScalars t = scalars t ≡ true

control_scalars : (c : ℕ) → c < 32
    → AreScalars (92 ∷ 117 ∷ 48 ∷ 48 ∷ hex_digit (c / 16) ∷ hex_digit (c % 16) ∷ [])
control_scalars c h =
    let high : hex_digit (c / 16) < 128 = hex_small (c / 16) (omega arith) in
    let low : hex_digit (c % 16) < 128 = hex_small (c % 16) (omega arith) in
    let digits : AreScalars (hex_digit (c / 16) ∷ hex_digit (c % 16) ∷ []) =
    two_scalars (hex_digit (c / 16)) (hex_digit (c % 16)) high low in
    scalars_both (codes "\\u00") (hex_digit (c / 16) ∷ hex_digit (c % 16) ∷ []) refl digits

escaped_scalars : (c : ℕ) → scalar c ≡ true → AreScalars (escaped c)
escaped_scalars c h =
    cond_both (c == 39) _ _ AreScalars (λ e. two_scalars 92 39 (omega arith) (omega arith))
    (λ e. cond_both (c == 92) _ _ AreScalars (λ e. two_scalars 92 92 (omega arith) (omega arith))
    (λ e. cond_both (c == 8) _ _ AreScalars (λ e. two_scalars 92 98 (omega arith) (omega arith))
    (λ e. cond_both (c == 9) _ _ AreScalars (λ e. two_scalars 92 116 (omega arith) (omega arith))
    (λ e. cond_both (c == 10) _ _ AreScalars (λ e. two_scalars 92 110 (omega arith) (omega arith))
    (λ e. cond_both (c == 12) _ _ AreScalars (λ e. two_scalars 92 102 (omega arith) (omega arith))
    (λ e. cond_both (c == 13) _ _ AreScalars (λ e. two_scalars 92 114 (omega arith) (omega arith))
    (λ e. cond_both (nat_lt c 32) _ _ AreScalars (λ e. control_scalars c (ltb-true c 32 e))
    (λ e. and_from (scalar c) true h refl))))))))

name_scalars : (cs : List ℕ) → scalars cs ≡ true → scalars (flat_map escaped cs) ≡ true
name_scalars [] h = refl
name_scalars (c ∷ cs) h = let p = and_parts (scalar c) (scalars cs) h in scalars_both (escaped c)
    (flat_map escaped cs) (escaped_scalars c p.0) (name_scalars cs p.1)

pub name_utf8 : (bs : List ℕ) → IsUtf8 bs → IsUtf8 (flat_map escaped bs)
name_utf8 bs u = (
  flat_map escaped (chars bs),
  (
    name_scalars (chars bs) (scalars-chars bs u),
    name_escaped
        (chars bs) ∙ ap (flat_map escaped) (encodes-chars bs u),
  ),
)

quotes_utf8 : (a b : ℕ) → a < 128 → b < 128 → IsUtf8 (a ∷ b ∷ [])
quotes_utf8 a b h g = (a ∷ b ∷ [], (two_scalars a b h g, two_own a b h g))

one_utf8 : (a : ℕ) → a < 128 → IsUtf8 (a ∷ [])
one_utf8 a h = (a ∷ [], (more_scalars a [] h refl, own_more a [] h refl))

three_utf8 : (old a b d x y z : List ℕ) → IsUtf8 x → IsUtf8 y → IsUtf8 z → a ≡ old ++ x → b ≡ a ++ y
    → d ≡ b ++ z → IsUtf8 old → IsUtf8 d
three_utf8 old a b d x y z u v w e f g o =
    rw (g, f, e) (IsUtf8-append ((old ++ x) ++ y) z (IsUtf8-append (old ++ x) y (IsUtf8-append old x o u) v)
    w)

pub name_text : (old a b d s bs : List ℕ) → IsUtf8 bs → s ≡ bs → a ≡ old ++ codes "['"
    → b ≡ a ++ flat_map escaped s → d ≡ b ++ codes "']" → IsUtf8 old → IsUtf8 d
name_text old a b d s bs u h e f g o = three_utf8 old a b d (codes "['") (flat_map escaped bs) (codes "']")
    (quotes_utf8 91 39 (omega arith) (omega arith)) (name_utf8 bs u)
    (quotes_utf8 39 93 (omega arith) (omega arith)) e (f ∙ ap (λ ys. a ++ flat_map escaped ys) h) g o

pub index_text : (old a b d s : List ℕ) → IsAscii s → a ≡ old ++ codes "[" → b ≡ a ++ s → d ≡ b ++ codes "]"
    → IsUtf8 old → IsUtf8 d
index_text old a b d s ascii e f g o = three_utf8 old a b d (codes "[") s (codes "]")
    (one_utf8 91 (omega arith)) (IsUtf8-from_ascii s ascii) (one_utf8 93 (omega arith)) e f g o

pub dollar_text : (old a : List ℕ) → a ≡ old ++ codes "$" → IsUtf8 old → IsUtf8 a
dollar_text old a e o = rw e (IsUtf8-append old (codes "$") o (one_utf8 36 (omega arith)))

pub path_chars : (bs start p : List ℕ) → IsUtf8 bs → start ≡ [] → bs ≡ start ++ encode_utf8_all p
    → chars bs ≡ p
path_chars bs start p u s e = sym (chars_from_encodes p bs u (sym (e ∙ ap (λ xs. xs ++ encode_utf8_all p) s)))
