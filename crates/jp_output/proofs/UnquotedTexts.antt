-- Texts without their quotes: what stands for a byte, and how a text is read back.
use Rattle.std.proofs.Common.{◌≡◌, ◌≢◌, ℕ, ◌+◌, ◌*◌, ◌/◌, ◌%◌, ◌≤◌, ◌<◌, ◌==◌, nat_lt, Bool, true, false}
use Rattle.std.proofs.Common.{cond, List, [], ◌∷◌, ◌++◌, refl, ap, ap₂, sym, subst, ◌∙◌, arith, take, get_or}
use Rattle.std.proofs.Common.{length, append-nil, add-one, flat_map, encode_utf8_all, Option, Some, None}
use Rattle.std.proofs.lemmas.Bool.{eqb-true, eqb-false, ltb-true, ltb-false}
use Rattle.std.proofs.lemmas.Bool.Decides.{nat_tests}
use Rattle.std.proofs.lemmas.Grind.{flat_map-append}
use Rattle.std.proofs.lemmas.List.{append_cancel_right}
use Rattle.std.proofs.lemmas.Option.{none-some, same_Some, some_pair_parts}
use Rattle.std.proofs.lemmas.Str.{digit_value-digit_char, encodes_same}
use Rattle.std.proofs.Math.Seq.{take-suc}
use Rattle.std.specs.Char.{digit_char, digit_value}
use Rattle.json.specs.Print.{escape_byte}
use Rattle.jp_doc.specs.Json.{Json, null, truth, number, text, array, object, Text}
use Rattle.jp_doc.specs.Location.{Location, node}
use Rattle.jp_flat.specs.Value.{text_in}
use Rattle.jp_output.specs.RawText.{raw_text}
use Rattle.jp_output.specs.UnquotedText.{unquoted_byte, unquoted_text, text_line}

-- what stands for a byte

pub unquoted_plain : (b : ℕ) → 32 ≤ b → b ≢ 92 → unquoted_byte b ≡ b ∷ []
unfolding escape_byte
unquoted_plain b h s = grind (arith, nat_tests)

pub plain_more : (bytes : List ℕ) (i : ℕ) → i < length bytes → 32 ≤ get_or bytes i 0
    → get_or bytes i 0 ≢ 92 → flat_map unquoted_byte (take i bytes) ≡ take i bytes
    → flat_map unquoted_byte (take (i + 1) bytes) ≡ take (i + 1) bytes
plain_more bytes i lt h s e =
    let b = get_or bytes i 0 in
    let cut : take (i + 1) bytes ≡ take i bytes ++ b ∷ [] = rw add-one (take-suc bytes i 0 lt) in
    ap (flat_map unquoted_byte) cut ∙ flat_map-append unquoted_byte (take i bytes) (b ∷ [])
    ∙ ap₂ (λ (x y : List ℕ). x ++ y) e (append-nil (unquoted_byte b) ∙ unquoted_plain b h s) ∙ sym cut

pub text_unquoted : (v : Json) (s : Text) → Some s ≡ text_in v
    → unquoted_text v ≡ flat_map unquoted_byte (encode_utf8_all s)
text_unquoted (text t) s e = ap (λ x. flat_map unquoted_byte (encode_utf8_all x)) (sym (same_Some s t e))
text_unquoted null s e = absurd (none-some s (sym e))
text_unquoted (truth b) s e = absurd (none-some s (sym e))
text_unquoted (number x) s e = absurd (none-some s (sym e))
text_unquoted (array vs) s e = absurd (none-some s (sym e))
text_unquoted (object ms) s e = absurd (none-some s (sym e))

pub text_raw : (v : Json) (s : Text) → Some s ≡ text_in v → raw_text v ≡ encode_utf8_all s
text_raw (text t) s e = ap (λ x. encode_utf8_all x) (sym (same_Some s t e))
text_raw null s e = absurd (none-some s (sym e))
text_raw (truth b) s e = absurd (none-some s (sym e))
text_raw (number x) s e = absurd (none-some s (sym e))
text_raw (array vs) s e = absurd (none-some s (sym e))
text_raw (object ms) s e = absurd (none-some s (sym e))

-- reading back: a byte, and what follows it

abbrev letter_value : ℕ → ℕ
letter_value c = cond (c == 98) 8 (cond (c == 102) 12 (cond (c == 110) 10 (cond (c == 114) 13
    (cond (c == 116) 9 c))))

abbrev read_control : List ℕ → Option (ℕ × List ℕ)
read_control (z ∷ y ∷ h ∷ l ∷ rest) = Some (16 * digit_value h + digit_value l, rest)
read_control _ = None

abbrev read_escape : List ℕ → Option (ℕ × List ℕ)
read_escape [] = None
read_escape (c ∷ rest) = cond (c == 117) (read_control rest) (Some (letter_value c, rest))

abbrev read_byte : List ℕ → Option (ℕ × List ℕ)
read_byte [] = None
read_byte (c ∷ rest) = cond (c == 92) (read_escape rest) (Some (c, rest))

either : {P : Type 0} (b : Bool) → (b ≡ true → P) → (b ≡ false → P) → P
either true h g = h refl
either false h g = g refl

abbrev IsReadBack : ℕ → Type 0
IsReadBack x = (rest : List ℕ) → read_byte (unquoted_byte x ++ rest) ≡ Some (x, rest)

at_byte : (n x : ℕ) → IsReadBack n → (x == n) ≡ true → IsReadBack x
at_byte n x h e = subst IsReadBack (sym (eqb-true x n e)) h

quotation_back : IsReadBack 34
quotation_back rest = refl

backslash_back : IsReadBack 92
unfolding escape_byte
backslash_back rest = refl

backspace_back : IsReadBack 8
unfolding escape_byte
backspace_back rest = refl

form_feed_back : IsReadBack 12
unfolding escape_byte
form_feed_back rest = refl

line_feed_back : IsReadBack 10
unfolding escape_byte
line_feed_back rest = refl

return_back : IsReadBack 13
unfolding escape_byte
return_back rest = refl

tab_back : IsReadBack 9
unfolding escape_byte
tab_back rest = refl

unquoted_control : (x : ℕ) → x < 32 → x ≢ 8 → x ≢ 12 → x ≢ 10 → x ≢ 13 → x ≢ 9
    → unquoted_byte x ≡ 92 ∷ 117 ∷ 48 ∷ 48 ∷ digit_char (x / 16) ∷ digit_char (x % 16) ∷ []
unfolding escape_byte
unquoted_control x h a b c d e = grind (arith, nat_tests)

control_value : (x : ℕ) → x < 32
    → 16 * digit_value (digit_char (x / 16)) + digit_value (digit_char (x % 16)) ≡ x
control_value x h =
    let high = digit_value-digit_char (x / 16) (omega arith) in
    let low = digit_value-digit_char (x % 16) (omega arith) in omega (arith, high, low)

control_back : (x : ℕ) → x < 32
    → unquoted_byte x ≡ 92 ∷ 117 ∷ 48 ∷ 48 ∷ digit_char (x / 16) ∷ digit_char (x % 16) ∷ [] → IsReadBack x
control_back x h e rest = ap (λ (t : List ℕ). read_byte (t ++ rest)) e
    ∙ ap (λ (n : ℕ). Some (n, rest)) (control_value x h)

plain_back : (x : ℕ) → (x == 92) ≡ false → unquoted_byte x ≡ x ∷ [] → IsReadBack x
plain_back x s e rest = ap (λ (t : List ℕ). read_byte (t ++ rest)) e
    ∙ ap (λ b. cond b (read_escape rest) (Some (x, rest))) s

read_back : (x : ℕ) → IsReadBack x
read_back x =
    either (x == 34) (at_byte 34 x quotation_back) (λ _.
    either (x == 92) (at_byte 92 x backslash_back) (λ s.
    either (x == 8) (at_byte 8 x backspace_back) (λ a.
    either (x == 12) (at_byte 12 x form_feed_back) (λ b.
    either (x == 10) (at_byte 10 x line_feed_back) (λ c.
    either (x == 13) (at_byte 13 x return_back) (λ d.
    either (x == 9) (at_byte 9 x tab_back) (λ e.
    either (nat_lt x 32)
    (λ h. control_back x (ltb-true x 32 h)
    (unquoted_control x (ltb-true x 32 h) (eqb-false x 8 a) (eqb-false x 12 b) (eqb-false x 10 c)
    (eqb-false x 13 d) (eqb-false x 9 e)))
    (λ h. plain_back x s (unquoted_plain x (ltb-false x 32 h) (eqb-false x 92 s))))))))))

-- different texts stand for different bytes

bytes_same : (xs ys : List ℕ) → flat_map unquoted_byte xs ≡ flat_map unquoted_byte ys → xs ≡ ys
bytes_same [] [] e = refl
bytes_same [] (y ∷ ys) e =
    absurd (none-some (y, flat_map unquoted_byte ys)
    (ap read_byte e ∙ read_back y (flat_map unquoted_byte ys)))
bytes_same (x ∷ xs) [] e =
    absurd (none-some (x, flat_map unquoted_byte xs)
    (ap read_byte (sym e) ∙ read_back x (flat_map unquoted_byte xs)))
bytes_same (x ∷ xs) (y ∷ ys) e =
    let both = some_pair_parts x y (flat_map unquoted_byte xs) (flat_map unquoted_byte ys)
    (sym (read_back x (flat_map unquoted_byte xs)) ∙ ap read_byte e ∙ read_back y (flat_map unquoted_byte ys))
    in
    ap₂ (λ (z : ℕ) (zs : List ℕ). z ∷ zs) both.0 (bytes_same xs ys both.1)

pub lines_differ : (at from : Location) (s t : Text)
    → text_line (node at (text s)) ≡ text_line (node from (text t)) → s ≡ t
lines_differ at from s t e =
    encodes_same s t (bytes_same (encode_utf8_all s) (encode_utf8_all t)
    (append_cancel_right (unquoted_text (text s)) (unquoted_text (text t)) (10 ∷ []) e))
