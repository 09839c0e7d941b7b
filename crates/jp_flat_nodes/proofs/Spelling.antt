-- Tokens are read back however they are spelled.
use Rattle.std.proofs.Common.{◌≡◌, ℕ, Bool, true, false, cond, ◌&&◌, List, [], ◌∷◌, ◌++◌, map, refl, sym, ap}
use Rattle.std.proofs.Common.{ap₂}
use Rattle.std.proofs.Common.{◌∙◌, append_assoc, append-nil, inl, inr, Some}
use Rattle.json.specs.Lex.{token, comma, colon, string_token, lex, between, fresh, punctuate}
use Rattle.json.specs.Lex.{tokens}
use Rattle.json.specs.Print.{escape, quoted, token_text, begins, ends, separator, print_from, IsPrintable}
use Rattle.json.specs.Print.{ArePrintable}
use Rattle.json.specs.Spaced.{IsGap}
use Rattle.json.specs.Text.{content}
use Rattle.json.specs.Token.{Token, begin_object, end_object, begin_array, end_array, key, string, number}
use Rattle.json.specs.Token.{boolean, null, bad}
use Rattle.json.specs.Word.{ends_word, word}
use Rattle.json.proofs.Printed.Numbers.{lex-number, in_word-ended}
use Rattle.json.proofs.Printed.Strings.{content-escape, lex-escape}
use Rattle.json.proofs.Printed.Tokens.{tokens-print}
use Rattle.jp_flat_nodes.specs.inner.Reads.{Stands, IsSpelling, Spelled, AreSpelled, spell}

-- ---- what is between tokens

lex_separator : (b : Bool) (r : List ℕ)
    → lex between (cond b (44 ∷ []) [] ++ r) ≡ cond b (comma ∷ []) [] ++ lex between r
unfolding lex
lex_separator true r = refl
lex_separator false r = refl

lex_gap : (g r : List ℕ) → IsGap g → lex between (g ++ r) ≡ lex between r
unfolding lex
lex_gap [] r h = refl
lex_gap (x ∷ g) r (inl e, h) = rw e (lex_gap g r h)
lex_gap (x ∷ g) r (inr e, h) = rw e (lex_gap g r h)

gap_ends : (g r : List ℕ) → IsGap g → ends_word r ≡ true → ends_word (g ++ r) ≡ true
gap_ends [] r h e = e
gap_ends (x ∷ g) r (inl is, h) e = rw is refl
gap_ends (x ∷ g) r (inr is, h) e = rw is refl

-- a word has ended where a value has
printed_ends : (ts : List Token) → ends_word (print_from true ts) ≡ true
unfolding print_from
printed_ends [] = refl
printed_ends (begin_object ∷ ts) = refl
printed_ends (end_object ∷ ts) = refl
printed_ends (begin_array ∷ ts) = refl
printed_ends (end_array ∷ ts) = refl
printed_ends (key s ∷ ts) = refl
printed_ends (string s ∷ ts) = refl
printed_ends (number s ∷ ts) = refl
printed_ends (boolean b ∷ ts) = refl
printed_ends (null ∷ ts) = refl
printed_ends (bad ∷ ts) = refl

closing_ends : (g t r : List ℕ) (x : ℕ) → IsGap g → t ≡ x ∷ [] → ends_word (x ∷ r) ≡ true
    → ends_word (g ++ (t ++ r)) ≡ true
closing_ends g t r x h is e = gap_ends g (t ++ r) h (ap (λ l. ends_word (l ++ r)) is ∙ e)

one_ends : (g : List ℕ) (k : Token) (t r : List ℕ) → IsGap g → IsSpelling k t
    → ends_word (separator true k ++ (g ++ (t ++ r))) ≡ true
one_ends g begin_object t r h s = refl
one_ends g end_object t r h s = closing_ends g t r 125 h s refl
one_ends g begin_array t r h s = refl
one_ends g end_array t r h s = closing_ends g t r 93 h s refl
one_ends g (key k) t r h s = refl
one_ends g (string k) t r h s = refl
one_ends g (number k) t r h s = refl
one_ends g (boolean b) t r h s = refl
one_ends g null t r h s = refl
one_ends g bad t r h s = absurd s

spelled_ends : (ps : List Spelled) → AreSpelled ps → ends_word (spell true ps) ≡ true
unfolding spell
spelled_ends [] h = refl
spelled_ends (p ∷ ps) h = one_ends p.gap p.token p.text _ h.0 h.1

-- ---- one token

lex_text : (part s r : List ℕ) → Stands part s
    → lex between ((34 ∷ (part ++ 34 ∷ [])) ++ r) ≡ token (string s) ∷ lex between r
unfolding lex content
lex_text part s r h =
    ap (λ l. lex between (34 ∷ l)) (append_assoc part (34 ∷ []) r)
    ∙ ap₂ (λ o l. token (string_token o) ∷ l) (h.means (34 ∷ r) ∙ ap Some (append-nil s)) (h.passed (34 ∷ r))

lex_quoted : (s r : List ℕ) → lex between (quoted s ++ r) ≡ token (string s) ∷ lex between r
unfolding lex
lex_quoted s r =
    ap (λ l. lex between (34 ∷ l)) (append_assoc (escape s) (34 ∷ []) r)
    ∙ ap₂ (λ o l. token (string_token o) ∷ l) (content-escape s r) (lex-escape s r)

-- a literal, before what ends it
lex_true : (r : List ℕ) → ends_word r ≡ true
    → lex between (token_text (boolean true) ++ r) ≡ token (boolean true) ∷ lex between r
unfolding lex word
lex_true r e = ap₂ (λ b l. token (cond b (boolean true) bad) ∷ l) e (in_word-ended r e)

lex_false : (r : List ℕ) → ends_word r ≡ true
    → lex between (token_text (boolean false) ++ r) ≡ token (boolean false) ∷ lex between r
unfolding lex word
lex_false r e = ap₂ (λ b l. token (cond b (boolean false) bad) ∷ l) e (in_word-ended r e)

lex_null : (r : List ℕ) → ends_word r ≡ true
    → lex between (token_text null ++ r) ≡ token null ∷ lex between r
unfolding lex word
lex_null r e = ap₂ (λ b l. token (cond b null bad) ∷ l) e (in_word-ended r e)

-- what stands behind it is read alike
lex_one : (t : Token) (w r u : List ℕ) → IsSpelling t w → IsPrintable t → lex between r ≡ lex between u
    → (ends t ≡ true → (ends_word r ≡ true) × (ends_word u ≡ true))
    → lex between (w ++ r) ≡ lex between (token_text t ++ u)
unfolding lex
lex_one begin_object w r u is p e ended =
    ap (λ l. lex between (l ++ r)) is ∙ ap (λ l. token begin_object ∷ l) e
lex_one end_object w r u is p e ended =
    ap (λ l. lex between (l ++ r)) is ∙ ap (λ l. token end_object ∷ l) e
lex_one begin_array w r u is p e ended =
    ap (λ l. lex between (l ++ r)) is ∙ ap (λ l. token begin_array ∷ l) e
lex_one end_array w r u is p e ended =
    ap (λ l. lex between (l ++ r)) is ∙ ap (λ l. token end_array ∷ l) e
lex_one (key s) w r u is p e ended =
    let q = 34 ∷ (is.0 ++ 34 ∷ []) in
    ap (λ l. lex between (l ++ r)) is.1 ∙ ap (lex between) (append_assoc q (58 ∷ []) r)
    ∙ lex_text is.0 s (58 ∷ r) is.2 ∙ ap (λ l. token (string s) ∷ colon ∷ l) e
    ∙ sym (ap (lex between) (append_assoc (quoted s) (58 ∷ []) u) ∙ lex_quoted s (58 ∷ u))
lex_one (string s) w r u is p e ended =
    ap (λ l. lex between (l ++ r)) is.1 ∙ lex_text is.0 s r is.2 ∙ ap (λ l. token (string s) ∷ l) e
    ∙ sym (lex_quoted s u)
lex_one (number s) w r u is p e ended =
    ap (λ l. lex between (l ++ r)) is ∙ lex-number s r p (ended refl).0 ∙ ap (λ l. token (number s) ∷ l) e
    ∙ sym (lex-number s u p (ended refl).1)
lex_one (boolean true) w r u is p e ended =
    ap (λ l. lex between (l ++ r)) is ∙ lex_true r (ended refl).0 ∙ ap (λ l. token (boolean true) ∷ l) e
    ∙ sym (lex_true u (ended refl).1)
lex_one (boolean false) w r u is p e ended =
    ap (λ l. lex between (l ++ r)) is ∙ lex_false r (ended refl).0 ∙ ap (λ l. token (boolean false) ∷ l) e
    ∙ sym (lex_false u (ended refl).1)
lex_one null w r u is p e ended =
    ap (λ l. lex between (l ++ r)) is ∙ lex_null r (ended refl).0 ∙ ap (λ l. token null ∷ l) e
    ∙ sym (lex_null u (ended refl).1)
lex_one bad w r u is p e ended = absurd p

-- ---- all of them

abbrev tokens_in : List Spelled → List Token
tokens_in ps = map (λ p. p.token) ps

lex_spelled : (c : Bool) (ps : List Spelled) → AreSpelled ps → ArePrintable (tokens_in ps)
    → lex between (spell c ps) ≡ lex between (print_from c (tokens_in ps))
unfolding spell print_from ArePrintable
lex_spelled c [] h k = refl
lex_spelled c (p ∷ ps) h k =
    let t = p.token in
    let rest = spell (ends t) ps in
    let others = print_from (ends t) (tokens_in ps) in
    lex_separator (c && begins t) _
    ∙ ap (λ l. cond (c && begins t) (comma ∷ []) [] ++ l)
    (lex_gap p.gap (p.text ++ rest) h.0
    ∙ lex_one t p.text rest others h.1 k.0 (lex_spelled (ends t) ps h.2 k.1)
    (λ e. (
      ap (λ b. ends_word (spell b ps)) e ∙ spelled_ends ps h.2,
      ap (λ b. ends_word (print_from b (tokens_in ps))) e ∙ printed_ends (tokens_in ps),
    )))
    ∙ sym (lex_separator (c && begins t) _)

pub tokens_spelled : (ps : List Spelled) → AreSpelled ps → ArePrintable (tokens_in ps)
    → tokens (spell false ps) ≡ tokens_in ps
tokens_spelled ps h k =
    ap (punctuate fresh) (lex_spelled false ps h k) ∙ tokens-print (tokens_in ps) k
