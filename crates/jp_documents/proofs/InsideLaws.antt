-- The inside of a JSON text: from any byte on it closes its brackets where the tokens do.
use Rattle.std.proofs.Common.{◌≡◌, ℕ, zero, suc, ◌+◌, ◌-◌, ◌==◌, Bool, true, false, cond}
use Rattle.std.proofs.Common.{nat_le, List, [], ◌∷◌}
use Rattle.std.proofs.Common.{refl, sym, ◌∙◌, ap, arith, eqb-true, leb-true, ◌≤◌}
use Rattle.json.specs.Token.{Token}
use Rattle.json.specs.Text.{content, plain}
use Rattle.json.specs.Word.{is_operator, is_space, word}
use Rattle.json.specs.Lex.{Lexeme, token, comma, colon, operator, space, other}
use Rattle.json.specs.Lex.{string_token}
use Rattle.json.specs.Lex.{Mode, between, in_word, in_string, in_escape, lex_byte, lex, fresh, after_value}
use Rattle.json.specs.Lex.{after_comma}
use Rattle.json.specs.Lex.{begins_colon, may_begin, place_token, punctuate}
use Rattle.json.specs.Lex.{Place as Spot}
use Rattle.jp_documents.specs.Documents.{turn}
use Rattle.jp_documents.specs.Documents.{closed, opened, lead_behind}
use Rattle.jp_documents.specs.declared.place.Lead.{Lead}
use Rattle.jp_documents.specs.declared.place.Lead.TheVariants.{MayBegin, Within, AtLine}
use Rattle.jp_documents.specs.declared.place.Place.{Place}
use Rattle.jp_documents.specs.declared.place.Place.TheVariants.{InBrackets, InText, InEscape}
use Rattle.jp_documents.specs.declared.place.Turn.TheVariants.{Taken}
use Rattle.jp_documents.proofs.NestLaws.{Nests}
use Rattle.jp_documents.proofs.QuietLaws.{◌Bool-cases, quiet, quiet_word, content_quiet}
use Rattle.jp_documents.proofs.QuietLaws.{word_fine}
use Rattle.jp_documents.proofs.LexLaws.{Closes, closes_on, closes_last, at_code, operator_cases}
use Rattle.jp_documents.proofs.LexLaws.{space_cases, IsOther, byte_cases, class_other, turn_other, end_none}
use Rattle.jp_documents.proofs.LexLaws.{punct_token, comma_on, colon_on, object_on, array_on, object_end}
use Rattle.jp_documents.proofs.LexLaws.{array_end, placed_scalar, placed_string, along, none_left}
use Rattle.jp_documents.proofs.LexLaws.{none_left, lex_blank}

-- ---- in brackets

-- where a byte stands that the lexer reads in this mode
abbrev stands : Mode → ℕ → Lead → Place
stands between k l = InBrackets (suc k) l
stands in_word k l = InBrackets (suc k) l
stands in_string k l = InText (suc k)
stands in_escape k l = InEscape (suc k)

abbrev Fits : Mode → Spot → Lead → List ℕ → Type 0
Fits between pl l xs = may_begin pl ≡ true → l ≡ MayBegin
Fits in_word pl l xs = (may_begin pl ≡ false) × (quiet_word xs ≡ true)
Fits in_string pl l xs = (may_begin pl ≡ false) × (quiet false xs ≡ true)
Fits in_escape pl l xs = (may_begin pl ≡ false) × (quiet true xs ≡ true)

abbrev Sim : Mode → List ℕ → Type 0
Sim m xs = (pl : Spot) (k : ℕ) (l : Lead) → Fits m pl l xs → Nests (suc k) (punctuate pl (lex m xs))
    → Closes (stands m k l) xs

abbrev Sims : List ℕ → Type 0
Sims xs = (m : Mode) → Sim m xs

never : (pl : Spot) (l : Lead) → may_begin pl ≡ false → may_begin pl ≡ true → l ≡ MayBegin
never pl l e f = absurd (let n : false ≡ true = sym e ∙ f in cc)

opened_on : (k : ℕ) (l : Lead) → l ≡ MayBegin → opened l (suc k) ≡ Taken (InBrackets (suc (suc k)) MayBegin)
opened_on k l e =
    ap (λ m. opened m (suc k)) e ∙ ap (λ n. Taken (InBrackets n MayBegin)) {x = suc k + 1} {y = suc (suc k)}
    (omega arith)

not_last : (j : ℕ) → nat_le (suc (suc j)) 1 ≡ false
not_last j = ◌Bool-cases (nat_le (suc (suc j)) 1) (λ b. b ≡ false)
    (λ e. absurd (let l : suc (suc j) ≤ 1 = leb-true (suc (suc j)) 1 e in omega arith)) (λ e. refl)

closed_on : (j : ℕ) → closed (suc (suc j)) ≡ Taken (InBrackets (suc j) Within)
closed_on j = rw (not_last j) (ap (λ n. Taken (InBrackets n Within)) {x = suc (suc j) - 1} {y = suc j}
    (omega arith))

object_step : (xs : List ℕ) → Sims xs → (pl : Spot) (k : ℕ) (l : Lead) → (may_begin pl ≡ true → l ≡ MayBegin)
    → Nests (suc k) (punctuate pl (token Token.begin_object ∷ lex between xs))
    → Closes (InBrackets (suc k) l) (123 ∷ xs)
object_step xs s pl k l f h =
    let o = object_on pl (lex between xs) k h in
    closes_on (InBrackets (suc k) l) (InBrackets (suc (suc k)) MayBegin) 123 xs (opened_on k l (f o.0))
    (s between fresh (suc k) MayBegin (λ e. refl) o.1)

array_step : (xs : List ℕ) → Sims xs → (pl : Spot) (k : ℕ) (l : Lead) → (may_begin pl ≡ true → l ≡ MayBegin)
    → Nests (suc k) (punctuate pl (token Token.begin_array ∷ lex between xs))
    → Closes (InBrackets (suc k) l) (91 ∷ xs)
array_step xs s pl k l f h =
    let o = array_on pl (lex between xs) k h in
    closes_on (InBrackets (suc k) l) (InBrackets (suc (suc k)) MayBegin) 91 xs (opened_on k l (f o.0))
    (s between fresh (suc k) MayBegin (λ e. refl) o.1)

close_step : (c : ℕ) (xs : List ℕ) → Sims xs → (k : ℕ) (l : Lead)
    → turn (InBrackets (suc k) l) c ≡ closed (suc k)
    → Nests k (punctuate after_value (lex between xs)) → Closes (InBrackets (suc k) l) (c ∷ xs)
close_step c xs s zero l e h =
    closes_last (InBrackets 1 l) c xs e (lex_blank xs (none_left (lex between xs) h))
close_step c xs s (suc j) l e h =
    closes_on (InBrackets (suc (suc j)) l) (InBrackets (suc j) Within) c xs (e ∙ closed_on j)
    (s between after_value j Within (never after_value Within refl) h)

lead_comma : (l : Lead) → lead_behind l 44 ≡ MayBegin
lead_comma MayBegin = refl
lead_comma Within = refl
lead_comma AtLine = refl

lead_colon : (l : Lead) → lead_behind l 58 ≡ MayBegin
lead_colon MayBegin = refl
lead_colon Within = refl
lead_colon AtLine = refl

lead_backslash : (l : Lead) → lead_behind l 92 ≡ Within
lead_backslash MayBegin = refl
lead_backslash Within = refl
lead_backslash AtLine = refl

comma_step : (xs : List ℕ) → Sims xs → (pl : Spot) (k : ℕ) (l : Lead)
    → Nests (suc k) (punctuate pl (comma ∷ lex between xs)) → Closes (InBrackets (suc k) l) (44 ∷ xs)
comma_step xs s pl k l h =
    closes_on (InBrackets (suc k) l) (InBrackets (suc k) MayBegin) 44 xs
    (ap (λ m. Taken (InBrackets (suc k) m)) (lead_comma l))
    (s between after_comma k MayBegin (λ e. refl) (comma_on pl (lex between xs) k h))

colon_step : (xs : List ℕ) → Sims xs → (pl : Spot) (k : ℕ) (l : Lead)
    → Nests (suc k) (punctuate pl (colon ∷ lex between xs)) → Closes (InBrackets (suc k) l) (58 ∷ xs)
colon_step xs s pl k l h =
    closes_on (InBrackets (suc k) l) (InBrackets (suc k) MayBegin) 58 xs
    (ap (λ m. Taken (InBrackets (suc k) m)) (lead_colon l))
    (s between fresh k MayBegin (λ e. refl) (colon_on pl (lex between xs) k h))

-- a blank, of which the lexer makes nothing
blank_step : (c : ℕ) (xs : List ℕ) → Sims xs → (pl : Spot) (k : ℕ) (l : Lead)
    → (may_begin pl ≡ true → l ≡ MayBegin)
    → turn (InBrackets (suc k) l) c ≡ Taken (InBrackets (suc k) (lead_behind l c))
    → lead_behind MayBegin c ≡ MayBegin
    → Nests (suc k) (punctuate pl (lex between xs)) → Closes (InBrackets (suc k) l) (c ∷ xs)
blank_step c xs s pl k l f e m h =
    closes_on (InBrackets (suc k) l) (InBrackets (suc k) (lead_behind l c)) c xs e
    (s between pl k (lead_behind l c) (λ t. ap (λ n. lead_behind n c) (f t) ∙ m) h)

string_step : (xs : List ℕ) → Sims xs → (pl : Spot) (k : ℕ) (l : Lead)
    → Nests (suc k) (punctuate pl (token (string_token (content plain xs)) ∷ lex in_string xs))
    → Closes (InBrackets (suc k) l) (34 ∷ xs)
string_step xs s pl k l h =
    let ls = lex in_string xs in
    let t = string_token (content plain xs) in
    let r = placed_string pl (content plain xs) (begins_colon ls) (λ n. punctuate n ls) k
    (along (suc k) (punctuate pl (token t ∷ ls)) (place_token pl t (begins_colon ls) (λ n. punctuate n ls))
    (punct_token pl t ls) h) in
    closes_on (InBrackets (suc k) l) (InText (suc k)) 34 xs refl
    (s in_string r.spot k l (r.later, content_quiet plain xs r.text r.is) r.nests)

bad_on : (pl : Spot) (ls : List Lexeme) (k : ℕ) → Nests (suc k) (punctuate pl (token Token.bad ∷ ls)) → ⊥
bad_on pl ls k h =
    along (suc k) (punctuate pl (token Token.bad ∷ ls))
    (place_token pl Token.bad (begins_colon ls) (λ n. punctuate n ls)) (punct_token pl Token.bad ls) h

pub lex_other : (m : Mode) (x : ℕ) (xs : List ℕ) → IsOther x
    → lex m (x ∷ xs) ≡ lex_byte m other x xs (λ n. lex n xs)
unfolding lex
lex_other m x xs r = ap (λ c. lex_byte m c x xs (λ n. lex n xs)) (class_other x r)

pub word_rest : (x : ℕ) (xs : List ℕ) → IsOther x → quiet_word (x ∷ xs) ≡ true → quiet_word xs ≡ true
word_rest x xs r = rw (r.no_operator, r.no_space, r.no_quote) (λ q. q)

word_step : (x : ℕ) (xs : List ℕ) → IsOther x → Sims xs → (pl : Spot) (k : ℕ) (l : Lead)
    → Nests (suc k) (punctuate pl (lex between (x ∷ xs))) → Closes (InBrackets (suc k) l) (x ∷ xs)
word_step x xs r s pl k l h =
    let ls = lex in_word xs in
    let t = word (x ∷ xs) in
    let w = word_fine (x ∷ xs) in
    let d = placed_scalar pl t (begins_colon ls) (λ n. punctuate n ls) k w.0
    (along (suc k) (punctuate pl (lex between (x ∷ xs)))
    (place_token pl t (begins_colon ls) (λ n. punctuate n ls))
    (ap (λ m. punctuate pl m) (lex_other between x xs r) ∙ punct_token pl t ls) h) in
    closes_on (InBrackets (suc k) l) (InBrackets (suc k) Within) x xs (turn_other (suc k) l x r)
    (s in_word after_value k Within (refl, word_rest x xs r (w.1 d.0)) d.1)

sim_between : (x : ℕ) (xs : List ℕ) → Sims xs → Sim between (x ∷ xs)
unfolding lex
sim_between x xs s = byte_cases (λ y. Sim between (y ∷ xs)) x
    (λ pl k l f h. string_step xs s pl k l h)
    (λ pl k l f h. absurd (bad_on pl (lex in_word xs) k h))
    (λ e. operator_cases (λ y. Sim between (y ∷ xs)) x e
    (λ pl k l f h. object_step xs s pl k l f h)
    (λ pl k l f h. close_step 125 xs s k l refl (object_end pl (lex between xs) k h))
    (λ pl k l f h. array_step xs s pl k l f h)
    (λ pl k l f h. close_step 93 xs s k l refl (array_end pl (lex between xs) k h))
    (λ pl k l f h. colon_step xs s pl k l h)
    (λ pl k l f h. comma_step xs s pl k l h))
    (λ e. space_cases (λ y. Sim between (y ∷ xs)) x e
    (λ pl k l f h. blank_step 32 xs s pl k l f refl refl h)
    (λ pl k l f h. blank_step 9 xs s pl k l f refl refl h)
    (λ pl k l f h. blank_step 10 xs s pl k l f refl refl h)
    (λ pl k l f h. blank_step 13 xs s pl k l f refl refl h))
    (λ r pl k l f h. word_step x xs r s pl k l h)

sim_word : (x : ℕ) (xs : List ℕ) → Sims xs → Sim in_word (x ∷ xs)
unfolding lex
sim_word x xs s = byte_cases (λ y. Sim in_word (y ∷ xs)) x
    (λ pl k l f h. absurd (let e : false ≡ true = f.1 in cc))
    (λ pl k l f h. closes_on (InBrackets (suc k) l) (InBrackets (suc k) Within) 92 xs
    (ap (λ m. Taken (InBrackets (suc k) m)) (lead_backslash l))
    (s in_word pl k Within (f.0, f.1) h))
    (λ e. operator_cases (λ y. Sim in_word (y ∷ xs)) x e
    (λ pl k l f h. object_step xs s pl k l (never pl l f.0) h)
    (λ pl k l f h. close_step 125 xs s k l refl (object_end pl (lex between xs) k h))
    (λ pl k l f h. array_step xs s pl k l (never pl l f.0) h)
    (λ pl k l f h. close_step 93 xs s k l refl (array_end pl (lex between xs) k h))
    (λ pl k l f h. colon_step xs s pl k l h)
    (λ pl k l f h. comma_step xs s pl k l h))
    (λ e. space_cases (λ y. Sim in_word (y ∷ xs)) x e
    (λ pl k l f h. blank_step 32 xs s pl k l (never pl l f.0) refl refl h)
    (λ pl k l f h. blank_step 9 xs s pl k l (never pl l f.0) refl refl h)
    (λ pl k l f h. blank_step 10 xs s pl k l (never pl l f.0) refl refl h)
    (λ pl k l f h. blank_step 13 xs s pl k l (never pl l f.0) refl refl h))
    (λ r pl k l f h. closes_on (InBrackets (suc k) l) (InBrackets (suc k) Within) x xs
    (turn_other (suc k) l x r)
    (s in_word pl k Within (f.0, word_rest x xs r f.1)
    (along (suc k) (punctuate pl (lex in_word (x ∷ xs))) (punctuate pl (lex in_word xs))
    (ap (λ m. punctuate pl m) (lex_other in_word x xs r)) h)))

not_none : (k : ℕ) → (suc k == 0) ≡ false
not_none k = ◌Bool-cases (suc k == 0) (λ b. b ≡ false)
    (λ e. absurd (let l : suc k ≡ 0 = eqb-true (suc k) 0 e in omega arith)) (λ e. refl)

string_class : (b c : Bool) (x : ℕ) (xs : List ℕ) (K : Mode → List Lexeme)
    → lex_byte in_string (cond b operator (cond c space other)) x xs K ≡ K in_string
string_class true c x xs K = refl
string_class false true x xs K = refl
string_class false false x xs K = refl

pub lex_string : (x : ℕ) (xs : List ℕ) → (x == 34) ≡ false → (x == 92) ≡ false
    → lex in_string (x ∷ xs) ≡ lex in_string xs
unfolding lex
lex_string x xs a b = rw (a, b) (string_class (is_operator x) (is_space x) x xs (λ n. lex n xs))

pub quiet_rest : (x : ℕ) (xs : List ℕ) → (x == 34) ≡ false → (x == 92) ≡ false → (x == 10) ≡ false
    → quiet false (x ∷ xs) ≡ true → quiet false xs ≡ true
quiet_rest x xs a b c = rw (a, b, c) (λ q. q)

pub text_other : (d x : ℕ) → (x == 34) ≡ false → (x == 92) ≡ false → (x == 10) ≡ false
    → turn (InText d) x ≡ Taken (InText d)
text_other d x a b c = rw (a, b, c) refl

pub text_cases : (P : ℕ → Type 0) (x : ℕ) → P 34 → P 92 → P 10
    → ((x == 34) ≡ false → (x == 92) ≡ false → (x == 10) ≡ false → P x) → P x
text_cases P x a b c d = ◌Bool-cases (x == 34) (λ t. P x) (at_code P x 34 a)
    (λ e. ◌Bool-cases (x == 92) (λ t. P x) (at_code P x 92 b)
    (λ f. ◌Bool-cases (x == 10) (λ t. P x) (at_code P x 10 c) (λ g. d e f g)))

sim_string : (x : ℕ) (xs : List ℕ) → Sims xs → Sim in_string (x ∷ xs)
unfolding lex
sim_string x xs s = text_cases (λ y. Sim in_string (y ∷ xs)) x
    (λ pl k l f h. closes_on (InText (suc k)) (InBrackets (suc k) Within) 34 xs (rw (not_none k) refl)
    (s between pl k Within (never pl Within f.0) h))
    (λ pl k l f h. closes_on (InText (suc k)) (InEscape (suc k)) 92 xs refl (s in_escape pl k l (f.0, f.1) h))
    (λ pl k l f h. absurd (let e : false ≡ true = f.1 in cc))
    (λ a b c pl k l f h. closes_on (InText (suc k)) (InText (suc k)) x xs (text_other (suc k) x a b c)
    (s in_string pl k l (f.0, quiet_rest x xs a b c f.1)
    (along (suc k) (punctuate pl (lex in_string (x ∷ xs))) (punctuate pl (lex in_string xs))
    (ap (λ m. punctuate pl m) (lex_string x xs a b)) h)))

pub escape_rest : (x : ℕ) (xs : List ℕ) → (x == 10) ≡ false → quiet true (x ∷ xs) ≡ true
    → quiet false xs ≡ true
escape_rest x xs a = rw a (λ q. q)

sim_escape : (x : ℕ) (xs : List ℕ) → Sims xs → Sim in_escape (x ∷ xs)
unfolding lex
sim_escape x xs s = ◌Bool-cases (x == 10) (λ t. Sim in_escape (x ∷ xs))
    (at_code (λ y. Sim in_escape (y ∷ xs)) x 10 (λ pl k l f h. absurd (let e : false ≡ true = f.1 in cc)))
    (λ a pl k l f h. closes_on (InEscape (suc k)) (InText (suc k)) x xs (rw a refl)
    (s in_string pl k l (f.0, escape_rest x xs a f.1) h))

sim_step : (x : ℕ) (xs : List ℕ) → Sims xs → Sims (x ∷ xs)
sim_step x xs s between = sim_between x xs s
sim_step x xs s in_word = sim_word x xs s
sim_step x xs s in_string = sim_string x xs s
sim_step x xs s in_escape = sim_escape x xs s

sim_none : (m : Mode) → Sim m []
unfolding lex
sim_none between pl k l f h = absurd (end_none pl k h)
sim_none in_word pl k l f h = absurd (end_none pl k h)
sim_none in_string pl k l f h = absurd (end_none pl k h)
sim_none in_escape pl k l f h = absurd (end_none pl k h)

pub sim : (xs : List ℕ) → Sims xs
sim [] m = sim_none m
sim (x ∷ xs) m = sim_step x xs (λ n. sim xs n) m
