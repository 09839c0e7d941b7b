-- What the lexer of the JSON crate makes of bytes, and where these stand in a document.
use Rattle.std.proofs.Common.{◌≡◌, ℕ, suc, ◌==◌, ◌||◌, ◌&&◌, Bool, true, false, cond}
use Rattle.std.proofs.Common.{List, [], ◌∷◌, ◌++◌}
use Rattle.std.proofs.Common.{refl, sym, ◌∙◌, ap, subst, eqb-true, Option, Some, None}
use Rattle.json.specs.Token.{Token}
use Rattle.json.specs.Word.{is_operator, is_space}
use Rattle.json.specs.Lex.{Lexeme, token, comma, colon, Class, quote, backslash, operator, space, other}
use Rattle.json.specs.Lex.{class, string_token}
use Rattle.json.specs.Lex.{Mode, between, lex_byte, lex, fresh, after_value}
use Rattle.json.specs.Lex.{after_comma, after_key}
use Rattle.json.specs.Lex.{begins_colon, may_begin, may_close, if_allowed, place_token, punctuate}
use Rattle.json.specs.Lex.{Place as Spot}
use Rattle.jp_documents.specs.Documents.{cut_between, cut_at, onto, behind, by_turn}
use Rattle.jp_documents.specs.Documents.{turn, is_blank_byte, is_opening, is_closing}
use Rattle.jp_documents.specs.Documents.{lead_behind}
use Rattle.std.specs.List.{list_all}
use Rattle.jp_documents.specs.declared.place.Lead.{Lead}
use Rattle.jp_documents.specs.declared.place.Lead.TheVariants.{MayBegin, Within, AtLine}
use Rattle.jp_documents.specs.declared.place.Place.{Place}
use Rattle.jp_documents.specs.declared.place.Place.TheVariants.{Between, InBrackets}
use Rattle.jp_documents.specs.declared.place.Turn.TheVariants.{Taken, Last}
use Rattle.jp_documents.proofs.NestLaws.{Nests}
use Rattle.jp_documents.proofs.QuietLaws.{◌Bool-cases, Scalar, IsBad}

-- ---- what stands behind a document

both : (a b : Bool) → (a && b) ≡ true → (a ≡ true) × (b ≡ true)
both true b e = (refl, e)
both false b e = absurd (cc)

pub blanks_cut : (xs : List ℕ) → list_all is_blank_byte xs ≡ true
    → cut_between xs ≡ record { ended = []; open_document = []; place = Between }
blanks_cut [] e = refl
blanks_cut (x ∷ xs) e = let k = both (is_blank_byte x) (list_all is_blank_byte xs) e in
    rw k.0 (blanks_cut xs k.1)

-- the document that is open at a place ends in the bytes, with nothing but blanks behind it
pub record Closes (p : Place) (xs : List ℕ) : Type 0 where
  pub document : List ℕ
  pub back : List ℕ
  pub is : xs ≡ document ++ back
  pub blank : list_all is_blank_byte back ≡ true
  pub cuts : cut_at p xs ≡ record { ended = document ∷ []; open_document = []; place = Between }

pub closes_on : (p q : Place) (b : ℕ) (xs : List ℕ) → turn p b ≡ Taken q → Closes q xs → Closes p (b ∷ xs)
closes_on p q b xs e c = record {
  document = b ∷ c.document;
  back = c.back;
  is = ap (λ l. b ∷ l) c.is;
  blank = c.blank;
  cuts = ap (λ t. by_turn t b (λ n. cut_at n xs)) e ∙ ap (λ k. onto (b ∷ []) k) c.cuts;
}

pub closes_last : (p : Place) (b : ℕ) (xs : List ℕ) → turn p b ≡ Last → list_all is_blank_byte xs ≡ true
    → Closes p (b ∷ xs)
closes_last p b xs e h = record {
  document = b ∷ [];
  back = xs;
  is = refl;
  blank = h;
  cuts = ap (λ t. by_turn t b (λ n. cut_at n xs)) e ∙ ap (λ k. behind (b ∷ []) k) (blanks_cut xs h);
}

-- ---- the kinds of bytes

or_none : (a b : Bool) → (a || b) ≡ false → (a ≡ false) × (b ≡ false)
or_none true b e = absurd (cc)
or_none false b e = (refl, e)

pub at_code : (P : ℕ → Type 0) (x c : ℕ) → P c → (x == c) ≡ true → P x
at_code P x c h e = subst P (sym (eqb-true x c e)) h

or_cases : (a b : Bool) (Q : Type 0) → (a || b) ≡ true → (a ≡ true → Q) → (b ≡ true → Q) → Q
or_cases true b Q e f g = f refl
or_cases false b Q e f g = g e

pub operator_cases : (P : ℕ → Type 0) (x : ℕ) → is_operator x ≡ true → P 123 → P 125 → P 91 → P 93 → P 58
    → P 44
    → P x
operator_cases P x e a b c d f g =
    or_cases ((x == 123) || (x == 125) || (x == 91) || (x == 93) || (x == 58)) (x == 44) (P x) e
    (λ e. or_cases ((x == 123) || (x == 125) || (x == 91) || (x == 93)) (x == 58) (P x) e
    (λ e. or_cases ((x == 123) || (x == 125) || (x == 91)) (x == 93) (P x) e
    (λ e. or_cases ((x == 123) || (x == 125)) (x == 91) (P x) e
    (λ e. or_cases (x == 123) (x == 125) (P x) e (at_code P x 123 a) (at_code P x 125 b))
    (at_code P x 91 c)) (at_code P x 93 d)) (at_code P x 58 f)) (at_code P x 44 g)

pub space_cases : (P : ℕ → Type 0) (x : ℕ) → is_space x ≡ true → P 32 → P 9 → P 10 → P 13 → P x
space_cases P x e a b c d =
    or_cases ((x == 32) || (x == 9) || (x == 10)) (x == 13) (P x) e
    (λ e. or_cases ((x == 32) || (x == 9)) (x == 10) (P x) e
    (λ e. or_cases (x == 32) (x == 9) (P x) e (at_code P x 32 a) (at_code P x 9 b)) (at_code P x 10 c))
    (at_code P x 13 d)

-- a byte with no meaning of its own
pub record IsOther (x : ℕ) : Type 0 where
  pub no_quote : (x == 34) ≡ false
  pub no_backslash : (x == 92) ≡ false
  pub no_operator : is_operator x ≡ false
  pub no_space : is_space x ≡ false

pub byte_cases : (P : ℕ → Type 0) (x : ℕ) → P 34 → P 92 → (is_operator x ≡ true → P x)
    → (is_space x ≡ true → P x)
    → (IsOther x → P x) → P x
byte_cases P x q b o s r =
    ◌Bool-cases (x == 34) (λ t. P x) (at_code P x 34 q)
    (λ e. ◌Bool-cases (x == 92) (λ t. P x) (at_code P x 92 b)
    (λ f. ◌Bool-cases (is_operator x) (λ t. P x) o (λ g. ◌Bool-cases (is_space x) (λ t. P x) s
    (λ h. r (record { no_quote = e; no_backslash = f; no_operator = g; no_space = h })))))

pub class_other : (x : ℕ) → IsOther x → class x ≡ other
class_other x r = rw (r.no_quote, r.no_backslash, r.no_operator, r.no_space) refl

pub not_open : (x : ℕ) → IsOther x → is_opening x ≡ false
not_open x r =
    let a = or_none ((x == 123) || (x == 125) || (x == 91) || (x == 93) || (x == 58))
    (x == 44) r.no_operator in
    let b = or_none ((x == 123) || (x == 125) || (x == 91) || (x == 93)) (x == 58) a.0 in
    let c = or_none ((x == 123) || (x == 125) || (x == 91)) (x == 93) b.0 in
    let d = or_none ((x == 123) || (x == 125)) (x == 91) c.0 in
    let e = or_none (x == 123) (x == 125) d.0 in
    rw (e.0, d.1) refl

not_close : (x : ℕ) → IsOther x → is_closing x ≡ false
not_close x r =
    let a = or_none ((x == 123) || (x == 125) || (x == 91) || (x == 93) || (x == 58))
    (x == 44) r.no_operator in
    let b = or_none ((x == 123) || (x == 125) || (x == 91) || (x == 93)) (x == 58) a.0 in
    let c = or_none ((x == 123) || (x == 125) || (x == 91)) (x == 93) b.0 in
    let d = or_none ((x == 123) || (x == 125)) (x == 91) c.0 in
    let e = or_none (x == 123) (x == 125) d.0 in
    rw (e.1, c.1) refl

not_comma : (x : ℕ) → IsOther x → ((x == 44) || (x == 58)) ≡ false
not_comma x r =
    let a = or_none ((x == 123) || (x == 125) || (x == 91) || (x == 93) || (x == 58))
    (x == 44) r.no_operator in
    let b = or_none ((x == 123) || (x == 125) || (x == 91) || (x == 93)) (x == 58) a.0 in
    rw (a.1, b.1) refl

not_feed : (x : ℕ) → IsOther x → (x == 10) ≡ false
not_feed x r =
    let a = or_none ((x == 32) || (x == 9) || (x == 10)) (x == 13) r.no_space in
    let b = or_none ((x == 32) || (x == 9)) (x == 10) a.0 in b.1

lead_other : (l : Lead) (x : ℕ) → IsOther x → lead_behind l x ≡ Within
lead_other MayBegin x r = rw (r.no_space, not_comma x r) refl
lead_other Within x r = rw (not_feed x r, not_comma x r) refl
lead_other AtLine x r = rw (not_feed x r, not_comma x r) refl

pub turn_other : (d : ℕ) (l : Lead) (x : ℕ) → IsOther x
    → turn (InBrackets d l) x ≡ Taken (InBrackets d Within)
turn_other d l x r = rw (not_open x r, not_close x r, r.no_quote)
    (ap (λ m. Taken (InBrackets d m)) (lead_other l x r))

-- ---- commas, colons and tokens

pub end_none : (pl : Spot) (k : ℕ) → Nests (suc k) (punctuate pl []) → ⊥
unfolding punctuate
end_none fresh k h = h
end_none after_value k h = h
end_none after_comma k h = h
end_none after_key k h = h

pub punct_token : (pl : Spot) (t : Token) (ls : List Lexeme)
    → punctuate pl (token t ∷ ls) ≡ place_token pl t (begins_colon ls) (λ n. punctuate n ls)
unfolding punctuate
punct_token fresh t ls = refl
punct_token after_value t ls = refl
punct_token after_comma t ls = refl
punct_token after_key t ls = refl

pub comma_on : (pl : Spot) (ls : List Lexeme) (k : ℕ) → Nests (suc k) (punctuate pl (comma ∷ ls))
    → Nests (suc k) (punctuate after_comma ls)
unfolding punctuate
comma_on fresh ls k h = absurd h
comma_on after_value ls k h = h
comma_on after_comma ls k h = absurd h
comma_on after_key ls k h = absurd h

pub colon_on : (pl : Spot) (ls : List Lexeme) (k : ℕ) → Nests (suc k) (punctuate pl (colon ∷ ls))
    → Nests (suc k) (punctuate fresh ls)
unfolding punctuate
colon_on fresh ls k h = absurd h
colon_on after_value ls k h = absurd h
colon_on after_comma ls k h = absurd h
colon_on after_key ls k h = h

pub object_on : (pl : Spot) (ls : List Lexeme) (k : ℕ)
    → Nests (suc k) (punctuate pl (token Token.begin_object ∷ ls))
    → (may_begin pl ≡ true) × Nests (suc (suc k)) (punctuate fresh ls)
unfolding punctuate
object_on fresh ls k h = (refl, h)
object_on after_value ls k h = absurd h
object_on after_comma ls k h = (refl, h)
object_on after_key ls k h = absurd h

pub array_on : (pl : Spot) (ls : List Lexeme) (k : ℕ)
    → Nests (suc k) (punctuate pl (token Token.begin_array ∷ ls))
    → (may_begin pl ≡ true) × Nests (suc (suc k)) (punctuate fresh ls)
unfolding punctuate
array_on fresh ls k h = (refl, h)
array_on after_value ls k h = absurd h
array_on after_comma ls k h = (refl, h)
array_on after_key ls k h = absurd h

pub object_end : (pl : Spot) (ls : List Lexeme) (k : ℕ)
    → Nests (suc k) (punctuate pl (token Token.end_object ∷ ls)) → Nests k (punctuate after_value ls)
unfolding punctuate
object_end fresh ls k h = h
object_end after_value ls k h = h
object_end after_comma ls k h = absurd h
object_end after_key ls k h = absurd h

pub array_end : (pl : Spot) (ls : List Lexeme) (k : ℕ)
    → Nests (suc k) (punctuate pl (token Token.end_array ∷ ls)) → Nests k (punctuate after_value ls)
unfolding punctuate
array_end fresh ls k h = h
array_end after_value ls k h = h
array_end after_comma ls k h = absurd h
array_end after_key ls k h = absurd h

allowed : (b : Bool) (t : Token) (K : Spot → List Token) (n : Spot) (k : ℕ)
    → Nests (suc k) (if_allowed b t K n)
    → (b ≡ true) × Nests (suc k) (t ∷ K n)
allowed true t K n k h = (refl, h)
allowed false t K n k h = absurd h

pub placed_scalar : (pl : Spot) (t : Token) (bc : Bool) (K : Spot → List Token) (k : ℕ) → Scalar t
    → Nests (suc k) (place_token pl t bc K)
    → (IsBad t → ⊥) × Nests (suc k) (K after_value)
placed_scalar pl Token.begin_object bc K k s h = absurd s
placed_scalar pl Token.end_object bc K k s h = absurd s
placed_scalar pl Token.begin_array bc K k s h = absurd s
placed_scalar pl Token.end_array bc K k s h = absurd s
placed_scalar pl (Token.key n) bc K k s h = absurd s
placed_scalar pl (Token.string n) bc K k s h = absurd s
placed_scalar pl (Token.number n) bc K k s h =
    (λ b. b, (allowed (may_begin pl) (Token.number n) K after_value k h).1)
placed_scalar pl (Token.boolean n) bc K k s h =
    (λ b. b, (allowed (may_begin pl) (Token.boolean n) K after_value k h).1)
placed_scalar pl Token.null bc K k s h = (λ b. b, (allowed (may_begin pl) Token.null K after_value k h).1)
placed_scalar pl Token.bad bc K k s h = absurd h

pub record Strung (o : Option (List ℕ)) (K : Spot → List Token) (k : ℕ) : Type 0 where
  pub spot : Spot
  pub later : may_begin spot ≡ false
  pub nests : Nests (suc k) (K spot)
  pub text : List ℕ
  pub is : o ≡ Some text

pub placed_string : (pl : Spot) (o : Option (List ℕ)) (bc : Bool) (K : Spot → List Token) (k : ℕ)
    → Nests (suc k) (place_token pl (string_token o) bc K) → Strung o K k
placed_string pl None bc K k h = absurd h
placed_string pl (Some s) true K k h = record {
  spot = after_key;
  later = refl;
  nests = (allowed (may_begin pl) (Token.key s) K after_key k h).1;
  text = s;
  is = refl;
}
placed_string pl (Some s) false K k h = record {
  spot = after_value;
  later = refl;
  nests = (allowed (may_begin pl) (Token.string s) K after_value k h).1;
  text = s;
  is = refl;
}

pub along : (k : ℕ) (ts us : List Token) → ts ≡ us → Nests k ts → Nests k us
along k ts us e h = let P : List Token → Type 0 = λ l. Nests k l in subst P e h

-- ---- nothing behind the last token

allowed_none : (b : Bool) (t : Token) (K : Spot → List Token) (n : Spot) → Nests 0 (if_allowed b t K n) → ⊥
allowed_none true t K n h = h
allowed_none false t K n h = h

placed_none : (pl : Spot) (t : Token) (bc : Bool) (K : Spot → List Token) → Nests 0 (place_token pl t bc K)
    → ⊥
placed_none pl Token.begin_object bc K h = allowed_none (may_begin pl) Token.begin_object K fresh h
placed_none pl Token.end_object bc K h = allowed_none (may_close pl) Token.end_object K after_value h
placed_none pl Token.begin_array bc K h = allowed_none (may_begin pl) Token.begin_array K fresh h
placed_none pl Token.end_array bc K h = allowed_none (may_close pl) Token.end_array K after_value h
placed_none pl (Token.key s) bc K h = h
placed_none pl (Token.string s) true K h = allowed_none (may_begin pl) (Token.key s) K after_key h
placed_none pl (Token.string s) false K h = allowed_none (may_begin pl) (Token.string s) K after_value h
placed_none pl (Token.number s) bc K h = allowed_none (may_begin pl) (Token.number s) K after_value h
placed_none pl (Token.boolean b) bc K h = allowed_none (may_begin pl) (Token.boolean b) K after_value h
placed_none pl Token.null bc K h = allowed_none (may_begin pl) Token.null K after_value h
placed_none pl Token.bad bc K h = h

comma_none : (ls : List Lexeme) → Nests 0 (punctuate after_comma ls) → ⊥
unfolding punctuate
comma_none [] h = h
comma_none (token t ∷ ls) h = placed_none after_comma t (begins_colon ls) (λ n. punctuate n ls) h
comma_none (comma ∷ ls) h = h
comma_none (colon ∷ ls) h = h

pub none_left : (ls : List Lexeme) → Nests 0 (punctuate after_value ls) → ls ≡ []
unfolding punctuate
none_left [] h = refl
none_left (token t ∷ ls) h = absurd (placed_none after_value t (begins_colon ls) (λ n. punctuate n ls) h)
none_left (comma ∷ ls) h = absurd (comma_none ls h)
none_left (colon ∷ ls) h = absurd h

class_space : (a b c d : Bool) → cond a quote (cond b backslash (cond c operator (cond d space other)))
    ≡ space → d ≡ true
class_space true b c d e = absurd (cc)
class_space false true c d e = absurd (cc)
class_space false false true d e = absurd (cc)
class_space false false false true e = refl
class_space false false false false e = absurd (cc)

lexed_none : (c : Class) (x : ℕ) (xs : List ℕ) (K : Mode → List Lexeme) → lex_byte between c x xs K ≡ []
    → (c ≡ space) × (K between ≡ [])
lexed_none quote x xs K e = absurd (cc)
lexed_none backslash x xs K e = absurd (cc)
lexed_none operator x xs K e = absurd (cc)
lexed_none space x xs K e = (refl, e)
lexed_none other x xs K e = absurd (cc)

pub lex_blank : (xs : List ℕ) → lex between xs ≡ [] → list_all is_blank_byte xs ≡ true
unfolding lex
lex_blank [] e = refl
lex_blank (x ∷ xs) e =
    let k = lexed_none (class x) x xs (λ n. lex n xs) e in
    rw (class_space (x == 34) (x == 92) (is_operator x) (is_space x) k.0) (lex_blank xs k.1)
