-- A line has no more tokens than bytes.
use Rattle.std.proofs.Common.{◌≡◌, ℕ, suc, ◌+◌, ◌≤◌, Bool, true, false, List, [], ◌∷◌, length, refl, arith}
use Rattle.json.specs.Lex.{Lexeme, token, comma, colon, Class, quote, backslash, operator, space, other, Mode}
use Rattle.json.specs.Lex.{between, in_word, in_string, in_escape, class, lex_byte, lex, Place, fresh}
use Rattle.json.specs.Lex.{after_value, after_comma, after_key, begins_colon, may_begin, may_close}
use Rattle.json.specs.Lex.{if_allowed, place_token, punctuate, tokens}
use Rattle.json.specs.Token.{Token}
use Rattle.json.specs.Token as one

-- ---- a byte begins one lexeme at most

one_byte : (m : Mode) (c : Class) (x : ℕ) (xs : List ℕ) (k : Mode → List Lexeme) (n : ℕ)
    → ((next : Mode) → length (k next) ≤ n) → length (lex_byte m c x xs k) ≤ suc n
one_byte between quote x xs k n h = omega (arith, h in_string)
one_byte between backslash x xs k n h = omega (arith, h in_word)
one_byte between operator x xs k n h = omega (arith, h between)
one_byte between space x xs k n h = omega (arith, h between)
one_byte between other x xs k n h = omega (arith, h in_word)
one_byte in_word quote x xs k n h = omega (arith, h in_word)
one_byte in_word backslash x xs k n h = omega (arith, h in_word)
one_byte in_word operator x xs k n h = omega (arith, h between)
one_byte in_word space x xs k n h = omega (arith, h between)
one_byte in_word other x xs k n h = omega (arith, h in_word)
one_byte in_string quote x xs k n h = omega (arith, h between)
one_byte in_string backslash x xs k n h = omega (arith, h in_escape)
one_byte in_string operator x xs k n h = omega (arith, h in_string)
one_byte in_string space x xs k n h = omega (arith, h in_string)
one_byte in_string other x xs k n h = omega (arith, h in_string)
one_byte in_escape c x xs k n h = omega (arith, h in_string)

few_lexemes : (m : Mode) (xs : List ℕ) → length (lex m xs) ≤ length xs
unfolding lex
few_lexemes m [] = omega arith
few_lexemes m (x ∷ xs) =
    one_byte m (class x) x xs (λ next. lex next xs) (length xs) (λ next. few_lexemes next xs)

-- ---- a lexeme is one token at most, and one that ends too early has a comma or a colon before it

-- how many more there may be behind the place
abbrev more : Place → ℕ
more fresh = 0
more after_value = 0
more after_comma = 1
more after_key = 1

allowed : (b : Bool) (t : Token) (k : Place → List Token) (next : Place) (n : ℕ) → length (k next) ≤ n
    → length (if_allowed b t k next) ≤ suc n
allowed true t k next n h = omega (arith, h)
allowed false t k next n h = omega arith

-- what goes on behind a token, before which no colon stands or one does
record GoesOn (k : Place → List Token) (before_colon : Bool) (n : ℕ) : Type 0 where
  opened : length (k fresh) ≤ n
  ended : length (k after_value) ≤ n
  named : before_colon ≡ true → length (k after_key) ≤ n

one_token : (p : Place) (t : Token) (b : Bool) (k : Place → List Token) (n : ℕ) → GoesOn k b n
    → length (place_token p t b k) ≤ suc n
one_token p one.begin_object b k n g = allowed (may_begin p) one.begin_object k fresh n g.opened
one_token p one.end_object b k n g = allowed (may_close p) one.end_object k after_value n g.ended
one_token p one.begin_array b k n g = allowed (may_begin p) one.begin_array k fresh n g.opened
one_token p one.end_array b k n g = allowed (may_close p) one.end_array k after_value n g.ended
one_token p (one.key s) b k n g = omega arith
one_token p (one.string s) true k n g = allowed (may_begin p) (one.key s) k after_key n (g.named refl)
one_token p (one.string s) false k n g = allowed (may_begin p) (one.string s) k after_value n g.ended
one_token p (one.number s) b k n g = allowed (may_begin p) (one.number s) k after_value n g.ended
one_token p (one.boolean t) b k n g = allowed (may_begin p) (one.boolean t) k after_value n g.ended
one_token p one.null b k n g = allowed (may_begin p) one.null k after_value n g.ended
one_token p one.bad b k n g = omega arith

goes : (ls : List Lexeme) → length (punctuate fresh ls) ≤ length ls + more fresh
    → length (punctuate after_value ls) ≤ length ls + more after_value
    → (begins_colon ls ≡ true → length (punctuate after_key ls) ≤ length ls)
    → GoesOn (λ next. punctuate next ls) (begins_colon ls) (length ls)
goes ls opened ended named = record {
  opened = omega (arith, opened);
  ended = omega (arith, ended);
  named = named;
}

behind : (p : Place) (t : Token) (ls : List Lexeme)
    → GoesOn (λ next. punctuate next ls) (begins_colon ls) (length ls)
    → length (place_token p t (begins_colon ls) (λ next. punctuate next ls)) ≤ suc (length ls)
behind p t ls g = one_token p t (begins_colon ls) (λ next. punctuate next ls) (length ls) g

mutual
  unfolding punctuate

  placed : (p : Place) (ls : List Lexeme) → length (punctuate p ls) ≤ length ls + more p
  placed fresh [] = omega arith
  placed after_value [] = omega arith
  placed after_comma [] = omega arith
  placed after_key [] = omega arith
  placed fresh (token t ∷ ls) =
      omega (arith, behind fresh t ls (goes ls (placed fresh ls) (placed after_value ls) (named ls)))
  placed after_value (token t ∷ ls) =
      omega (arith, behind after_value t ls (goes ls (placed fresh ls) (placed after_value ls) (named ls)))
  placed after_comma (token t ∷ ls) =
      omega (arith, behind after_comma t ls (goes ls (placed fresh ls) (placed after_value ls) (named ls)))
  placed after_key (token t ∷ ls) =
      omega (arith, behind after_key t ls (goes ls (placed fresh ls) (placed after_value ls) (named ls)))
  placed fresh (comma ∷ ls) = omega arith
  placed after_value (comma ∷ ls) = omega (arith, placed after_comma ls)
  placed after_comma (comma ∷ ls) = omega arith
  placed after_key (comma ∷ ls) = omega arith
  placed fresh (colon ∷ ls) = omega arith
  placed after_value (colon ∷ ls) = omega arith
  placed after_comma (colon ∷ ls) = omega arith
  placed after_key (colon ∷ ls) = omega (arith, placed fresh ls)

  named : (ls : List Lexeme) → begins_colon ls ≡ true → length (punctuate after_key ls) ≤ length ls
  named [] h = absurd (cc)
  named (token t ∷ ls) h = absurd (cc)
  named (comma ∷ ls) h = absurd (cc)
  named (colon ∷ ls) h = omega (arith, placed fresh ls)

pub few_tokens : (line : List ℕ) → length (tokens line) ≤ length line
few_tokens line = omega (arith, placed fresh (lex between line), few_lexemes between line)
