-- The texts and the names in a line that is UTF-8 are UTF-8: in its tokens, and in its tree.
use Rattle.std.proofs.Common.{◌≡◌, ℕ, ◌-◌, Bool, true, false, cond, ◌&&◌, ◌==◌, List, [], ◌∷◌, ◌++◌, length}
use Rattle.std.proofs.Common.{take, drop, Option, Some, None}
use Rattle.std.proofs.Common.{IfSome, option_and_then, refl, sym, subst, arith, append_assoc, eqb-true}
use Rattle.std.proofs.lemmas.Bool.{cond_both}
use Rattle.std.specs.List.{starts_with}
use Rattle.std.specs.Prelude.{nat_eq}
use Rattle.std.specs.Str.{IsUtf8}
use Rattle.json.specs.Json as grammar
use Rattle.json.specs.Lex.{Lexeme, token, comma, colon, Class, quote, backslash, operator, space, other}
use Rattle.json.specs.Lex.{class, operator_lexeme, string_token, Mode, between, in_word, in_string}
use Rattle.json.specs.Lex.{in_escape, lex_byte}
use Rattle.json.specs.Lex.{lex, Place, fresh, after_value, after_comma, after_key, begins_colon, may_begin}
use Rattle.json.specs.Lex.{may_close, if_allowed, place_token, punctuate, tokens}
use Rattle.json.specs.Text.{content, plain}
use Rattle.json.specs.Token.{Token}
use Rattle.json.specs.Tree.{json_tokens, items_tokens, members_tokens}
use Rattle.json.specs.Ascii.{true_text, false_text, null_text}
use Rattle.json.specs.Word.{is_operator, is_space, head, ends_word, word, literal, number_before}
use Rattle.json.specs.Word.{after_number}
use Rattle.json.proofs.Found.{not_found, Some_inj}
use Rattle.json.proofs.Unique.Spelling.{value-json_tokens_back}
use Rattle.serde_json.specs.Read.{max_depth}
use Rattle.jp_doc.specs.Tree.{tree_of}
use Rattle.jp_doc.proofs.ContentTexts.{cut_at_ascii, content_text}
use Rattle.jp_doc.proofs.TreeNames.{NamesAreTexts, ItemNamesAreTexts, MemberNamesAreTexts}

abbrev pub IsText : Token → Type 0
IsText Token.begin_object = Unit {0}
IsText Token.end_object = Unit {0}
IsText Token.begin_array = Unit {0}
IsText Token.end_array = Unit {0}
IsText (Token.key s) = IsUtf8 s
IsText (Token.string s) = IsUtf8 s
IsText (Token.number s) = Unit {0}
IsText (Token.boolean b) = Unit {0}
IsText Token.null = Unit {0}
IsText Token.bad = Unit {0}

abbrev pub AreTexts : List Token → Type 0
AreTexts [] = Unit {0}
AreTexts (t ∷ ts) = IsText t × AreTexts ts

abbrev LexemeIsText : Lexeme → Type 0
LexemeIsText (token t) = IsText t
LexemeIsText comma = Unit {0}
LexemeIsText colon = Unit {0}

abbrev LexemesAreTexts : List Lexeme → Type 0
LexemesAreTexts [] = Unit {0}
LexemesAreTexts (l ∷ ls) = LexemeIsText l × LexemesAreTexts ls

-- ---- from bytes to lexemes

string_is : (o : Option (List ℕ)) → IfSome o IsUtf8 → IsText (string_token o)
string_is None h = tt
string_is (Some s) h = h

operator_if : (a b c d e : Bool) → LexemeIsText (cond a (token Token.begin_object)
    (cond b (token Token.end_object) (cond c (token Token.begin_array)
    (cond d (token Token.end_array) (cond e comma colon)))))
operator_if true b c d e = tt
operator_if false true c d e = tt
operator_if false false true d e = tt
operator_if false false false true e = tt
operator_if false false false false true = tt
operator_if false false false false false = tt

operator_is : (x : ℕ) → LexemeIsText (operator_lexeme x)
operator_is x = operator_if (x == 123) (x == 125) (x == 91) (x == 93) (x == 44)

either : (b : Bool) (t u : Token) → IsText t → IsText u → IsText (cond b t u)
either b t u p q = cond_both b t u IsText (λ _. p) (λ _. q)

literal_is : (name : List ℕ) (u : Token) (t : List ℕ) → IsText u → IsText (literal name u t)
literal_is name u t p =
    either (starts_with nat_eq t name && ends_word (drop (length name) t)) u Token.bad p tt

number_is : (t : List ℕ) (o : Option (List ℕ)) → IsText (number_before t o)
number_is t None = tt
number_is t (Some rest) =
    either (ends_word rest) (Token.number (take (length t - length rest) t)) Token.bad tt tt

word_is : (t : List ℕ) → IsText (word t)
unfolding word
word_is t =
    let number = number_before t (after_number t) in
    let null_or = cond (head t == 110) (literal null_text Token.null t) number in
    let false_or = cond (head t == 102) (literal false_text (Token.boolean false) t) null_or in
    either (head t == 116) (literal true_text (Token.boolean true) t) false_or
    (literal_is true_text (Token.boolean true) t tt)
    (either (head t == 102) (literal false_text (Token.boolean false) t) null_or
    (literal_is false_text (Token.boolean false) t tt)
    (either (head t == 110) (literal null_text Token.null t) number (literal_is null_text Token.null t tt)
    (number_is t (after_number t))))

quote_if : (q b o s : Bool) (x : ℕ) → (x == 34) ≡ q
    → cond q quote (cond b backslash (cond o operator (cond s space other))) ≡ quote → x ≡ 34
quote_if true b o s x e h = eqb-true x 34 e
quote_if false true o s x e h = absurd (cc)
quote_if false false true s x e h = absurd (cc)
quote_if false false false true x e h = absurd (cc)
quote_if false false false false x e h = absurd (cc)

quote_is : (x : ℕ) → class x ≡ quote → x ≡ 34
quote_is x h = quote_if (x == 34) (x == 92) (is_operator x) (is_space x) x refl h

byte_is : (m : Mode) (c : Class) (x : ℕ) (before xs : List ℕ) → class x ≡ c → IsUtf8 (before ++ x ∷ xs)
    → ((next : Mode) → LexemesAreTexts (lex next xs))
    → LexemesAreTexts (lex_byte m c x xs (λ next. lex next xs))
byte_is between quote x before xs is u k =
    let e = quote_is x is in
    let rest = (cut_at_ascii before x xs (omega (arith, e)) u).1 in
    (string_is (content plain xs) (content_text plain xs [] rest), k in_string)
byte_is between backslash x before xs is u k = (tt, k in_word)
byte_is between operator x before xs is u k = (operator_is x, k between)
byte_is between space x before xs is u k = k between
byte_is between other x before xs is u k = (word_is (x ∷ xs), k in_word)
byte_is in_word quote x before xs is u k = k in_word
byte_is in_word backslash x before xs is u k = k in_word
byte_is in_word operator x before xs is u k = (operator_is x, k between)
byte_is in_word space x before xs is u k = k between
byte_is in_word other x before xs is u k = k in_word
byte_is in_string quote x before xs is u k = k between
byte_is in_string backslash x before xs is u k = k in_escape
byte_is in_string operator x before xs is u k = k in_string
byte_is in_string space x before xs is u k = k in_string
byte_is in_string other x before xs is u k = k in_string
byte_is in_escape c x before xs is u k = k in_string

lexemes_are : (m : Mode) (before xs : List ℕ) → IsUtf8 (before ++ xs) → LexemesAreTexts (lex m xs)
unfolding lex
lexemes_are m before [] u = tt
lexemes_are m before (x ∷ xs) u =
    byte_is m (class x) x before xs refl u
    (λ next. lexemes_are next (before ++ x ∷ []) xs (subst IsUtf8 (sym (append_assoc before (x ∷ []) xs)) u))

-- ---- from lexemes to tokens

allowed : (b : Bool) (t : Token) (k : Place → List Token) (next : Place) → IsText t → AreTexts (k next)
    → AreTexts (if_allowed b t k next)
allowed true t k next p q = (p, q)
allowed false t k next p q = (tt, tt)

placed : (p : Place) (t : Token) (b : Bool) (k : Place → List Token) → IsText t
    → ((next : Place) → AreTexts (k next)) → AreTexts (place_token p t b k)
placed p Token.begin_object b k u q = allowed (may_begin p) _ k fresh tt (q fresh)
placed p Token.end_object b k u q = allowed (may_close p) _ k after_value tt (q after_value)
placed p Token.begin_array b k u q = allowed (may_begin p) _ k fresh tt (q fresh)
placed p Token.end_array b k u q = allowed (may_close p) _ k after_value tt (q after_value)
placed p (Token.key s) b k u q = (tt, tt)
placed p (Token.string s) true k u q = allowed (may_begin p) (Token.key s) k after_key u (q after_key)
placed p (Token.string s) false k u q = allowed (may_begin p) (Token.string s) k after_value u (q after_value)
placed p (Token.number s) b k u q = allowed (may_begin p) _ k after_value tt (q after_value)
placed p (Token.boolean c) b k u q = allowed (may_begin p) _ k after_value tt (q after_value)
placed p Token.null b k u q = allowed (may_begin p) _ k after_value tt (q after_value)
placed p Token.bad b k u q = (tt, tt)

punctuated : (p : Place) (ls : List Lexeme) → LexemesAreTexts ls → AreTexts (punctuate p ls)
unfolding punctuate
punctuated fresh [] h = tt
punctuated after_value [] h = tt
punctuated after_comma [] h = (tt, tt)
punctuated after_key [] h = (tt, tt)
punctuated p (token t ∷ ls) h = placed p t (begins_colon ls) _ h.0 (λ next. punctuated next ls h.1)
punctuated fresh (comma ∷ ls) h = (tt, tt)
punctuated after_value (comma ∷ ls) h = punctuated after_comma ls h.1
punctuated after_comma (comma ∷ ls) h = (tt, tt)
punctuated after_key (comma ∷ ls) h = (tt, tt)
punctuated fresh (colon ∷ ls) h = (tt, tt)
punctuated after_value (colon ∷ ls) h = (tt, tt)
punctuated after_comma (colon ∷ ls) h = (tt, tt)
punctuated after_key (colon ∷ ls) h = punctuated fresh ls h.1

pub tokens_are_texts : (line : List ℕ) → IsUtf8 line → AreTexts (tokens line)
tokens_are_texts line u = punctuated fresh (lex between line) (lexemes_are between [] line u)

-- ---- from tokens to the tree

mutual
  names : (j : grammar.Json) (r : List Token) → AreTexts (json_tokens j ++ r) → NamesAreTexts j × AreTexts r
  names grammar.null r h = (tt, h.1)
  names (grammar.boolean b) r h = (tt, h.1)
  names (grammar.number s) r h = (tt, h.1)
  names (grammar.string s) r h = (tt, h.1)
  names (grammar.array js) r h = item_names js r h.1
  names (grammar.object ms) r h = member_names ms r h.1

  item_names : (js : grammar.Items) (r : List Token) → AreTexts (items_tokens js ++ r)
      → ItemNamesAreTexts js × AreTexts r
  item_names grammar.no_items r h = (tt, h.1)
  item_names (grammar.item j js) r h =
      let one = names j (items_tokens js ++ r)
      (subst AreTexts (append_assoc (json_tokens j) (items_tokens js) r) h) in
      let others = item_names js r one.1 in
      ((one.0, others.0), others.1)

  member_names : (ms : grammar.Members) (r : List Token) → AreTexts (members_tokens ms ++ r)
      → MemberNamesAreTexts ms × AreTexts r
  member_names grammar.no_members r h = (tt, h.1)
  member_names (grammar.member k j ms) r h =
      let one = names j (members_tokens ms ++ r)
      (subst AreTexts (append_assoc (json_tokens j) (members_tokens ms) r) h.1) in
      let others = member_names ms r one.1 in
      ((h.0, one.0, others.0), others.1)

-- what is read from the line's tokens has names that are texts, and so has its tree
names_read : (line : List ℕ) (o : Option (grammar.Json × List Token)) (j : grammar.Json) → IsUtf8 line
    → grammar.value max_depth (tokens line) ≡ o
    → option_and_then (λ p. grammar.if_last p.0 p.1) o ≡ Some j → NamesAreTexts j
names_read line None j u is e = not_found j e
names_read line (Some (i, [])) j u is e =
    let spelled = value-json_tokens_back max_depth (tokens line) [] i is in
    subst NamesAreTexts (Some_inj i j e) (names i [] (subst AreTexts spelled (tokens_are_texts line u))).0
names_read line (Some (i, t ∷ ts)) j u is e = not_found j e

pub names_are_texts : (line : List ℕ) (j : grammar.Json) → IsUtf8 line → tree_of line ≡ Some j
    → NamesAreTexts j
names_are_texts line j u e = names_read line (grammar.value max_depth (tokens line)) j u refl e
