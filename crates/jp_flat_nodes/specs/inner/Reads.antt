-- What the reading of a part of a line has found: a working file, which nobody has to believe.
use Rattle.std.specs.Prelude.{◌≡◌, ℕ, ◌+◌, ◌-◌, ◌≤◌, ◌<◌, Bool, true, false, ◌||◌, ◌==◌, List, [], ◌∷◌, ◌++◌}
use Rattle.std.specs.Prelude.{◌⊎◌, cond, map, fold, length, take, drop, get_or, Some, option_and_then}
use Rattle.std.specs.Char.{is_ascii_digit, encode_utf8}
use Rattle.std.specs.List.{list_all, prefix_len}
use Rattle.json.specs.Json.{Json}
use Rattle.json.specs.Lex.{lex, in_string}
use Rattle.json.specs.Print.{begins, ends, escape, separator, token_text}
use Rattle.json.specs.Spaced.{IsGap}
use Rattle.json.specs.Run.{is_plain}
use Rattle.json.specs.Text.{content, code_unit, plain, prepend}
use Rattle.json.specs.Token.{Token, begin_object, end_object, begin_array, end_array, key, string, number}
use Rattle.json.specs.Token.{boolean, null, bad}
use Rattle.json.specs.Tree as tree
use Rattle.json.specs.Tree.{json_tokens, HasNumbers}
use Rattle.json.specs.Word.{head, after_whole, after_fraction, after_exponent}
use Rattle.jp_flat_nodes.specs.Digits.{are_few_digits, is_no_e}
use Rattle.jp_flat_nodes.specs.Nodes.{Source, source, piece, tokens_at, link_of, AreWithin, are_taken}
use Rattle.jp_flat_nodes.specs.declared.node.FlatNode.{FlatNode}
use Rattle.jp_flat_nodes.specs.declared.node.FlatNodes.{FlatNodes}
use Rattle.jp_flat_nodes.specs.declared.node.FlatNode.TheVariants.{Null}

-- a space or a line feed
abbrev pub is_blank : ℕ → Bool
is_blank x = (x == 32) || (x == 10)

-- one whole value stands in the tokens from one place to another
pub record Spans (all : List Token) (from end : ℕ) : Type 0 where
  pub front : List Token
  pub value : Json
  pub back : List Token
  pub whole : all ≡ front ++ (json_tokens value ++ back)
  pub begins : length front ≡ from
  pub ends : end ≡ from + length (json_tokens value)

-- the nodes from a place on tell so
abbrev pub LinkedFrom : Source → ℕ → List FlatNode → Type 0
LinkedFrom src k nodes =
    (i end : ℕ) → k ≤ i → link_of (get_or nodes i Null) ≡ Some end → Spans (tokens_at src nodes) i end

-- the nodes that stood before stand there still
abbrev pub AreKept : List FlatNode → List FlatNode → Type 0
AreKept old new = (i : ℕ) → i < length old → get_or new i Null ≡ get_or old i Null

-- the nodes have these tokens more
pub record Grows (src : Source) (old new : List FlatNode) (ts : List Token) : Type 0 where
  pub tokens : tokens_at src new ≡ tokens_at src old ++ ts
  pub kept : AreKept old new
  pub linked : LinkedFrom src (length old) new
  pub within : AreWithin src old → AreWithin src new

-- bytes within a text of the line that stand for these, whatever stands behind them
pub record Stands (part text : List ℕ) : Type 0 where
  pub means : (r : List ℕ) → content plain (part ++ r) ≡ prepend text (content plain r)
  pub passed : (r : List ℕ) → lex in_string (part ++ r) ≡ lex in_string r

-- a text by which the grammar reads the token: of a text and a name any, of others the one that is printed
abbrev pub IsSpelling : Token → List ℕ → Type 0
IsSpelling begin_object t = t ≡ 123 ∷ []
IsSpelling end_object t = t ≡ 125 ∷ []
IsSpelling begin_array t = t ≡ 91 ∷ []
IsSpelling end_array t = t ≡ 93 ∷ []
IsSpelling (key s) t = (part : List ℕ) × (t ≡ (34 ∷ (part ++ 34 ∷ [])) ++ 58 ∷ []) × Stands part s
IsSpelling (string s) t = (part : List ℕ) × (t ≡ 34 ∷ (part ++ 34 ∷ [])) × Stands part s
IsSpelling (number s) t = t ≡ s
IsSpelling (boolean b) t = t ≡ token_text (boolean b)
IsSpelling null t = t ≡ token_text null
IsSpelling bad t = ⊥

-- a token, how it is spelled, and the blanks before it
pub record Spelled : Type 0 where
  pub gap : List ℕ
  pub token : Token
  pub text : List ℕ

abbrev pub AreSpelled : List Spelled → Type 0
AreSpelled [] = Unit {0}
AreSpelled (p ∷ ps) = IsGap p.gap × IsSpelling p.token p.text × AreSpelled ps

-- their text, with commas
unfoldable pub spell : Bool → List Spelled → List ℕ
spell after [] = []
spell after (p ∷ ps) = separator after p.token ++ (p.gap ++ (p.text ++ spell (ends p.token) ps))

-- The line, from one place to another, is these tokens as they may be spelled, with blanks before each; a
-- comma
-- stands before the first where a value has just ended.
pub record Prints (line : List ℕ) (after : Bool) (from end : ℕ) (ts : List Token) : Type 0 where
  pub printed : List Spelled
  pub spelled : AreSpelled printed
  pub are : map (λ p. p.token) printed ≡ ts
  pub text : drop from line ≡ spell after printed ++ drop end line

-- whether these tokens leave a value just ended
abbrev pub ended : Bool → List Token → Bool
ended after ts = fold (λ _ t. ends t) after ts

-- whether the first token begins a value or a member
abbrev pub begin : List Token → Bool
begin [] = false
begin (t ∷ ts) = begins t

-- the line from `at` on is a value's text, and goes on at `end`; the nodes have its tokens more
pub record Reads (src : Source) (decimals : Bool) (at end depth : ℕ) (old new : List FlatNode) : Type 0 where
  pub value : Json
  pub later : at < end
  pub numbers : HasNumbers value
  pub taken : are_taken decimals value ≡ true
  pub nests : tree.depth value ≤ depth
  pub text : Prints src.line false at end (json_tokens value)
  pub grows : Grows src old new (json_tokens value)

-- the same of a name and its colon
pub record ReadsKey (src : Source) (at end : ℕ) (old new : List FlatNode) : Type 0 where
  pub name : List ℕ
  pub later : at < end
  pub text : Prints src.line false at end (key name ∷ [])
  pub grows : Grows src old new (key name ∷ [])

-- a text begins with another
pub record GoesOn (front all : List ℕ) : Type 0 where
  pub more : List ℕ
  pub is : all ≡ front ++ more

-- both, whatever is put behind the texts
abbrev pub ReadsOn : List ℕ → Bool → ℕ → ℕ → ℕ → FlatNodes → FlatNodes → Type 0
ReadsOn line decimals at end depth old new =
    (all : List ℕ) → GoesOn new.texts.items all
    → GoesOn old.texts.items all × Reads (source line all) decimals at end depth old.nodes.items
    new.nodes.items

abbrev pub ReadsKeyOn : List ℕ → ℕ → ℕ → FlatNodes → FlatNodes → Type 0
ReadsKeyOn line at end old new =
    (all : List ℕ) → GoesOn new.texts.items all
    → GoesOn old.texts.items all × ReadsKey (source line all) at end old.nodes.items new.nodes.items

-- the text between two places is plain, and a quote stands behind it
pub record IsPlainText (line : List ℕ) (from stop : ℕ) : Type 0 where
  pub ordered : from ≤ stop
  pub inside : stop < length line
  pub plain : escape (piece line from (stop - from)) ≡ piece line from (stop - from)
  pub stands : Stands (piece line from (stop - from)) (piece line from (stop - from))
  pub text : drop from line ≡ piece line from (stop - from) ++ (34 ∷ drop (stop + 1) line)

-- the line from one place to another stands for a text, which was put behind the texts
pub record IsWritten (line : List ℕ) (from at : ℕ) (old new : List ℕ) : Type 0 where
  pub more : List ℕ
  pub behind : new ≡ old ++ more
  pub ordered : from ≤ at
  pub inside : at ≤ length line
  pub part : List ℕ
  pub text : drop from line ≡ part ++ drop at line
  pub stands : Stands part more

-- a quote stands behind it, and the text from a place on among the texts
pub record IsUnescaped (line : List ℕ) (from stop : ℕ) (old new : List ℕ) (begin count : ℕ) : Type 0 where
  pub written : IsWritten line from stop old new
  pub inside : stop < length line
  pub quote : get_or line stop 0 ≡ 34
  pub begins : begin ≡ length old
  pub counts : count ≡ length new - length old

-- four hexadecimal digits from a place on spell a code unit
pub record IsUnit (line : List ℕ) (at unit : ℕ) : Type 0 where
  pub is : code_unit (get_or line at 0) (get_or line (at + 1) 0) (get_or line (at + 2) 0)
      (get_or line (at + 3) 0) ≡ Some unit
  pub small : unit < 65536
  pub are_plain : (i : ℕ) → i < 4 → is_plain (get_or line (at + i) 0) ≡ true

-- an escape stands between two places, for this character
pub record IsEscape (line : List ℕ) (at letter end : ℕ) : Type 0 where
  pub later : at < end
  pub inside : end ≤ length line
  pub part : List ℕ
  pub text : drop at line ≡ part ++ drop end line
  pub stands : Stands part (encode_utf8 letter)

-- digits of a short whole number stand between two places
pub record IsDigits (line : List ℕ) (from end : ℕ) : Type 0 where
  pub ordered : from < end
  pub inside : end ≤ length line
  pub few : are_few_digits (piece line from (end - from)) ≡ true
  pub passes : (r : List ℕ) → is_ascii_digit (head r) ≡ false
      → after_whole (piece line from (end - from) ++ r) ≡ Some r
  pub no_e : list_all is_no_e (piece line from (end - from)) ≡ true
  pub first : is_ascii_digit (get_or line from 0) ≡ true

-- from one place to another stands nothing, or a point and digits
pub record IsPoint (line : List ℕ) (from end : ℕ) : Type 0 where
  pub point : get_or line from 0 ≡ 46
  pub some : from + 1 < end
  pub inside : end ≤ length line
  pub digits : end - (from + 1) ≤ prefix_len is_ascii_digit (drop (from + 1) line)

abbrev pub IsFraction : List ℕ → ℕ → ℕ → Type 0
IsFraction line from end = (end ≡ from) ⊎ IsPoint line from end

-- where the digits of an exponent begin, behind its sign if there is one
abbrev pub behind_sign : List ℕ → ℕ → ℕ
behind_sign line from = from + cond ((get_or line from 0 == 45) || (get_or line from 0 == 43)) 1 0

-- from one place to another stands nothing, or an `e` and the digits of an exponent, ten bytes at most
pub record IsPower (line : List ℕ) (from end : ℕ) : Type 0 where
  pub letter : ((get_or line from 0 == 101) || (get_or line from 0 == 69)) ≡ true
  pub some : behind_sign line (from + 1) < end
  pub inside : end ≤ length line
  pub few : end - from ≤ 10
  pub digits : end - behind_sign line (from + 1)
      ≤ prefix_len is_ascii_digit (drop (behind_sign line (from + 1)) line)

abbrev pub IsExponent : List ℕ → ℕ → ℕ → Type 0
IsExponent line from end = (end ≡ from) ⊎ IsPower line from end

-- a number that begins with a digit, as it is read
pub record IsUnsigned (line : List ℕ) (decimals : Bool) (from end : ℕ) : Type 0 where
  pub ordered : from < end
  pub inside : end ≤ length line
  pub first : is_ascii_digit (get_or line from 0) ≡ true
  pub grammar : option_and_then after_exponent (option_and_then after_fraction
      (after_whole (piece line from (end - from)))) ≡ Some []
  pub few : decimals ≡ false → are_few_digits (piece line from (end - from)) ≡ true
  pub short : decimals ≡ true → end - from ≤ 290
  pub plain : decimals ≡ true → list_all is_no_e (take (end - from - 10) (piece line from
      (end - from))) ≡ true
