-- What each call of this crate reads, from left to right: what stands at the front of a text, and the rest
-- behind it. `None` says that no front of the text is what is read.
-- No clause of `read_query` names this file: `Spelling` says what a text spells, and that this is the same is
-- proved here and above.
use Rattle.std.specs.Prelude.{ℕ, zero, suc, ◌+◌, Bool, true, false, not, ◌||◌, ◌&&◌, ◌==◌, if◌then◌else◌}
use Rattle.std.specs.Prelude.{List, [], ◌∷◌, ◌++◌, length, Option, Some, None, option_and_then, option_map}
use Rattle.std.specs.Prelude.{bytes_eq, codes}
use Rattle.jp_tree.specs.declared.tree.Operator.{Operator}
use Rattle.jp_tree.specs.declared.tree.Operator.TheVariants as op
use Rattle.jp_tree.specs.Tree.{Text}
use Rattle.jp_tree.specs.Tree as tree
use Rattle.jp_tree.specs.Characters.{is_blank, is_digit, is_positive_digit, is_first, is_name_character}
use Rattle.jp_tree.specs.Characters.{is_lower, is_function_character, is_quote, is_bare, escaped}
use Rattle.jp_tree.specs.Characters.{is_hex_digit, hex_number, is_high_surrogate, is_low_surrogate}
use Rattle.jp_tree.specs.Characters.{pair_value}
use Rattle.jp_tree.specs.Numbers.{is_exponent_mark}
use Rattle.jp_tree.specs.Spelling.{begins_with}

-- what is read, and the rest
abbrev pub Outcome : Type 0 → Type 0
Outcome A = Option (A × Text)

abbrev pub Reader : Type 0 → Type 0
Reader A = Text → Outcome A

-- the rest alone
abbrev pub behind : {A : Type 0} → Outcome A → Option Text
behind o = option_map (λ r. r.1) o

infixl 10 ◌>>=◌
abbrev pub ◌>>=◌ : {A B : Type 0} → Option A → (A → Option B) → Option B
o >>= f = option_and_then f o

-- ---- runs of characters, and loops

-- the characters of a class at the front, and what follows them
abbrev pub taken : (ℕ → Bool) → Text → Text
taken p [] = []
taken p (c ∷ t) = if p c then c ∷ taken p t else []

abbrev pub past : (ℕ → Bool) → Text → Text
past p [] = []
past p (c ∷ t) = if p c then past p t else c ∷ t

-- behind the blanks
abbrev pub skip : Text → Text
skip t = past is_blank t

-- a character of the first class, and all that follow of the second
unfoldable pub run_at : (ℕ → Bool) → (ℕ → Bool) → Reader Text
run_at first later [] = None
run_at first later (c ∷ t) = if first c then Some (c ∷ taken later t, past later t) else None

-- what follows this character
unfoldable pub mark_at : ℕ → Text → Option Text
mark_at mark [] = None
mark_at mark (c ∷ t) = if c == mark then Some t else None

-- one more item, or the end
abbrev pub Turn : Type 0 → Type 0
Turn A = Outcome (Option A)

abbrev pub goes_on : {A : Type 0} → (List A → Text → Outcome (List A)) → List A → Option A → Text
    → Outcome (List A)
goes_on go found None t = Some (found, t)
goes_on go found (Some x) t = go (found ++ x ∷ []) t

-- items up to the end, behind those that are found; the number bounds the turns
unfoldable pub many : {A : Type 0} → (Text → Turn A) → ℕ → List A → Text → Outcome (List A)
many turn zero found t = None
many turn (suc n) found t = turn t >>= λ p. goes_on (many turn n) found p.0 p.1

unfoldable pub all_of : {A : Type 0} → (Text → Turn A) → List A → Text → Outcome (List A)
all_of turn found t = many turn (length t + 1) found t

-- ---- names, strings and numbers

abbrev pub name_at : Reader Text
name_at t = run_at is_first is_name_character t

abbrev pub function_name_at : Reader Text
function_name_at t = run_at is_lower is_function_character t

abbrev pub digits_at : Reader Text
digits_at t = run_at is_digit is_digit t

abbrev pub positive_at : Reader Text
positive_at t = run_at is_positive_digit is_digit t

unfoldable pub int_at : Reader Text
int_at [] = None
int_at (c ∷ t) =
    if c == 48 then Some (48 ∷ [], t)
    else if c == 45 then (positive_at t >>= λ r. Some (45 ∷ r.0, r.1))
    else positive_at (c ∷ t)

-- behind `-`
unfoldable pub minus_at : Reader Text
minus_at [] = None
minus_at (c ∷ t) =
    if c == 48 then Some (45 ∷ 48 ∷ [], t)
    else (positive_at (c ∷ t) >>= λ r. Some (45 ∷ r.0, r.1))

unfoldable pub whole_at : Reader Text
whole_at [] = None
whole_at (c ∷ t) = if c == 45 then minus_at t else int_at (c ∷ t)

unfoldable pub fraction_at : Reader Text
fraction_at [] = Some ([], [])
fraction_at (c ∷ t) =
    if c == 46 then (digits_at t >>= λ r. Some (46 ∷ r.0, r.1))
    else Some ([], c ∷ t)

abbrev pub is_sign : ℕ → Bool
is_sign c = c == 43 || c == 45

-- the sign in front, or nothing, and what follows it
abbrev pub sign_at : Text → Text × Text
sign_at [] = ([], [])
sign_at (c ∷ t) = if is_sign c then (c ∷ [], t) else ([], c ∷ t)

unfoldable pub exponent_at : Reader Text
exponent_at [] = Some ([], [])
exponent_at (c ∷ t) =
    if is_exponent_mark c then (digits_at (sign_at t).1 >>= λ r. Some (c ∷ (sign_at t).0 ++ r.0, r.1))
    else Some ([], c ∷ t)

unfoldable pub number_at : Reader Text
number_at t =
    whole_at t >>= λ whole.
    fraction_at whole.1 >>= λ fraction.
    exponent_at fraction.1 >>= λ exponent.
    Some (whole.0 ++ (fraction.0 ++ exponent.0), exponent.1)

-- four hexadecimal digits, as the number that they write
unfoldable pub hex_at : Reader ℕ
hex_at (a ∷ b ∷ c ∷ d ∷ t) =
    if is_hex_digit a && is_hex_digit b && is_hex_digit c && is_hex_digit d then Some (hex_number a b c d, t)
    else None
hex_at _ = None

-- behind a high surrogate
unfoldable pub pair_at : ℕ → Text → Turn ℕ
pair_at high t =
    mark_at 92 t >>= λ u.
    mark_at 117 u >>= λ v.
    hex_at v >>= λ low.
    if is_low_surrogate low.0 then Some (Some (pair_value high low.0), low.1) else None

-- behind `\u`
unfoldable pub unicode_at : Text → Turn ℕ
unicode_at t =
    hex_at t >>= λ r.
    if is_high_surrogate r.0 then pair_at r.0 r.1
    else if is_low_surrogate r.0 then None
    else Some (Some r.0, r.1)

-- behind a backslash
unfoldable pub escape_at : ℕ → Text → Turn ℕ
escape_at quote [] = None
escape_at quote (c ∷ t) =
    if c == 117 then unicode_at t
    else (escaped quote c >>= λ value. Some (Some value, t))

-- one character of a string, or the quote that closes it
unfoldable pub piece_at : ℕ → Text → Turn ℕ
piece_at quote [] = None
piece_at quote (c ∷ t) =
    if c == quote then Some (None, t)
    else if c == 92 then escape_at quote t
    else if is_bare quote c then Some (Some c, t)
    else None

-- behind the quote that opens
abbrev pub string_at : ℕ → Reader Text
string_at quote t = all_of (piece_at quote) [] t

-- `true`, `false` and `null`
abbrev pub word_literal : Text → Option tree.Literal
word_literal t =
    if bytes_eq t (codes "true") then Some (tree.truth true)
    else if bytes_eq t (codes "false") then Some (tree.truth false)
    else if bytes_eq t (codes "null") then Some tree.null
    else None

unfoldable pub word_at : Reader tree.Literal
word_at t = function_name_at t >>= λ r. word_literal r.0 >>= λ x. Some (x, r.1)

unfoldable pub literal_at : Reader tree.Literal
literal_at [] = None
literal_at (c ∷ t) =
    if is_quote c then (string_at c t >>= λ r. Some (tree.text r.0, r.1))
    else if is_lower c then word_at (c ∷ t)
    else (number_at (c ∷ t) >>= λ r. Some (tree.number r.0, r.1))

-- ---- slices and operators

-- whether an integer begins here
abbrev pub begins_int : Text → Bool
begins_int [] = false
begins_int (c ∷ t) = c == 45 || is_digit c

-- behind blanks an integer, or nothing
unfoldable pub bound_at : Reader (Option Text)
bound_at t = if begins_int (skip t) then (int_at (skip t) >>= λ r. Some (Some r.0, r.1)) else Some (None, t)

-- behind blanks `:` and perhaps an integer, or nothing
unfoldable pub step_at : Reader (Option Text)
step_at t = if begins_with 58 (skip t) then (mark_at 58 (skip t) >>= bound_at) else Some (None, t)

-- from the first `:` on
unfoldable pub slice_at : Option Text → Reader tree.Selector
slice_at first t =
    mark_at 58 t >>= λ u.
    bound_at u >>= λ past.
    step_at past.1 >>= λ last.
    Some (tree.slice first past.0 last.0, last.1)

-- behind an integer
unfoldable pub index_or_slice : Text → Reader tree.Selector
index_or_slice number t =
    if begins_with 58 (skip t) then slice_at (Some number) (skip t)
    else Some (tree.index number, t)

-- an index or a slice
unfoldable pub numbers_at : Reader tree.Selector
numbers_at t =
    if begins_with 58 t then slice_at None t
    else (int_at t >>= λ r. index_or_slice r.0 r.1)

-- `=` behind `<` or `>` gives the first operator
abbrev pub or_equal : Operator → Operator → Text → Operator × Text
or_equal with without [] = (without, [])
or_equal with without (c ∷ t) = if c == 61 then (with, t) else (without, c ∷ t)

-- the operator, where `=` follows
abbrev pub doubled_mark : Operator → Reader Operator
doubled_mark o t = mark_at 61 t >>= λ u. Some (o, u)

unfoldable pub operator_at : Reader Operator
operator_at [] = None
operator_at (c ∷ t) =
    if c == 61 then doubled_mark op.Eq t
    else if c == 33 then doubled_mark op.Ne t
    else if c == 60 then Some (or_equal op.Le op.Lt t)
    else if c == 62 then Some (or_equal op.Ge op.Gt t)
    else None

-- ---- calls, where a literal begins, and shorthand

-- whether a function's name and a parenthesis stand here
abbrev pub calls : Text → Bool
calls [] = false
calls (c ∷ t) = is_lower c && begins_with 40 (past is_function_character t)

-- whether a literal begins here
abbrev pub begins_literal : Text → Bool
begins_literal [] = false
begins_literal (c ∷ t) = is_quote c || begins_int (c ∷ t) || (is_lower c && not (calls (c ∷ t)))

-- `*` or a name
unfoldable pub named_at : (List tree.Selector → tree.Segment) → Reader tree.Segment
named_at make [] = None
named_at make (c ∷ t) =
    if c == 42 then Some (make (tree.wildcard ∷ []), t)
    else (name_at (c ∷ t) >>= λ r. Some (make (tree.name r.0 ∷ []), r.1))
