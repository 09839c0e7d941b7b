-- What the quick reading of a line lets through, and what is so of each flat value: a working file, which
-- nobody has to believe.
use Rattle.std.specs.Prelude.{◌≡◌, ◌≢◌, ℕ, suc, ◌-◌, ◌^◌, Bool, true, false, not, ◌&&◌, ◌==◌}
use Rattle.std.specs.Prelude.{nat_lt, nat_le}
use Rattle.std.specs.Prelude.{List, [], ◌∷◌, Option, Some, None}
use Rattle.std.specs.Prelude.{length, drop, slice_index, if◌then◌else◌}
use Rattle.std.specs.Char.{is_ascii_digit}
use Rattle.std.specs.List.{list_all}
use Rattle.std.specs.Str.{is_utf8}
use Rattle.std.specs.Str.Parse.{digits_value}
use Rattle.json.specs.Token.{Token}
use Rattle.json.specs.Json as text
use Rattle.json.specs.Tree.{json_tokens}
use Rattle.json.specs.Word.{after_number}
use Rattle.serde_json.specs.Read.{max_depth}
use Rattle.jp_doc.specs.Reading.{max_line}
use Rattle.jp_doc.specs.Tree.{text_number}
use Rattle.jp_flat_nodes.specs.Digits.{are_digits}
use Rattle.jp_number.specs.Number.{is_short}

-- no plus stands first, and where all are digits, there are some, and no zero stands before others
abbrev pub IsLed : List ℕ → Type 0
IsLed ds = (slice_index ds 0 ≢ 43) × (list_all is_ascii_digit ds ≡ true → are_digits ds ≡ true)

-- the digits of a number of 64 bits
abbrev pub is_unsigned_text : List ℕ → Bool
is_unsigned_text ds = are_digits ds && nat_lt (digits_value 10 ds) (2 ^ 64)

-- the digits of such a number behind a minus: none of them is 0
abbrev pub is_minus_text : List ℕ → Bool
is_minus_text ds = are_digits ds && not (slice_index ds 0 == 48) && nat_le (digits_value 10 ds) (2 ^ 63)

-- the text of a whole number of 64 bits, as it is written compactly
abbrev pub is_whole_text : List ℕ → Bool
is_whole_text s = if slice_index s 0 == 45 then is_minus_text (drop 1 s) else is_unsigned_text s

-- The tokens hold texts in UTF-8 and such numbers alone, and open at most 127 brackets at once, where so many
-- are open before them.
abbrev pub is_plain_from : ℕ → List Token → Bool
is_plain_from level [] = true
is_plain_from level (Token.begin_object ∷ ts) = nat_lt level 127 && is_plain_from (suc level) ts
is_plain_from level (Token.end_object ∷ ts) = is_plain_from (level - 1) ts
is_plain_from level (Token.begin_array ∷ ts) = nat_lt level 127 && is_plain_from (suc level) ts
is_plain_from level (Token.end_array ∷ ts) = is_plain_from (level - 1) ts
is_plain_from level (Token.key s ∷ ts) = is_utf8 s && is_plain_from level ts
is_plain_from level (Token.string s ∷ ts) = is_utf8 s && is_plain_from level ts
is_plain_from level (Token.number s ∷ ts) = is_whole_text s && is_plain_from level ts
is_plain_from level (Token.boolean b ∷ ts) = is_plain_from level ts
is_plain_from level (Token.null ∷ ts) = is_plain_from level ts
is_plain_from level (Token.bad ∷ ts) = false

-- A tree has such numbers and texts in UTF-8 alone.
abbrev mutual
  pub is_plain : text.Json → Bool
  is_plain text.null = true
  is_plain (text.boolean b) = true
  is_plain (text.number s) = is_whole_text s
  is_plain (text.string s) = is_utf8 s
  is_plain (text.array js) = items_are_plain js
  is_plain (text.object ms) = members_are_plain ms

  pub items_are_plain : text.Items → Bool
  items_are_plain text.no_items = true
  items_are_plain (text.item j js) = is_plain j && items_are_plain js

  pub members_are_plain : text.Members → Bool
  members_are_plain text.no_members = true
  members_are_plain (text.member k j ms) = is_utf8 k && (is_plain j && members_are_plain ms)

-- the text of a number (RFC 8259, 6), within the limits
abbrev pub is_empty_rest : Option (List ℕ) → Bool
is_empty_rest None = false
is_empty_rest (Some []) = true
is_empty_rest (Some (c ∷ cs)) = false

abbrev pub is_fit_number : List ℕ → Bool
is_fit_number s = is_empty_rest (after_number s) && is_short (text_number s)

-- A tree has such numbers, and names in UTF-8, alone.
abbrev mutual
  pub is_fit : text.Json → Bool
  is_fit text.null = true
  is_fit (text.boolean b) = true
  is_fit (text.number s) = is_fit_number s
  is_fit (text.string s) = true
  is_fit (text.array js) = items_are_fit js
  is_fit (text.object ms) = members_are_fit ms

  pub items_are_fit : text.Items → Bool
  items_are_fit text.no_items = true
  items_are_fit (text.item j js) = is_fit j && items_are_fit js

  pub members_are_fit : text.Members → Bool
  members_are_fit text.no_members = true
  members_are_fit (text.member k j ms) = is_utf8 k && (is_fit j && members_are_fit ms)

abbrev pub is_small : Option (text.Json × List Token) → Bool
is_small None = false
is_small (Some p) = nat_le (length (json_tokens p.0)) max_line && is_fit p.0

-- a value begins here, which has such numbers and names, and no more tokens than a line has bytes
abbrev pub is_flat : List Token → Bool
is_flat ts = is_small (text.value max_depth ts)
