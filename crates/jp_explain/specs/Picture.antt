-- What a terminal is given of a query, and of a line.
use Rattle.std.specs.Prelude.{ℕ, ◌≡◌, ◌≤◌, ◌⊎◌, ◌==◌, ◌||◌, ◌&&◌, not, nat_le, Bool, true, [], ◌∷◌, ◌++◌}
use Rattle.std.specs.Prelude.{replicate, length}
use Rattle.std.specs.List.{list_all}
use Rattle.unicode.specs.Binary.{is_default_ignorable_code_point}
use Rattle.jp_tree.specs.Tree.{Text}

-- a control character: U+0000 to U+001F, U+007F to U+009F
abbrev pub is_control : ℕ → Bool
is_control c = nat_le c 31 || (nat_le 127 c && nat_le c 159)

-- U+2028 and U+2029, which end a line and a paragraph
abbrev pub is_separator : ℕ → Bool
is_separator c = c == 0x2028 || c == 0x2029

-- a character in whose place an escape is shown: one of control, such a separator, and one that shows nothing
-- or turns the direction of others (Default_Ignorable_Code_Point of Unicode)
abbrev pub is_escaped : ℕ → Bool
is_escaped c = is_control c || is_separator c || is_default_ignorable_code_point c

-- no such character is among them
abbrev pub is_shown : Text → Bool
is_shown t = list_all (λ c. not (is_escaped c)) t

-- a line, a line of a caret behind blanks, and words
abbrev pub picture : Text → ℕ → Text → Text
picture line column words = line ++ (10 ∷ (replicate column 32 ++ (94 ∷ 10 ∷ words)))

-- such a text with these words, in whose first line no character has to be escaped
abbrev pub IsPictureWith : Text → Text → Type 0
IsPictureWith words t = (line : Text) × (column : ℕ) × (is_shown line ≡ true)
    × (t ≡ picture line column words)

-- what helps, in a line of its own in which no character has to be escaped; or nothing
abbrev pub IsHelp : Text → Type 0
IsHelp t = (t ≡ []) ⊎ ((help : Text) × (is_shown help ≡ true) × (t ≡ help ++ 10 ∷ []))

-- a line of words in which no character has to be escaped, and what helps
abbrev pub AreWords : Text → Type 0
AreWords t = (said : Text) × (help : Text) × (is_shown said ≡ true) × IsHelp help × (t ≡ said ++ (10 ∷ help))

-- the same with nothing that helps
abbrev pub AreWordsAlone : Text → Type 0
AreWordsAlone t = (said : Text) × (is_shown said ≡ true) × (t ≡ said ++ (10 ∷ []))

-- such a text, whose words are so
abbrev pub IsPictureAlone : Text → Type 0
IsPictureAlone t = (words : Text) × AreWordsAlone words × IsPictureWith words t

-- the line shows a text of at most 35 characters, in which none has to be escaped, just as it is
abbrev pub ShowsShort : Text → Text → Type 0
ShowsShort t line = is_shown t ≡ true → length t ≤ 35 → line ≡ t

-- such a text, whose words are so, and whose first line shows the query
abbrev pub IsPicture : Text → Text → Type 0
IsPicture query t = (line : Text) × (column : ℕ) × (words : Text) × ShowsShort query line
    × (is_shown line ≡ true) × AreWords words × (t ≡ picture line column words)

-- a line that says something, in which no character has to be escaped, and such a text with these words
abbrev pub IsLinePictureWith : Text → Text → Type 0
IsLinePictureWith words t = (head : Text) × (below : Text) × (is_shown head ≡ true)
    × IsPictureWith words below × (t ≡ head ++ (10 ∷ below))

-- the same with what helps in the place of words
abbrev pub IsLinePicture : Text → Type 0
IsLinePicture t = (help : Text) × IsHelp help × IsLinePictureWith help t
