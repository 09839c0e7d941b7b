-- Which texts a pattern matches.
use Rattle.std.specs.Prelude.{◌≡◌, ℕ, ◌≤◌, ◌⊎◌, List, [], ◌∷◌, ◌++◌, length, Option, Some, None, IsTrue, ⊤}
use Rattle.std.specs.List.{concat, AllByRecursion}
use Rattle.jp_pattern.specs.Pattern.{Text, Pattern, empty, letter, group, seq, either, repeat, plus}
use Rattle.jp_pattern.specs.CharSets.{in_set}
use Rattle.jp_pattern.specs.Profile.{IsPatternOf}

-- no more than the most, if there is a most (RFC 9485, 4)
abbrev pub AtMost : Option ℕ → ℕ → Type 0
AtMost None n = ⊤
AtMost (Some most) n = n ≤ most

-- one text and then another (RFC 9485, 4)
abbrev pub Then : (Text → Type 0) → (Text → Type 0) → Text → Type 0
Then First Second t = (u : Text) × (v : Text) × (t ≡ u ++ v) × First u × Second v

-- some list of parts, whose count is in the bounds and which joins to the text (RFC 9485, 4)
abbrev pub Repeated : (Text → Type 0) → ℕ → Option ℕ → Text → Type 0
Repeated Part least most t =
    (parts : List Text) × AllByRecursion Part parts × (least ≤ length parts) ×
    AtMost most (length parts) × (t ≡ concat parts)

-- the text is in the pattern's language (RFC 9485, 4)
abbrev pub Member : Pattern → Text → Type 0
Member empty t = t ≡ []
Member (letter set) t = (c : ℕ) × (t ≡ c ∷ []) × IsTrue (in_set set c)
Member (group p) t = Member p t
Member (seq p q) t = Then (Member p) (Member q) t
Member (either p q) t = Member p t ⊎ Member q t
Member (repeat least most p) t = Repeated (Member p) least most t
Member (plus p) t = Repeated (Member p) 1 None t

-- some part of consecutive characters of the text is in the pattern's language (RFC 9535, 2.4.7)
abbrev pub HasPart : Pattern → Text → Type 0
HasPart p text = (before : Text) × (part : Text) × (after : Text) × (text ≡ before ++ (part ++ after)) ×
    Member p part

-- the whole text is in the language of the I-Regexp that the second text is; with a text that is none,
-- nothing matches (RFC 9535, 2.4.6)
abbrev pub Matches : (text pattern_text : Text) → Type 0
Matches text pattern_text = (p : Pattern) × IsPatternOf pattern_text p × Member p text

-- some part of consecutive characters of the text matches (RFC 9535, 2.4.7)
abbrev pub Found : (text pattern_text : Text) → Type 0
Found text pattern_text =
    (before : Text) × (part : Text) × (after : Text) × (text ≡ before ++ (part ++ after)) ×
    Matches part pattern_text
