-- The bracket depth of a text: how deep brackets and parentheses are nested outside quotes.
use Rattle.std.specs.Prelude.{ℕ, ◌+◌, ◌-◌, max, Bool, ◌||◌, ◌==◌, if◌then◌else◌, List, [], ◌∷◌, map}
use Rattle.jp_tree.specs.Tree.{Text}
use Rattle.jp_tree.specs.Characters.{is_quote}

-- the greatest depth that is read, which this project sets
abbrev pub max_depth : ℕ
max_depth = 64

-- `[` or `(`
abbrev pub is_opening : ℕ → Bool
is_opening c = c == 91 || c == 40

-- `]` or `)`
abbrev pub is_closing : ℕ → Bool
is_closing c = c == 93 || c == 41

-- where a scan stands, with the count of open brackets
pub data Place : Type 0 where
  -- outside quotes
  outside : (count : ℕ) → Place
  -- in a part that this quote opened
  inside : (quote count : ℕ) → Place
  -- the same, behind a backslash
  passing : (quote count : ℕ) → Place

-- past one more character: a quote opens a quoted part, a bracket changes the count, which stays at zero
-- where nothing is open; in a quoted part a backslash passes over the next character, and the quote closes
abbrev pub step : Place → ℕ → Place
step (outside count) c =
    if is_quote c then inside c count
    else if is_opening c then outside (count + 1)
    else if is_closing c then outside (count - 1)
    else outside count
step (inside quote count) c =
    if c == 92 then passing quote count
    else if c == quote then outside count
    else inside quote count
step (passing quote count) c = inside quote count

-- past the whole text, one character after the other
abbrev pub scan : Place → Text → Place
scan place [] = place
scan place (c ∷ t) = scan (step place c) t

-- the count of open brackets there
abbrev pub count_of : Place → ℕ
count_of (outside count) = count
count_of (inside quote count) = count
count_of (passing quote count) = count

-- how many brackets are open at the end of the text
abbrev pub open_brackets : Text → ℕ
open_brackets t = count_of (scan (outside 0) t)

-- every front of the text, from the empty one to the whole
abbrev pub prefixes : Text → List Text
prefixes [] = [] ∷ []
prefixes (c ∷ t) = [] ∷ map (λ (s : Text). c ∷ s) (prefixes t)

-- the greatest, or 0 where there is none
abbrev pub greatest : List ℕ → ℕ
greatest [] = 0
greatest (n ∷ ns) = max n (greatest ns)

-- the greatest count of open brackets over all fronts of the text
abbrev pub bracket_depth : Text → ℕ
bracket_depth t = greatest (map open_brackets (prefixes t))
