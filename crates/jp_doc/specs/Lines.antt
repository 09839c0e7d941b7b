-- The lines of a byte stream (JSON Lines).
use Rattle.std.specs.Prelude.{ℕ, Bool, not, ◌||◌, ◌==◌, List, [], ◌∷◌, length, if◌then◌else◌}
use Rattle.std.specs.List.{filter, list_all, enumerate_from}
use Rattle.jp_doc.specs.declared.line.Line as code

-- a line with its number
abbrev pub Line : Type 0
Line = ℕ × List ℕ

-- what a `Line` of `src/` stands for
abbrev pub line_of : code.Line → Line
line_of l = (l.number, l.bytes.items)

-- a byte in front of the first of these lines
abbrev pub onto_first : ℕ → List (List ℕ) → List (List ℕ)
onto_first b [] = (b ∷ []) ∷ []
onto_first b (line ∷ lines) = (b ∷ line) ∷ lines

-- The bytes cut at each line feed. What follows the last line feed is a line only if it is not empty.
abbrev pub all_lines : List ℕ → List (List ℕ)
all_lines [] = []
all_lines (b ∷ bs) = if b == 10 then [] ∷ all_lines bs else onto_first b (all_lines bs)

-- spaces, tabs and carriage returns alone, or nothing
abbrev pub is_blank : List ℕ → Bool
is_blank line = list_all (λ b. (b == 32) || (b == 9) || (b == 13)) line

-- the lines, numbered from 1, without those that are blank
abbrev pub lines : List ℕ → List Line
lines bytes = filter (λ l. not (is_blank l.1)) (enumerate_from 1 (all_lines bytes))

-- how many lines there are, blank ones too
abbrev pub line_count : List ℕ → ℕ
line_count bytes = length (all_lines bytes)
