-- Lines, and their fields, which tabs divide.
use Rattle.std.specs.Prelude.{◌≡◌, ℕ, ◌==◌, Bool, List, [], ◌∷◌, ◌++◌}
use Rattle.std.specs.List.{AllByRecursion, after_first, before_first, concat, count_by, flat_map}
use Rattle.jp_doc.specs.Lines.{all_lines}
use Rattle.jp_doc.specs.Location.{Node}
use Rattle.jp_doc.specs.NumbersWithin.{HasJsonNumbers}

-- how often a byte stands among these
abbrev pub times : ℕ → List ℕ → ℕ
times b bytes = count_by (λ c. c == b) bytes

-- three fields: there are two tabs, and one line feed, which is the last byte
pub record HasThreeFields (line : List ℕ) : Type 0 where
  pub tabs : times 9 line ≡ 2
  pub line_feeds : times 10 line ≡ 1
  pub ends : (front : List ℕ) × (line ≡ front ++ 10 ∷ [])

-- such lines, one after another
abbrev pub AreLinesOfThree : List ℕ → Type 0
AreLinesOfThree bytes = (ls : List (List ℕ)) × AllByRecursion HasThreeFields ls × (concat ls ≡ bytes)

-- four fields: there are three tabs, and one line feed, which is the last byte
pub record HasFourFields (line : List ℕ) : Type 0 where
  pub tabs : times 9 line ≡ 3
  pub line_feeds : times 10 line ≡ 1
  pub ends : (front : List ℕ) × (line ≡ front ++ 10 ∷ [])

-- such lines, one after another
abbrev pub AreLinesOfFour : List ℕ → Type 0
AreLinesOfFour bytes = (ls : List (List ℕ)) × AllByRecursion HasFourFields ls × (concat ls ≡ bytes)

-- a name with no tab and no line feed, so that it can be a field
abbrev pub IsFieldName : List ℕ → Type 0
IsFieldName name = (times 9 name ≡ 0) × (times 10 name ≡ 0)

-- one line: there is one line feed, which is the last byte
pub record IsOneLine (line : List ℕ) : Type 0 where
  pub line_feeds : times 10 line ≡ 1
  pub ends : (front : List ℕ) × (line ≡ front ++ 10 ∷ [])

-- what ends with this byte, which stands nowhere else in it
pub record IsEndedOnceBy (ending : ℕ) (bytes : List ℕ) : Type 0 where
  pub once : times ending bytes ≡ 1
  pub ends : (front : List ℕ) × (bytes ≡ front ++ ending ∷ [])

-- each line, with this byte in the place of its line feed
abbrev pub lines_ended_by : ℕ → List ℕ → List ℕ
lines_ended_by ending bytes = flat_map (λ line. line ++ ending ∷ []) (all_lines bytes)

abbrev pub is_tab : ℕ → Bool
is_tab b = b == 9

-- what stands between the second tab of a line and the next one, or its end
abbrev pub third_field : List ℕ → List ℕ
third_field line = before_first is_tab (after_first is_tab (after_first is_tab line))

-- the third field of each line, and a line feed: what `cut -f3` gives of lines that have one
abbrev pub third_fields : List ℕ → List ℕ
third_fields bytes = flat_map (λ line. third_field line ++ 10 ∷ []) (all_lines bytes)

-- each number in the values of nodes is one of RFC 8259 (6), as those of a document are
abbrev pub NodesHaveJsonNumbers : List Node → Type 0
NodesHaveJsonNumbers ns = AllByRecursion (λ n. HasJsonNumbers n.value) ns
