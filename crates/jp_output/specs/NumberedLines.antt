-- Which lines of the input an answer in output lines tells of.
use Rattle.std.specs.Prelude.{ℕ, ◌<◌, ◌^◌, Bool, List, [], ◌∷◌, ◌++◌, decimal, map}
use Rattle.std.specs.List.{before_first, filter, flat_map, list_any}
use Rattle.std.specs.Str.{bytes_eq}
use Rattle.jp_doc.specs.Lines.{Line, all_lines}
use Rattle.jp_doc.specs.Location.{Node}
use Rattle.jp_output.specs.Fields.{is_tab}
use Rattle.jp_output.specs.OutputForm.{OutputForm}

-- what a form says of several documents, each on its line and with its selected nodes, one after another
abbrev pub of_documents : OutputForm → List (Line × List Node) → List ℕ
of_documents form ds = flat_map (λ d. form.of_document d.0 d.1) ds

-- their lines
abbrev pub lines_of_documents : List (Line × List Node) → List Line
lines_of_documents ds = map (λ d. d.0) ds

-- the numbers of the lines rise, above this one, and have 64 bits
abbrev pub AreNumberedAbove : ℕ → List Line → Type 0
AreNumberedAbove n [] = Unit {0}
AreNumberedAbove n (l ∷ ls) = (n < l.0) × (l.0 < 2 ^ 64) × AreNumberedAbove l.0 ls

-- what stands before the first tab of a line, or all of it
abbrev pub first_field : List ℕ → List ℕ
first_field line = before_first is_tab line

-- the first field of each line, as `cut -f1` gives them
abbrev pub first_fields : List ℕ → List (List ℕ)
first_fields bytes = map first_field (all_lines bytes)

-- the line's number is one of the fields
abbrev pub is_numbered : List (List ℕ) → Line → Bool
is_numbered fields l = list_any (bytes_eq (decimal l.0)) fields

-- the lines whose numbers are among the fields, each once, in their order, as they came
abbrev pub lines_numbered : List (List ℕ) → List Line → List ℕ
lines_numbered fields ls = flat_map (λ l. l.1 ++ 10 ∷ []) (filter (is_numbered fields) ls)
