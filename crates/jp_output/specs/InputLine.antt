-- Lines of the input, as they came.
use Rattle.std.specs.Prelude.{ℕ, Bool, true, List, [], ◌∷◌, ◌++◌, if◌then◌else◌}
use Rattle.jp_doc.specs.Location.{Node}

-- the line and a line feed, once, where at least one node is selected
abbrev pub input_line : List ℕ → List Node → List ℕ
input_line line [] = []
input_line line (n ∷ ns) = line ++ 10 ∷ []

-- Whether a node of the line is selected, and the lines before it: what a further node of it does to them.
abbrev pub put_selected : Bool × List ℕ → Node → Bool × List ℕ
put_selected lines n = (true, lines.1)

-- all lines once this one has ended
abbrev pub end_line : Bool × List ℕ → List ℕ → List ℕ
end_line lines line = if lines.0 then lines.1 ++ (line ++ 10 ∷ []) else lines.1
