-- Lines that come in pieces.
use Rattle.std.specs.Prelude.{ℕ, ◌+◌, Bool, false, not, ◌||◌, ◌==◌, List, [], ◌∷◌, ◌++◌, length}
use Rattle.std.specs.Prelude.{if◌then◌else◌}
use Rattle.std.specs.List.{filter, enumerate_from}
use Rattle.jp_doc.specs.Lines.{Line, is_blank}

-- the lines that end in the bytes, each at a line feed, and what follows the last line feed
pub record Cut : Type 0 where
  pub ended : List (List ℕ)
  pub open_line : List ℕ

-- a byte in front of what was cut
abbrev pub onto_cut : ℕ → List (List ℕ) → List ℕ → Cut
onto_cut b [] rest = record { ended = []; open_line = b ∷ rest }
onto_cut b (line ∷ lines) rest = record { ended = (b ∷ line) ∷ lines; open_line = rest }

-- bytes cut at each line feed
abbrev pub cut : List ℕ → Cut
cut [] = record { ended = []; open_line = [] }
cut (b ∷ bs) =
    if b == 10 then record { ended = [] ∷ (cut bs).ended; open_line = (cut bs).open_line }
    else onto_cut b (cut bs).ended (cut bs).open_line

-- some byte is a line feed
abbrev pub has_line_feed : List ℕ → Bool
has_line_feed [] = false
has_line_feed (b ∷ bs) = (b == 10) || has_line_feed bs

-- lines numbered on from this number, without those that are blank
abbrev pub numbered : ℕ → List (List ℕ) → List Line
numbered n lines = filter (λ l. not (is_blank l.1)) (enumerate_from n lines)

-- how far lines have come: how many have ended, blank ones too, and the bytes of the next
pub record Progress : Type 0 where
  pub count : ℕ
  pub open_line : List ℕ

-- how many lines may have ended before a piece or the end comes: far fewer than 64 bits can count, so that no
-- piece has as many as would make the count wrap
abbrev pub max_lines : ℕ
max_lines = 4294967295

-- before the first piece
abbrev pub nothing_fed : Progress
nothing_fed = record { count = 0; open_line = [] }

-- the lines that a piece completes, and how far they have come after it
abbrev pub fed_lines : Progress → List ℕ → List Line
fed_lines p piece = numbered (p.count + 1) (cut (p.open_line ++ piece)).ended

abbrev pub fed : Progress → List ℕ → Progress
fed p piece =
    let parts = cut (p.open_line ++ piece) in
    record { count = p.count + length parts.ended; open_line = parts.open_line }

-- the last line, if it has any bytes
abbrev pub last_line : List ℕ → List (List ℕ)
last_line [] = []
last_line (b ∷ bs) = (b ∷ bs) ∷ []

-- the line that the end completes, and how far lines have come after it
abbrev pub finished_lines : Progress → List Line
finished_lines p = numbered (p.count + 1) (last_line p.open_line)

abbrev pub finished : Progress → Progress
finished p = record { count = p.count + length (last_line p.open_line); open_line = [] }

-- the lines of pieces that are fed one after another, and then the end
abbrev pub lines_of_pieces : Progress → List (List ℕ) → List Line
lines_of_pieces p [] = finished_lines p
lines_of_pieces p (piece ∷ pieces) = fed_lines p piece ++ lines_of_pieces (fed p piece) pieces

abbrev pub after_pieces : Progress → List (List ℕ) → Progress
after_pieces p [] = finished p
after_pieces p (piece ∷ pieces) = after_pieces (fed p piece) pieces
