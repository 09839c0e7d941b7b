-- Streams that are cut between lines, and answered block by block.
use Rattle.std.specs.Prelude.{◌≡◌, ⊤, ℕ, ◌+◌, ◌⊎◌, List, [], ◌∷◌, ◌++◌, replicate}
use Rattle.jp_doc.specs.Lines.{line_count}
use Rattle.jp_answer.specs.Answer.{Answer, nothing, joined}

-- nothing, or bytes whose last is a line feed
abbrev pub AreWholeLines : List ℕ → Type 0
AreWholeLines bytes = (bytes ≡ []) ⊎ ((front : List ℕ) × (bytes ≡ front ++ 10 ∷ []))

-- so many line feeds, which are as many blank lines
abbrev pub line_feeds : ℕ → List ℕ
line_feeds n = replicate n 10

-- each block but the last is whole lines
abbrev pub AreBlocks : List (List ℕ) → Type 0
AreBlocks [] = ⊤
AreBlocks (b ∷ []) = ⊤
AreBlocks (b ∷ c ∷ bs) = AreWholeLines b × AreBlocks (c ∷ bs)

-- each block behind as many line feeds as there are lines before it, where this many come before the first
abbrev pub placed_blocks : ℕ → List (List ℕ) → List (List ℕ)
placed_blocks n [] = []
placed_blocks n (b ∷ bs) = (line_feeds n ++ b) ∷ placed_blocks (n + line_count b) bs

-- answers, one after another
abbrev pub in_turn : List Answer → Answer
in_turn [] = nothing
in_turn (a ∷ later) = joined a (in_turn later)
