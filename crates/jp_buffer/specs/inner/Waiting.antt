-- A working file, which nobody has to believe: how lines stand in the buffer, for private clauses alone.
use Rattle.std.specs.Prelude.{◌≡◌, ℕ, ◌+◌, List, [], ◌∷◌, ◌++◌, take, drop}
use Rattle.jp_doc.specs.Lines.{Line}
use Rattle.jp_buffer.specs.declared.waiting.Span.{Span}

-- the second list is the first with more behind it
abbrev pub Begins : {A : Type 0} → List A → List A → Type 0
Begins {A} old new = (more : List A) × (new ≡ old ++ more)

-- how many bytes lines have together
abbrev pub bytes_of : List Span → ℕ
bytes_of [] = 0
bytes_of (s ∷ ss) = s.len + bytes_of ss

-- the lines at the front of the bytes, each where the one before it ends
abbrev pub lines_in : List ℕ → List Span → List Line
lines_in bytes [] = []
lines_in bytes (s ∷ ss) = (s.number, take s.len bytes) ∷ lines_in (drop s.len bytes) ss
