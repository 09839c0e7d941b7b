-- A working file, which nobody has to believe: what is added behind a list, for private clauses alone.
use Rattle.std.specs.Prelude.{◌≡◌, ◌+◌, List, ◌++◌, length, map}
use Rattle.jp_doc.specs.Feeding.{Cut, Progress}
use Rattle.jp_doc.specs.Lines.{Line, line_of}
use Rattle.jp_doc.specs.declared.line.Line as code

-- the second list is the first with more behind it
abbrev pub Begins : {A : Type 0} → List A → List A → Type 0
Begins {A} old new = (more : List A) × (new ≡ old ++ more)

-- the second list of lines is the first with these behind it
abbrev pub Adds : List code.Line → List code.Line → List Line → Type 0
Adds old new lines = (more : List code.Line) × (new ≡ old ++ more) × (map line_of more ≡ lines)

-- how far lines have come once the open one has ended, and those of the bytes after it
abbrev pub after_line : Progress → Cut → Progress
after_line p after = record { count = p.count + 1 + length after.ended; open_line = after.open_line }
