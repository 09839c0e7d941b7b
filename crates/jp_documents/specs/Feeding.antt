-- Documents that come in pieces. A document stands in the place of a line: how far documents have come,
-- how they
-- are numbered and what the end completes is said by the words of `jp_doc`, where the open line is the
-- bytes of
-- the document that is open.
use Rattle.std.specs.Prelude.{ℕ, ◌+◌, List, [], ◌∷◌, ◌++◌, length}
use Rattle.jp_doc.specs.Feeding.{Progress, numbered, finished, finished_lines}
use Rattle.jp_doc.specs.Lines.{Line}
use Rattle.jp_documents.specs.Documents.{cut}

-- the documents that a piece completes, and how far they have come after it
abbrev pub fed_documents : Progress → List ℕ → List Line
fed_documents p piece = numbered (p.count + 1) (cut (p.open_line ++ piece)).ended

abbrev pub fed : Progress → List ℕ → Progress
fed p piece =
    let parts = cut (p.open_line ++ piece) in
    record { count = p.count + length parts.ended; open_line = parts.open_line }

-- the documents of pieces that are fed one after another, and then the end
abbrev pub documents_of_pieces : Progress → List (List ℕ) → List Line
documents_of_pieces p [] = finished_lines p
documents_of_pieces p (piece ∷ pieces) = fed_documents p piece ++ documents_of_pieces (fed p piece) pieces

abbrev pub after_pieces : Progress → List (List ℕ) → Progress
after_pieces p [] = finished p
after_pieces p (piece ∷ pieces) = after_pieces (fed p piece) pieces
