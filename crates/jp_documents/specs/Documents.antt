-- JSON documents that stand one behind another, over any number of lines: where each begins and ends,
-- whatever the bytes hold.
--
-- A document begins at the first byte that is no blank: no space, tab, line feed or carriage return.
-- One that begins with an opening bracket ends with the bracket that closes it: brackets of both kinds count
-- alike, and those in strings do not. One that begins with a quote ends with its string. Any other is a word,
-- and ends before the next blank, opening bracket or quote.
-- A string ends with the next quote that no backslash escapes, and at the latest with its line.
-- An opening bracket at the front of a line begins a document, whatever is open, unless an opening bracket, a
-- comma or a colon leads to it, blanks aside.
-- What is open at the end of the bytes is a document too.
use Rattle.std.specs.Prelude.{ℕ, ◌+◌, ◌-◌, Bool, ◌||◌, ◌==◌, nat_le, List, [], ◌∷◌, ◌++◌, if◌then◌else◌}
use Rattle.std.specs.List.{enumerate_from}
use Rattle.jp_doc.specs.Feeding.{Cut, last_line}
use Rattle.jp_doc.specs.Lines.{Line}
use Rattle.jp_documents.specs.declared.place.Place.{Place}
use Rattle.jp_documents.specs.declared.place.Place.TheVariants.{Between, InWord, InBrackets, InText, InEscape}
use Rattle.jp_documents.specs.declared.place.Lead.{Lead}
use Rattle.jp_documents.specs.declared.place.Lead.TheVariants.{MayBegin, Within, AtLine}
use Rattle.jp_documents.specs.declared.place.Turn.{Turn}
use Rattle.jp_documents.specs.declared.place.Turn.TheVariants.{Skipped, Taken, Last, Behind}

-- a space, a tab, a line feed or a carriage return
abbrev pub is_blank_byte : ℕ → Bool
is_blank_byte b = (b == 32) || (b == 9) || (b == 10) || (b == 13)

-- a bracket of either kind that opens, and one that closes
abbrev pub is_opening : ℕ → Bool
is_opening b = (b == 123) || (b == 91)

abbrev pub is_closing : ℕ → Bool
is_closing b = (b == 125) || (b == 93)

abbrev pub is_quote : ℕ → Bool
is_quote b = b == 34

-- a comma or a colon
abbrev pub is_separator : ℕ → Bool
is_separator b = (b == 44) || (b == 58)

-- where the byte stands that comes behind a document's first
abbrev pub place_behind_first : ℕ → Place
place_behind_first b =
    if is_opening b then InBrackets 1 MayBegin else if is_quote b then InText 0 else InWord

-- in so many brackets: a bracket that closes, a quote that ends a string, a line feed that does
abbrev pub closed : ℕ → Turn
closed depth = if nat_le depth 1 then Last else Taken (InBrackets (depth - 1) Within)

abbrev pub text_closed : ℕ → Turn
text_closed depth = if depth == 0 then Last else Taken (InBrackets depth Within)

abbrev pub line_ended : ℕ → Turn
line_ended depth = if depth == 0 then Behind else Taken (InBrackets depth AtLine)

-- in so many brackets: a bracket that opens, by what leads to it
abbrev pub opened : Lead → ℕ → Turn
opened MayBegin depth = Taken (InBrackets (depth + 1) MayBegin)
opened Within depth = Taken (InBrackets (depth + 1) MayBegin)
opened AtLine depth = Behind

-- what leads on behind a byte that is neither a bracket nor a quote
abbrev pub lead_behind : Lead → ℕ → Lead
lead_behind MayBegin b = if is_blank_byte b then MayBegin else if is_separator b then MayBegin else Within
lead_behind Within b = if b == 10 then AtLine else if is_separator b then MayBegin else Within
lead_behind AtLine b = if b == 10 then AtLine else if is_separator b then MayBegin else Within

-- what a byte does to the document that is open where it stands
abbrev pub turn : Place → ℕ → Turn
turn Between b = if is_blank_byte b then Skipped else Taken (place_behind_first b)
turn InWord b = if is_blank_byte b || (is_opening b || is_quote b) then Behind else Taken InWord
turn (InBrackets depth lead) b =
    if is_opening b then opened lead depth else if is_closing b then closed depth
    else if is_quote b then Taken (InText depth) else Taken (InBrackets depth (lead_behind lead b))
turn (InText depth) b =
    if is_quote b then text_closed depth else if b == 92 then Taken (InEscape depth)
    else if b == 10 then line_ended depth else Taken (InText depth)
turn (InEscape depth) b = if b == 10 then line_ended depth else Taken (InText depth)

-- the documents that end in some bytes, what is open behind them, and where the next byte stands
pub record CutAt : Type 0 where
  pub ended : List (List ℕ)
  pub open_document : List ℕ
  pub place : Place

-- bytes in front of what was cut
abbrev pub onto_parts : List ℕ → List (List ℕ) → List ℕ → Place → CutAt
onto_parts bytes [] rest place = record { ended = []; open_document = bytes ++ rest; place = place }
onto_parts bytes (d ∷ ds) rest place = record {
  ended = (bytes ++ d) ∷ ds;
  open_document = rest;
  place =
      place;
}

abbrev pub onto : List ℕ → CutAt → CutAt
onto bytes c = onto_parts bytes c.ended c.open_document c.place

-- a document in front of what was cut
abbrev pub behind : List ℕ → CutAt → CutAt
behind document c = record { ended = document ∷ c.ended; open_document = c.open_document; place = c.place }

-- a byte where no document is open
abbrev pub first : ℕ → (Place → CutAt) → CutAt
first b rest = if is_blank_byte b then rest Between else onto (b ∷ []) (rest (place_behind_first b))

abbrev pub by_turn : Turn → ℕ → (Place → CutAt) → CutAt
by_turn Skipped b rest = rest Between
by_turn (Taken place) b rest = onto (b ∷ []) (rest place)
by_turn Last b rest = behind (b ∷ []) (rest Between)
by_turn Behind b rest = behind [] (first b rest)

-- bytes cut, of which the first stands at this place
abbrev pub cut_at : Place → List ℕ → CutAt
cut_at place [] = record { ended = []; open_document = []; place = place }
cut_at place (b ∷ bs) = by_turn (turn place b) b (λ next. cut_at next bs)

-- bytes cut, of which the first stands in no document
abbrev pub cut_between : List ℕ → CutAt
cut_between bytes = cut_at Between bytes

-- the documents that end in the bytes, and what is open behind them
abbrev pub cut : List ℕ → Cut
cut bytes = let c = cut_between bytes in record { ended = c.ended; open_line = c.open_document }

-- the documents of the bytes: those that end there, and the one that is open at the end, if there is one
abbrev pub all_documents : List ℕ → List (List ℕ)
all_documents bytes = (cut bytes).ended ++ last_line (cut bytes).open_line

-- the documents, numbered from 1
abbrev pub documents : List ℕ → List Line
documents bytes = enumerate_from 1 (all_documents bytes)
