-- A working file, which nobody has to believe: how the end of a document is found, for private clauses alone.
use Rattle.std.specs.Prelude.{◌≡◌, ℕ, ◌+◌, ◌<◌, ◌≤◌, Bool, not, ◌||◌, ◌==◌, List, [], ◌∷◌, ◌++◌, length}
use Rattle.std.specs.List.{prefix_len}
use Rattle.jp_documents.specs.Documents.{cut_at, cut_between, behind, lead_behind}
use Rattle.jp_documents.specs.declared.first.First.{First}
use Rattle.jp_documents.specs.declared.first.First.TheVariants.{Ended, Open}
use Rattle.jp_documents.specs.declared.place.Lead.{Lead}
use Rattle.jp_documents.specs.declared.place.Place.{Place}
use Rattle.jp_documents.specs.declared.place.Place.TheVariants.{Between, InWord, InBrackets, InText, InEscape}

-- the second list is the first with more behind it
abbrev pub Begins : {A : Type 0} → List A → List A → Type 0
Begins {A} old new = (more : List A) × (new ≡ old ++ more)

-- within how many brackets a place is
abbrev pub depth_of : Place → ℕ
depth_of Between = 0
depth_of InWord = 0
depth_of (InBrackets depth lead) = depth
depth_of (InText depth) = depth
depth_of (InEscape depth) = depth

-- the bytes that matter in brackets, and those in a string: over any other the document goes on
abbrev pub matters_in_brackets : ℕ → Bool
matters_in_brackets b = (b == 34) || (b == 123) || (b == 125) || (b == 91) || (b == 93)

abbrev pub matters_in_text : ℕ → Bool
matters_in_text b = (b == 34) || (b == 92) || (b == 10)

-- how many bytes do not matter before the first that does
abbrev pub run_len : (ℕ → Bool) → List ℕ → ℕ
run_len matters bytes = prefix_len (λ b. not (matters b)) bytes

-- what leads on behind bytes in brackets that do not matter
abbrev pub lead_over : Lead → List ℕ → Lead
lead_over lead [] = lead
lead_over lead (b ∷ bs) = lead_over (lead_behind lead b) bs

-- the first document that ends in the bytes, or that none does
abbrev pub IsFirst : Place → List ℕ → First → Type 0
IsFirst p bytes (Ended document after) =
    (cut_at p bytes ≡ behind document.now (cut_between after.now))
    × (length document.now + length after.now ≤ length bytes)
    × (p ≡ Between → length after.now < length bytes)
IsFirst p bytes (Open document place) =
    (cut_at p bytes ≡ record { ended = []; open_document = document.now; place = place })
    × (length document.now ≤ length bytes)
