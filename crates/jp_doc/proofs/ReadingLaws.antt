-- Laws of what a line is read as.
use Rattle.std.proofs.Common.{◌≡◌, ℕ, ◌<◌, ◌≤◌, Bool, true, false, IsTrue, arith, nat_lt, List, length}
use Rattle.std.proofs.Common.{Option, Some, None, Result, Ok, Err, refl, ◌∙◌, ap, subst, if◌then◌else◌}
use Rattle.std.proofs.lemmas.Bool.{ltb-true, lt-ltb, ltb-false, le-ltb}
use Rattle.serde_json.specs.Data as crate_data
use Rattle.serde_json.specs.Data.{Data, Items}
use Rattle.serde_json.specs.Written.{has_float, items_have_float}
use Rattle.jp_doc.specs.Json as json
use Rattle.jp_doc.specs.Json.{Json, json_of, items_of, item_list}
use Rattle.jp_doc.specs.declared.fault.DocFault.{DocFault}
use Rattle.jp_doc.specs.declared.fault.DocFault.TheVariants.{LongLine, Unreadable, NotWhole, LongNumber}
use Rattle.jp_doc.specs.declared.fault.DocFault.TheVariants.{LongArray, Memory}
use Rattle.jp_doc.specs.Reading.{max_line, max_items, has_long_array, items_have_long_array, crate_reading}
use Rattle.jp_doc.specs.Reading.{document_from, reading}

pub long_line_refused : (line : List ℕ) → max_line < length line → reading line ≡ Err LongLine
long_line_refused line h = ap (λ t. if t then Err LongLine else document_from (crate_reading line))
    (lt-ltb max_line (length line) h)

-- what each answer says of the three tests, in their order
abbrev Says : Bool → Option Data → Result Json DocFault → Type 0
Says long found (Ok v) = (long ≡ false) × (d : Data) × (found ≡ Some d) × (has_float d ≡ false)
    × (has_long_array max_items (json_of d) ≡ false) × (v ≡ json_of d)
Says long found (Err LongLine) = IsTrue long
Says long found (Err Unreadable) = (long ≡ false) × (found ≡ None)
Says long found (Err NotWhole) = (long ≡ false) × (d : Data) × (found ≡ Some d) × IsTrue (has_float d)
Says long found (Err LongArray) = (long ≡ false) × (d : Data) × (found ≡ Some d) × (has_float d ≡ false)
    × IsTrue (has_long_array max_items (json_of d))
Says long found (Err LongNumber) = ⊥
Says long found (Err Memory) = ⊥

says_of : (float array : Bool) (d : Data) → has_float d ≡ float → has_long_array max_items (json_of d) ≡ array
    → Says false (Some d) (if float then Err NotWhole else if array then Err LongArray else Ok (json_of d))
says_of true array d f a = (refl, d, refl, f)
says_of false true d f a = (refl, d, refl, f, a)
says_of false false d f a = (refl, d, refl, f, a, refl)

says_from : (found : Option Data) → Says false found (document_from found)
says_from None = (refl, refl)
says_from (Some d) = says_of (has_float d) (has_long_array max_items (json_of d)) d refl refl

says_if : (long : Bool) (found : Option Data)
    → Says long found (if long then Err LongLine else document_from found)
says_if true found = refl
says_if false found = says_from found

says : (line : List ℕ) → Says (nat_lt max_line (length line)) (crate_reading line) (reading line)
says line = says_if (nat_lt max_line (length line)) (crate_reading line)

says_at : (line : List ℕ) (r : Result Json DocFault) → reading line ≡ r
    → Says (nat_lt max_line (length line)) (crate_reading line) r
says_at line r e = subst (Says (nat_lt max_line (length line)) (crate_reading line)) e (says line)

short : (line : List ℕ) → nat_lt max_line (length line) ≡ false → length line ≤ max_line
short line h = ltb-false max_line (length line) h

pub long_line_is_long : (line : List ℕ) → reading line ≡ Err LongLine → max_line < length line
long_line_is_long line e = ltb-true max_line (length line) (says_at line (Err LongLine) e)

pub unreadable_is_unread : (line : List ℕ) → reading line ≡ Err Unreadable → (length line ≤ max_line)
    × (crate_reading line ≡ None)
unreadable_is_unread line e = let s = says_at line (Err Unreadable) e in (short line s.0, s.1)

pub not_whole_has_float : (line : List ℕ) → reading line ≡ Err NotWhole → (length line ≤ max_line)
    × (d : Data) × (crate_reading line ≡ Some d) × IsTrue (has_float d)
not_whole_has_float line e = let s = says_at line (Err NotWhole) e in (short line s.0, s.1, s.2, s.3)

pub long_array_is_long : (line : List ℕ) → reading line ≡ Err LongArray
    → (length line ≤ max_line) × (d : Data) × (crate_reading line ≡ Some d) × (has_float d ≡ false)
    × IsTrue (has_long_array max_items (json_of d))
long_array_is_long line e = let s = says_at line (Err LongArray) e in (short line s.0, s.1, s.2, s.3, s.4)

pub document_is_read : (line : List ℕ) (v : Json) → reading line ≡ Ok v
    → (length line ≤ max_line) × (d : Data) × (crate_reading line ≡ Some d) × (has_float d ≡ false)
    × (has_long_array max_items v ≡ false) × (v ≡ json_of d)
document_is_read line v e = let s =
    says_at line (Ok v) e in (short line s.0, s.1, s.2, s.3, ap (has_long_array max_items) s.5 ∙ s.4, s.5)

pub no_long_number : (line : List ℕ) → ¬ (reading line ≡ Err LongNumber)
no_long_number line e = says_at line (Err LongNumber) e

pub no_memory_fault : (line : List ℕ) → ¬ (reading line ≡ Err Memory)
no_memory_fault line e = says_at line (Err Memory) e

-- at the limits themselves

pub line_at_the_limit : (line : List ℕ) → length line ≡ 268435456 → ¬ (reading line ≡ Err LongLine)
line_at_the_limit line h e = let above = long_line_is_long line e in absurd (omega arith)

pub line_above_the_limit : (line : List ℕ) → length line ≡ 268435457 → reading line ≡ Err LongLine
line_above_the_limit line h = long_line_refused line (omega arith)

pub array_at_the_limit : (ds : Items) → items_have_float ds ≡ false
    → items_have_long_array 16777216 (items_of ds) ≡ false
    → length (item_list (items_of ds)) ≡ 16777216 → document_from (Some (crate_data.array ds))
    ≡ Ok (json.array (items_of ds))
array_at_the_limit ds whole short h =
    let here : nat_lt max_items (length (item_list (items_of ds))) ≡ false =
    le-ltb max_items (length (item_list (items_of ds))) (omega arith) in
    rw (whole, here, short) refl

pub array_above_the_limit : (ds : Items) → items_have_float ds ≡ false → length (item_list (items_of ds))
    ≡ 16777217
    → document_from (Some (crate_data.array ds)) ≡ Err LongArray
array_above_the_limit ds whole h =
    let here : nat_lt max_items (length (item_list (items_of ds))) ≡ true =
    lt-ltb max_items (length (item_list (items_of ds))) (omega arith) in
    rw (whole, here) refl
