-- What the JSON crate's answers say of the reading of a line.
use Rattle.std.proofs.Common.{◌≡◌, ◌≤◌, ℕ, Bool, true, false, List, length, Option, Some, None, Err, refl, ap}
use Rattle.std.proofs.Common.{◌∙◌, if◌then◌else◌}
use Rattle.std.proofs.lemmas.Bool.{le-ltb}
use Rattle.std.proofs.lemmas.Str.{is_utf8-from_IsUtf8, IsUtf8-from_is_utf8}
use Rattle.std.specs.Str.{is_utf8, IsUtf8}
use Rattle.serde_json.specs.Data.{Data}
use Rattle.serde_json.specs.Read.{read}
use Rattle.jp_doc.specs.Reading.{max_line, crate_reading, document_from, reading}
use Rattle.jp_doc.specs.declared.fault.DocFault.TheVariants.{LongLine, Unreadable}

short_line : (line : List ℕ) (found : Option Data) → length line ≤ max_line → crate_reading line ≡ found
    → reading line ≡ document_from found
short_line line found short e =
    ap (λ t. if t then Err LongLine else document_from (crate_reading line))
    (le-ltb max_line (length line) short) ∙ ap document_from e

unread_if : (t : Bool) (line : List ℕ) → is_utf8 line ≡ t → (IsUtf8 line → read line ≡ None)
    → (if t then read line else None) ≡ None
unread_if true line e h = h (IsUtf8-from_is_utf8 line e)
unread_if false line e h = refl

pub reading_unread : (line : List ℕ) → length line ≤ max_line → (IsUtf8 line → read line ≡ None)
    → reading line ≡ Err Unreadable
reading_unread line short h = short_line line None short (unread_if (is_utf8 line) line refl h)

pub reading_read : (line : List ℕ) (d : Data) → length line ≤ max_line → IsUtf8 line × (read line ≡ Some d)
    → reading line ≡ document_from (Some d)
reading_read line d short h =
    short_line line (Some d) short (ap (λ t. if t then read line else None) (is_utf8-from_IsUtf8 line h.0)
    ∙ h.1)
