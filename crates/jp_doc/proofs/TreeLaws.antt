-- A line that is read has a tree, which has the value that is read.
use Rattle.std.proofs.Common.{◌≡◌, ℕ, ◌≤◌, Bool, true, false, List, length, Option, Some, None, Ok, Err}
use Rattle.std.proofs.Common.{option_map}
use Rattle.std.proofs.Common.{option_and_then, refl, sym, ap, ◌∙◌, if◌then◌else◌}
use Rattle.std.proofs.lemmas.Str.{IsUtf8-from_is_utf8}
use Rattle.std.specs.Str.{IsUtf8, is_utf8}
use Rattle.json.specs.Json as grammar
use Rattle.json.proofs.Found.{not_found}
use Rattle.serde_json.specs.Data.{Data}
use Rattle.serde_json.specs.Read.{of_json, read}
use Rattle.serde_json.specs.Written.{has_float}
use Rattle.jp_doc.specs.Json.{Json, json_of}
use Rattle.jp_doc.specs.Reading.{max_line, reading}
use Rattle.jp_doc.specs.Tree.{tree_of, tree_json}
use Rattle.jp_doc.proofs.LineTexts.{names_are_texts}
use Rattle.jp_doc.specs.declared.fault.DocFault.TheVariants.{Unreadable}
use Rattle.jp_doc.proofs.ReadLaws.{reading_unread}
use Rattle.jp_doc.proofs.ReadingLaws.{document_is_read}
use Rattle.jp_doc.proofs.TreeAgrees.{same_value}

utf8_if : (t : Bool) (line : List ℕ) (d : Data) → is_utf8 line ≡ t
    → (if t then read line else None) ≡ Some d → IsUtf8 line × (read line ≡ Some d)
utf8_if true line d e h = (IsUtf8-from_is_utf8 line e, h)
utf8_if false line d e h = not_found d h

value_of : (o : Option grammar.Json) (line : List ℕ) (d : Data) → IsUtf8 line → tree_of line ≡ o
    → option_and_then of_json o ≡ Some d → has_float d ≡ false → option_map tree_json o ≡ Some (json_of d)
value_of None line d u is e h = not_found d e
value_of (Some j) line d u is e h = ap Some (same_value j d (names_are_texts line j u is) e h)

pub tree_agrees : (line : List ℕ) (v : Json) → reading line ≡ Ok v
    → option_map tree_json (tree_of line) ≡ Some v
tree_agrees line v e =
    let r = document_is_read line v e in
    let u = utf8_if (is_utf8 line) line r.1 refl r.2 in
    value_of (tree_of line) line r.1 u.0 refl u.1 r.3 ∙ ap Some (sym r.5)

pub no_tree_unread : (line : List ℕ) → length line ≤ max_line → tree_of line ≡ None
    → reading line ≡ Err Unreadable
no_tree_unread line short e = reading_unread line short (λ _. ap (option_and_then of_json) e)
