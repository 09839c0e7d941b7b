-- A line that the JSON crate has printed for a value: a working file, which nobody has to believe.
use Rattle.std.specs.Prelude.{◌≡◌, ◌≤◌, ℕ, true, false, List, length, Some}
use Rattle.std.specs.Str.{IsUtf8}
use Rattle.json.specs.Json as text
use Rattle.jp_doc.specs.Json.{Json}
use Rattle.jp_doc.specs.Reading.{max_line, max_items, has_long_array}
use Rattle.jp_doc.specs.Tree.{tree_of, tree_json}
use Rattle.jp_flat.specs.inner.Plain.{is_plain}

pub record IsPrinted (line : List ℕ) (v : Json) : Type 0 where
  pub tree : text.Json
  pub found : tree_of line ≡ Some tree
  pub plain : is_plain tree ≡ true
  pub value : tree_json tree ≡ v
  pub short_arrays : has_long_array max_items v ≡ false
  pub utf8 : IsUtf8 line
  pub short : length line ≤ max_line
