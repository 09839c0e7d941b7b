-- What is read from a line, by whatever numbers, is the value of its tree, and has steps as a document has.
use Rattle.std.proofs.Common.{◌≡◌, ℕ, Bool, true, false, if◌then◌else◌, List, Option, Some, None}
use Rattle.std.proofs.Common.{Result, Ok, Err, option_map, refl, ◌∙◌, subst}
use Rattle.std.proofs.lemmas.Str.{IsUtf8-from_is_utf8}
use Rattle.std.specs.Str.{is_utf8, IsUtf8}
use Rattle.json.specs.Json as grammar
use Rattle.json.proofs.Found.{not_found, Some_inj}
use Rattle.serde_json.specs.Data.{Data}
use Rattle.serde_json.specs.Read.{read}
use Rattle.jp_doc.specs.Json.{Json}
use Rattle.jp_doc.specs.Location.{Location, value_at}
use Rattle.jp_doc.specs.Reading.{max_items, has_long_array, reading}
use Rattle.jp_number.specs.declared.numbers.Numbers.{Numbers}
use Rattle.jp_number.specs.declared.numbers.Numbers.TheVariants.{Whole, Decimals}
use Rattle.jp_doc.specs.ReadingIn.{has_long_number}
use Rattle.jp_doc.specs.ReadingIn.{document_of, tree_reading, or_else, reading_in}
use Rattle.jp_doc.specs.Tree.{tree_of, tree_json}
use Rattle.jp_doc.specs.declared.fault.DocFault.{DocFault}
use Rattle.jp_doc.specs.declared.fault.DocFault.TheVariants.{LongLine, Unreadable, NotWhole, LongNumber}
use Rattle.jp_doc.specs.declared.fault.DocFault.TheVariants.{LongArray, Memory}
use Rattle.jp_doc.proofs.LineTexts.{names_are_texts}
use Rattle.jp_doc.proofs.ReadingInLaws.{read_short}
use Rattle.jp_doc.proofs.ReadingLaws.{document_is_read}
use Rattle.jp_doc.proofs.TreeLaws.{tree_agrees}
use Rattle.jp_path.specs.PathQuery.{AreSteps}
use Rattle.jp_path.proofs.DocumentSteps.{steps_known}
use Rattle.jp_path.proofs.ScalarNames.{HasScalarNames, tree_names}

-- the line is UTF-8, and has a tree of this value
record IsOfTree (line : List ℕ) (root : Json) : Type 0 where
  utf8 : IsUtf8 line
  tree : grammar.Json
  found : tree_of line ≡ Some tree
  is : tree_json tree ≡ root

utf8_if : (b : Bool) (line : List ℕ) (d : Data) → is_utf8 line ≡ b
    → (if b then read line else None) ≡ Some d → IsUtf8 line
utf8_if true line d e h = IsUtf8-from_is_utf8 line e
utf8_if false line d e h = not_found d h

of_whole : (line : List ℕ) (root : Json) → reading line ≡ Ok root → IsOfTree line root
of_whole line root e = go (tree_of line) refl (tree_agrees line root e)
  where
    go : (o : Option grammar.Json) → tree_of line ≡ o → option_map tree_json o ≡ Some root
        → IsOfTree line root
    go None found is = not_found root is
    go (Some j) found is =
        let read_as = document_is_read line root e in
        record {
          utf8 = utf8_if (is_utf8 line) line read_as.1 refl read_as.2;
          tree = j;
          found = found;
          is = Some_inj (tree_json j) root is;
        }

tested : (other long : Bool) (line : List ℕ) (j : grammar.Json) (root : Json) → IsUtf8 line
    → tree_of line ≡ Some j
    → ◌≡◌ {A = Result Json DocFault} (if other then Err LongNumber else if long then Err LongArray
    else Ok (tree_json j)) (Ok root)
    → IsOfTree line root
tested true long line j root u found h = absurd cc
tested false true line j root u found h = absurd cc
tested false false line j root u found h = record { utf8 = u; tree = j; found = found; is = cc }

of_tree : (o : Option grammar.Json) (line : List ℕ) (root : Json) → IsUtf8 line → tree_of line ≡ o
    → document_of o ≡ Ok root → IsOfTree line root
of_tree None line root u found h = absurd cc
of_tree (Some j) line root u found h =
    tested (has_long_number j) (has_long_array max_items (tree_json j)) line j root u found h

of_tree_if : (b : Bool) (line : List ℕ) (root : Json) → is_utf8 line ≡ b
    → (if b then document_of (tree_of line) else Err Unreadable) ≡ Ok root
    → IsOfTree line root
of_tree_if true line root e h = of_tree (tree_of line) line root (IsUtf8-from_is_utf8 line e) refl h
of_tree_if false line root e h = absurd cc

of_decimals : (line : List ℕ) (root : Json) → tree_reading line ≡ Ok root → IsOfTree line root
of_decimals line root h = of_tree_if (is_utf8 line) line root refl h

of_either : (r : Result Json DocFault) (line : List ℕ) (root : Json) → reading line ≡ r
    → or_else r (tree_reading line) ≡ Ok root → IsOfTree line root
of_either (Ok v) line root e h = of_whole line root (e ∙ h)
of_either (Err LongLine) line root e h = absurd cc
of_either (Err Unreadable) line root e h = of_decimals line root h
of_either (Err NotWhole) line root e h = of_decimals line root h
of_either (Err LongNumber) line root e h = of_decimals line root h
of_either (Err LongArray) line root e h = of_decimals line root h
of_either (Err Memory) line root e h = of_decimals line root h

is_of_tree : (n : Numbers) (line : List ℕ) (root : Json) → reading_in n line ≡ Ok root → IsOfTree line root
is_of_tree Whole line root e = of_whole line root e
is_of_tree Decimals line root e = of_either (reading line) line root refl e

line_names : (n : Numbers) (line : List ℕ) (root : Json) → reading_in n line ≡ Ok root → HasScalarNames root
line_names n line root e =
    let t = is_of_tree n line root e in
    subst HasScalarNames t.is (tree_names t.tree (names_are_texts line t.tree t.utf8 t.found))

pub line_steps : (n : Numbers) (line : List ℕ) (root : Json) → reading_in n line ≡ Ok root
    → (l : Location) (v : Json) → value_at l root ≡ Some v → AreSteps l
line_steps n line root e l v h =
    steps_known l root v (line_names n line root e, read_short n line root e) h
