-- Laws of what a line is read as, by the numbers that a document may have.
use Rattle.std.proofs.Common.{◌≡◌, ℕ, ◌<◌, ◌≤◌, Bool, true, false, List, length, Option, Some, None, Result}
use Rattle.std.proofs.Common.{Ok, Err, option_map, refl, sym, ap, ◌∙◌, subst, arith, if◌then◌else◌}
use Rattle.std.proofs.Common.{nat_lt, lt-ltb}
use Rattle.std.specs.Str.{is_utf8}
use Rattle.json.specs.Json as grammar
use Rattle.json.proofs.Found.{not_found, Some_inj}
use Rattle.serde_json.specs.Data.{Data}
use Rattle.serde_json.specs.Read.{read}
use Rattle.jp_doc.specs.Height.{height}
use Rattle.jp_doc.specs.Json.{Json, item_list}
use Rattle.jp_doc.specs.NumbersWithin.{AllNumbers, HasJsonNumbers}
use Rattle.jp_doc.specs.Reading.{max_line, max_items, has_long_array, unless_long, reading}
use Rattle.jp_number.specs.declared.numbers.Numbers.{Numbers}
use Rattle.jp_number.specs.declared.numbers.Numbers.TheVariants.{Whole, Decimals}
use Rattle.jp_doc.specs.ReadingIn.{has_long_number, items_have_long_number}
use Rattle.jp_doc.specs.ReadingIn.{document_of, tree_reading, or_else, reading_in}
use Rattle.jp_doc.specs.Rising.{IsRising}
use Rattle.jp_doc.specs.Tree.{tree_of, tree_json, tree_items}
use Rattle.jp_doc.specs.declared.fault.DocFault.{DocFault}
use Rattle.jp_doc.specs.declared.fault.DocFault.TheVariants.{LongLine, Unreadable, NotWhole, LongNumber}
use Rattle.jp_doc.specs.declared.fault.DocFault.TheVariants.{LongArray, Memory}
use Rattle.jp_doc.proofs.NumberLaws.{json_numbers, whole_numbers_are_short, reading_is_whole, line_numbers}
use Rattle.jp_doc.proofs.NumberLaws.{tree_numbers_are_short}
use Rattle.jp_doc.proofs.ReadingLaws.{document_is_read, long_line_is_long}
use Rattle.jp_doc.proofs.TreeFacts.{tree_rises, tree_height}
use Rattle.jp_doc.proofs.TreeLaws.{tree_agrees}
use Rattle.jp_doc.proofs.TreeNesting.{spelled_tree}
use Rattle.jp_number.specs.Number.{IsShort}

-- ---- with decimals nothing that is read changes

pub same_reading : (n : Numbers) (line : List ℕ) (v : Json) → reading line ≡ Ok v → reading_in n line ≡ Ok v
same_reading Whole line v e = e
same_reading Decimals line v e = ap (λ r. or_else r (tree_reading line)) e

pub same_long_line : (n : Numbers) (line : List ℕ) → reading line ≡ Err LongLine
    → reading_in n line ≡ Err LongLine
same_long_line Whole line e = e
same_long_line Decimals line e = ap (λ r. or_else r (tree_reading line)) e

-- ---- what the tree tells

-- a value by the grammar alone is that of the line's tree, whose numbers are short, and its arrays
record IsOfTree (line : List ℕ) (v : Json) : Type 0 where
  tree : grammar.Json
  found : tree_of line ≡ Some tree
  short_numbers : has_long_number tree ≡ false
  short : has_long_array max_items v ≡ false
  value : tree_json tree ≡ v

tested : (other long : Bool) (line : List ℕ) (j : grammar.Json) (v : Json) → tree_of line ≡ Some j
    → has_long_number j ≡ other → has_long_array max_items (tree_json j) ≡ long
    → ◌≡◌ {A = Result Json DocFault} (if other then Err LongNumber else if long then Err LongArray
    else Ok (tree_json j)) (Ok v)
    → IsOfTree line v
tested true long line j v is none e h = absurd (cc)
tested false true line j v is none e h = absurd (cc)
tested false false line j v is none e h =
    let same : tree_json j ≡ v = cc in
    record {
      tree = j;
      found = is;
      short_numbers = none;
      short = ap (has_long_array max_items) (sym same) ∙ e;
      value = same;
    }

from_tree : (o : Option grammar.Json) (line : List ℕ) (v : Json) → tree_of line ≡ o
    → document_of o ≡ Ok v → IsOfTree line v
from_tree None line v is h = absurd (cc)
from_tree (Some j) line v is h = tested (has_long_number j) _ line j v is refl refl h

of_tree_if : (b : Bool) (line : List ℕ) (v : Json)
    → (if b then document_of (tree_of line) else Err Unreadable) ≡ Ok v
    → IsOfTree line v
of_tree_if true line v h = from_tree (tree_of line) line v refl h
of_tree_if false line v h = absurd (cc)

of_tree : (line : List ℕ) (v : Json) → tree_reading line ≡ Ok v → IsOfTree line v
of_tree line v h = of_tree_if (is_utf8 line) line v h

-- ---- the tests of an array, in their order

pub long_list : (js : grammar.Items) → items_have_long_number js ≡ false
    → max_items < length (item_list (tree_items js)) → document_of (Some (grammar.array js)) ≡ Err LongArray
long_list js short long =
    let here : nat_lt max_items (length (item_list (tree_items js))) ≡ true = lt-ltb max_items _ long in
    rw (short, here) refl

pub number_in_a_list : (js : grammar.Items) → items_have_long_number js ≡ true
    → document_of (Some (grammar.array js)) ≡ Err LongNumber
number_in_a_list js long = rw long refl

too_long : (line : List ℕ) (P : Type 0) → length line ≤ max_line → reading line ≡ Err LongLine → P
too_long line P short e = let long = long_line_is_long line e in absurd (omega (arith, long))

-- of a line that is not too long the tree alone tells, where it has a value, or where `reading` has none
pub value_by_tree : (line : List ℕ) (v : Json) → length line ≤ max_line → tree_reading line ≡ Ok v
    → reading_in Decimals line ≡ Ok v
value_by_tree line v short h = go (reading line) refl
  where
    go : (r : Result Json DocFault) → reading line ≡ r → or_else r (tree_reading line) ≡ Ok v
    go (Ok w) e =
        let t = of_tree line v h in
        let same = Some_inj _ _ (sym (ap (option_map tree_json) t.found) ∙ tree_agrees line w e) in
        ap Ok (sym same ∙ t.value)
    go (Err LongLine) e = too_long line _ short e
    go (Err Unreadable) e = h
    go (Err NotWhole) e = h
    go (Err LongNumber) e = h
    go (Err LongArray) e = h
    go (Err Memory) e = h

pub fault_by_tree : (line : List ℕ) (f : DocFault) → length line ≤ max_line → reading line ≡ Err f
    → reading_in Decimals line ≡ tree_reading line
fault_by_tree line LongLine short e = too_long line _ short e
fault_by_tree line Unreadable short e = ap (λ r. or_else r (tree_reading line)) e
fault_by_tree line NotWhole short e = ap (λ r. or_else r (tree_reading line)) e
fault_by_tree line LongNumber short e = ap (λ r. or_else r (tree_reading line)) e
fault_by_tree line LongArray short e = ap (λ r. or_else r (tree_reading line)) e
fault_by_tree line Memory short e = ap (λ r. or_else r (tree_reading line)) e

-- and it tells the rest too, but for numbers over the limits
same_by_tree : (b : Bool) (line : List ℕ) (j : grammar.Json) (v : Json) → has_long_number j ≡ b
    → tree_json j ≡ v → has_long_array max_items v ≡ false
    → (document_of (Some j) ≡ Err LongNumber → ⊥) → document_of (Some j) ≡ Ok v
same_by_tree true line j v long same short other = absurd (other (rw long refl))
same_by_tree false line j v long same short other =
    ap (λ b. if b then Err LongNumber else unless_long (tree_json j)) long ∙ ap unless_long same
    ∙ rw short refl

utf8_if : (b : Bool) (line : List ℕ) (d : Data) → is_utf8 line ≡ b
    → (if b then read line else None) ≡ Some d → is_utf8 line ≡ true
utf8_if true line d e h = e
utf8_if false line d e h = not_found d h

value_decided : (line : List ℕ) (o : Option grammar.Json) (v : Json) → tree_of line ≡ o
    → option_map tree_json o ≡ Some v → is_utf8 line ≡ true → has_long_array max_items v ≡ false
    → (tree_reading line ≡ Err LongNumber → ⊥) → tree_reading line ≡ Ok v
value_decided line None v is h utf8 short other = not_found v h
value_decided line (Some j) v is h utf8 short other =
    let by : tree_reading line ≡ document_of (Some j) =
    ap (λ b. if b then document_of (tree_of line) else Err Unreadable) utf8 ∙ ap document_of is in
    by ∙ same_by_tree (has_long_number j) line j v refl (Some_inj (tree_json j) v h) short
    (λ e. other (by ∙ e))

pub decided_by_tree : (line : List ℕ) → length line ≤ max_line
    → (tree_reading line ≡ Err LongNumber → ⊥) → reading_in Decimals line ≡ tree_reading line
decided_by_tree line short other = go (reading line) refl
  where
    go : (r : Result Json DocFault) → reading line ≡ r → reading_in Decimals line ≡ tree_reading line
    go (Ok v) e =
        let read_as = document_is_read line v e in
        same_reading Decimals line v e
        ∙ sym (value_decided line (tree_of line) v refl (tree_agrees line v e)
        (utf8_if (is_utf8 line) line read_as.1 refl read_as.2) read_as.4 other)
    go (Err f) e = fault_by_tree line f short e

-- ---- what is true of every value that is read

record IsRead (v : Json) : Type 0 where
  rises : IsRising v
  nests : height v ≤ 127
  short : has_long_array max_items v ≡ false
  numbers : HasJsonNumbers v
  short_numbers : AllNumbers IsShort v

of_whole : (line : List ℕ) (v : Json) → reading line ≡ Ok v → IsRead v
of_whole line v e = go (tree_of line) refl (tree_agrees line v e)
  where
    go : (o : Option grammar.Json) → tree_of line ≡ o → option_map tree_json o ≡ Some v → IsRead v
    go None is h = not_found v h
    go (Some j) is h =
        let same : tree_json j ≡ v = Some_inj (tree_json j) v h in
        let nests = (spelled_tree line j is).1 in
        let height_is : height (tree_json j) ≡ height v = ap height same in
        record {
          rises = subst IsRising same (tree_rises j);
          nests = omega (arith, tree_height j, nests, height_is);
          short = (document_is_read line v e).4;
          numbers = json_numbers v (reading_is_whole line v e);
          short_numbers = whole_numbers_are_short v (reading_is_whole line v e);
        }

of_decimals : (line : List ℕ) (v : Json) → tree_reading line ≡ Ok v → IsRead v
of_decimals line v h =
    let t = of_tree line v h in
    let spelled = spelled_tree line t.tree t.found in
    let height_is : height (tree_json t.tree) ≡ height v = ap height t.value in
    record {
      rises = subst IsRising t.value (tree_rises t.tree);
      nests = omega (arith, tree_height t.tree, spelled.1, height_is);
      short = t.short;
      numbers = subst HasJsonNumbers t.value (line_numbers line t.tree t.found);
      short_numbers = subst (AllNumbers IsShort) t.value (tree_numbers_are_short t.tree t.short_numbers);
    }

of_either : (line : List ℕ) (r : Result Json DocFault) (v : Json) → reading line ≡ r
    → or_else r (tree_reading line) ≡ Ok v → IsRead v
of_either line (Ok w) v e h = of_whole line v (e ∙ h)
of_either line (Err LongLine) v e h = absurd (cc)
of_either line (Err Unreadable) v e h = of_decimals line v h
of_either line (Err NotWhole) v e h = of_decimals line v h
of_either line (Err LongNumber) v e h = of_decimals line v h
of_either line (Err LongArray) v e h = of_decimals line v h
of_either line (Err Memory) v e h = of_decimals line v h

is_read : (n : Numbers) (line : List ℕ) (v : Json) → reading_in n line ≡ Ok v → IsRead v
is_read Whole line v h = of_whole line v h
is_read Decimals line v h = of_either line (reading line) v refl h

pub read_rises : (n : Numbers) (line : List ℕ) (v : Json) → reading_in n line ≡ Ok v → IsRising v
read_rises n line v h = (is_read n line v h).rises

pub read_nests : (n : Numbers) (line : List ℕ) (v : Json) → reading_in n line ≡ Ok v → height v ≤ 127
read_nests n line v h = (is_read n line v h).nests

pub read_short : (n : Numbers) (line : List ℕ) (v : Json) → reading_in n line ≡ Ok v
    → has_long_array max_items v ≡ false
read_short n line v h = (is_read n line v h).short

pub read_numbers : (n : Numbers) (line : List ℕ) (v : Json) → reading_in n line ≡ Ok v → HasJsonNumbers v
read_numbers n line v h = (is_read n line v h).numbers

pub read_short_numbers : (n : Numbers) (line : List ℕ) (v : Json) → reading_in n line ≡ Ok v
    → AllNumbers IsShort v
read_short_numbers n line v h = (is_read n line v h).short_numbers
