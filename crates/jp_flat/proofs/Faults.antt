-- What a pass over the tokens of a line tells of its reading by the grammar alone: its value or its fault.
use Rattle.std.proofs.Common.{◌≡◌, ℕ, Bool, true, false, not, ◌&&◌, ◌||◌, List, [], ◌++◌}
use Rattle.std.proofs.Common.{Option, Some, None, Result, Err, refl, sym, ap, ◌∙◌, if◌then◌else◌}
use Rattle.std.proofs.Common.{append_assoc, append-nil}
use Rattle.std.proofs.lemmas.Str.{is_utf8-from_IsUtf8}
use Rattle.std.specs.Str.{IsUtf8}
use Rattle.json.specs.Token.{Token}
use Rattle.json.specs.Lex.{tokens}
use Rattle.json.specs.Json as text
use Rattle.json.specs.Tree.{json_tokens, items_tokens, members_tokens, HasNumbers, ItemsHaveNumbers}
use Rattle.json.specs.Tree.{MembersHaveNumbers}
use Rattle.json.proofs.Unique.Spelling.{tokens-document}
use Rattle.jp_doc.specs.Json.{Json}
use Rattle.jp_doc.specs.Reading.{unless_long}
use Rattle.jp_doc.specs.ReadingIn.{has_long_number, items_have_long_number, members_have_long_number}
use Rattle.jp_doc.specs.ReadingIn.{document_of, tree_reading}
use Rattle.jp_doc.specs.Tree.{tree_of, text_number, tree_json}
use Rattle.jp_doc.specs.declared.fault.DocFault.{DocFault}
use Rattle.jp_doc.specs.declared.fault.DocFault.TheVariants.{Unreadable, LongNumber}
use Rattle.jp_doc.proofs.TreeNesting.{no_tree, tree_has_numbers}
use Rattle.jp_flat.specs.inner.Nesting.{nests_from}
use Rattle.jp_flat.specs.inner.Rows.{are_short, pass_answer}
use Rattle.jp_flat.proofs.Nesting.{tree_is}
use Rattle.jp_number.specs.Number.{is_short}

-- ---- the numbers of a tree, by its tokens

twice : (b : Bool) → b ≡ not (not b)
twice true = refl
twice false = refl

neither : (a b x : Bool) → (not a && (not b && x)) ≡ (not (a || b) && x)
neither true b x = refl
neither false b x = refl

mutual
  rows : (j : text.Json) (r : List Token) → HasNumbers j
      → are_short (json_tokens j ++ r) ≡ (not (has_long_number j) && are_short r)
  rows text.null r h = refl
  rows (text.boolean b) r h = refl
  rows (text.number s) r h = ap (λ b. b && are_short r) (twice (is_short (text_number s)))
  rows (text.string s) r h = refl
  rows (text.array js) r h = item_rows js r h
  rows (text.object ms) r h = member_rows ms r h

  item_rows : (js : text.Items) (r : List Token) → ItemsHaveNumbers js
      → are_short (items_tokens js ++ r) ≡ (not (items_have_long_number js) && are_short r)
  item_rows text.no_items r h = refl
  item_rows (text.item j js) r h =
      ap are_short (append_assoc (json_tokens j) (items_tokens js) r) ∙ rows j (items_tokens js ++ r) h.0
      ∙ ap (λ b. not (has_long_number j) && b) (item_rows js r h.1)
      ∙ neither (has_long_number j) (items_have_long_number js) (are_short r)

  member_rows : (ms : text.Members) (r : List Token) → MembersHaveNumbers ms
      → are_short (members_tokens ms ++ r) ≡ (not (members_have_long_number ms) && are_short r)
  member_rows text.no_members r h = refl
  member_rows (text.member k j ms) r h =
      ap are_short (append_assoc (json_tokens j) (members_tokens ms) r) ∙ rows j (members_tokens ms ++ r) h.0
      ∙ ap (λ b. not (has_long_number j) && b) (member_rows ms r h.1)
      ∙ neither (has_long_number j) (members_have_long_number ms) (are_short r)

pub all_rows : (line : List ℕ) (j : text.Json) → text.document line ≡ Some j → HasNumbers j
    → are_short (tokens line) ≡ (not (has_long_number j) && true)
all_rows line j e h =
    ap are_short (tokens-document line j e ∙ sym (append-nil (json_tokens j))) ∙ rows j [] h

-- ---- the answer

by_tree : (line : List ℕ) (o : Option text.Json) → IsUtf8 line → tree_of line ≡ o
    → tree_reading line ≡ document_of o
by_tree line o u e =
    ap (λ b. if b then document_of (tree_of line) else Err Unreadable) (is_utf8-from_IsUtf8 line u)
    ∙ ap document_of e

turned : (other : Bool) (x y : Result Json DocFault)
    → (if other then x else y) ≡ (if (not other && true) then y else x)
turned true x y = refl
turned false x y = refl

answer_if : (nests : Bool) (line : List ℕ) (j : text.Json) → IsUtf8 line → text.document line ≡ Some j
    → nests_from 0 (tokens line) ≡ nests
    → tree_reading line ≡ (if nests then (if are_short (tokens line) then unless_long (tree_json j)
    else Err LongNumber) else Err Unreadable)
answer_if true line j u e is =
    let found : tree_of line ≡ Some j =
    tree_is line ∙ ap (λ b. if b then text.document line else None) is ∙ e in
    by_tree line (Some j) u found
    ∙ turned (has_long_number j) (Err LongNumber) (unless_long (tree_json j))
    ∙ ap (λ b. if b then unless_long (tree_json j) else Err LongNumber)
    (sym (all_rows line j e (tree_has_numbers line j found)))
answer_if false line j u e is =
    by_tree line None u (tree_is line ∙ ap (λ b. if b then text.document line else None) is)

-- of a line that the kit reads
pub answer_is : (line : List ℕ) (j : text.Json) → IsUtf8 line → text.document line ≡ Some j
    → tree_reading line ≡ pass_answer (tokens line) j
answer_is line j u e = answer_if (nests_from 0 (tokens line)) line j u e refl

-- of one that it does not read
pub none_is : (line : List ℕ) → IsUtf8 line → text.document line ≡ None → tree_reading line ≡ Err Unreadable
none_is line u e = by_tree line None u (no_tree line e)
