-- What a pass over the nodes of a line tells of its faults, where numbers have to be whole.
use Rattle.std.proofs.Common.{◌≡◌, ◌≢◌, ℕ, ◌<◌, ◌≤◌, Bool, true, false, ◌&&◌, ◌||◌, ◌==◌, List, [], ◌++◌}
use Rattle.std.proofs.Common.{length, Option, Some, None, option_map, option_and_then, is_some, IsSome}
use Rattle.std.proofs.Common.{Result, Err}
use Rattle.std.proofs.Common.{refl, sym, ap, ◌∙◌, subst, arith, if◌then◌else◌, append_assoc, append-nil, drop}
use Rattle.std.proofs.Common.{lt-ltb, le-ltb}
use Rattle.std.proofs.lemmas.Str.{is_utf8-from_IsUtf8, IsUtf8-from_is_utf8}
use Rattle.std.specs.Float.{binary64, float_is_finite}
use Rattle.std.specs.Prelude.{slice_index}
use Rattle.std.specs.Str.{IsUtf8, is_utf8}
use Rattle.fast_float.specs.Text.{Parts, scan, nearest}
use Rattle.json.specs.Json as text
use Rattle.json.specs.Lex.{tokens}
use Rattle.json.specs.Print.{IsNumber}
use Rattle.json.proofs.Found.{Some_inj}
use Rattle.json.specs.Token.{Token}
use Rattle.json.specs.Tree.{json_tokens, items_tokens, members_tokens, HasNumbers, ItemsHaveNumbers}
use Rattle.json.specs.Tree.{MembersHaveNumbers}
use Rattle.json.specs.declared.error.Error as tape
use Rattle.json.specs.declared.error.Error.TheVariants.{Invalid, OutOfMemory, TooLong, DuplicateKey}
use Rattle.serde_json.specs.Data.{Num, Data, Items, Members, item, put, number, array}
use Rattle.serde_json.specs.Data.{object, no_members}
use Rattle.serde_json.specs.Read.{number_of, number_from, float_of, of_json, of_items, of_members, read}
use Rattle.serde_json.specs.Written.{has_float}
use Rattle.jp_doc.specs.Reading.{max_line, crate_reading, document_from, reading}
use Rattle.jp_doc.specs.Tree.{tree_of}
use Rattle.jp_doc.specs.declared.fault.DocFault.{DocFault}
use Rattle.jp_doc.specs.declared.fault.DocFault.TheVariants.{LongLine, Unreadable, NotWhole, Memory}
use Rattle.jp_doc.proofs.TreeNesting.{no_tree, spelled_tree, tree_has_numbers}
use Rattle.jp_flat.specs.inner.Decimals.{holds_decimal, is_finite_text, is_readable, are_readable}
use Rattle.jp_flat.specs.inner.Decimals.{whole_fault}
use Rattle.jp_flat.specs.inner.FlatAnswers.{IsFlatAnswer, told}
use Rattle.jp_flat.specs.inner.Nesting.{nests_from}
use Rattle.jp_flat.specs.inner.Plain.{is_whole_text}
use Rattle.jp_flat.specs.inner.Rows.{is_whole_number}
use Rattle.jp_flat.specs.declared.lines.FlatAnswer.{FlatAnswer}
use Rattle.jp_flat.specs.declared.lines.Room.{Room}
use Rattle.jp_number.specs.declared.numbers.Numbers.TheVariants.{Whole}
use Rattle.jp_flat.proofs.Covered.{float_found}
use Rattle.jp_flat.proofs.Nesting.{tree_is}
use Rattle.jp_flat.proofs.WholeTexts.{tells_row, whole_has_row}

-- ---- numbers that the JSON crate reads

float_if : (b : Bool) (n : Num) → is_some (if b then Some n else None) ≡ b
float_if true n = refl
float_if false n = refl

row_if : (t : Bool) (n : Num) (sign : Bool) (p : Parts) → is_whole_number (Some n) ≡ true
    → is_whole_number (if t then Some n else float_of sign p) ≡ false
    → is_some (if t then Some n else float_of sign p) ≡ float_is_finite (nearest binary64 sign p)
row_if true n sign p w h = absurd (cc)
row_if false n sign p w h = float_if (float_is_finite (nearest binary64 sign p)) _

from_parts : (sign : Bool) (p : Parts) → is_whole_number (number_from sign p) ≡ false
    → is_some (number_from sign p) ≡ float_is_finite (nearest binary64 sign p)
from_parts true p h = row_if _ _ true p refl h
from_parts false p h = row_if _ _ false p refl h

sign_if : (b : Bool) (s : List ℕ)
    → is_whole_number (if b then number_from true (scan (drop 1 s)) else number_from false (scan s)) ≡ false
    → is_some (if b then number_from true (scan (drop 1 s)) else number_from false (scan s))
    ≡ (if b then float_is_finite (nearest binary64 true (scan (drop 1 s)))
    else float_is_finite (nearest binary64 false (scan s)))
sign_if true s h = from_parts true (scan (drop 1 s)) h
sign_if false s h = from_parts false (scan s) h

other_read : (s : List ℕ) → is_whole_number (number_of s) ≡ false → is_some (number_of s) ≡ is_finite_text s
unfolding number_of
other_read s h = sign_if (slice_index s 0 == 45) s h

whole_read : (o : Option Num) → is_whole_number o ≡ true → is_some o ≡ true
whole_read None h = absurd (cc)
whole_read (Some n) h = refl

number_if : (b : Bool) (s : List ℕ) → IsNumber s → is_whole_text s ≡ b
    → is_some (number_of s) ≡ (b || is_finite_text s)
number_if true s grammar e = whole_read (number_of s) (whole_has_row s e)
number_if false s grammar e = other_read s (sym (tells_row s grammar) ∙ e)

pub number_read : (s : List ℕ) → IsNumber s → is_readable s ≡ is_some (number_of s)
number_read s grammar = sym (number_if (is_whole_text s) s grammar refl)

-- ---- the same of a tree

map_if : {A B : Type 0} (f : A → B) (o : Option A) (x : Bool)
    → (is_some o && x) ≡ (is_some (option_map f o) && x)
map_if f None x = refl
map_if f (Some a) x = refl

item_if : (o : Option Data) (p : Option Items) (x : Bool)
    → (is_some o && (is_some p && x)) ≡ (is_some (option_and_then (λ d. option_map (item d) p) o) && x)
item_if None p x = refl
item_if (Some d) None x = refl
item_if (Some d) (Some ds) x = refl

member_if : (o : Option Data) (k : List ℕ) (ms : text.Members) (old : Members) (x y : Bool)
    → ((d : Data) → y ≡ (is_some (of_members ms (put k d old)) && x))
    → (is_some o && y) ≡ (is_some (option_and_then (λ d. of_members ms (put k d old)) o) && x)
member_if None k ms old x y others = refl
member_if (Some d) k ms old x y others = others d

mutual
  reads : (j : text.Json) (r : List Token) → HasNumbers j
      → are_readable (json_tokens j ++ r) ≡ (is_some (of_json j) && are_readable r)
  reads text.null r h = refl
  reads (text.boolean b) r h = refl
  reads (text.number s) r h =
      ap (λ b. b && are_readable r) (number_read s h) ∙ map_if number (number_of s) (are_readable r)
  reads (text.string s) r h = refl
  reads (text.array js) r h = items_read js r h ∙ map_if array (of_items js) (are_readable r)
  reads (text.object ms) r h =
      members_read ms no_members r h ∙ map_if object (of_members ms no_members) (are_readable r)

  items_read : (js : text.Items) (r : List Token) → ItemsHaveNumbers js
      → are_readable (items_tokens js ++ r) ≡ (is_some (of_items js) && are_readable r)
  items_read text.no_items r h = refl
  items_read (text.item j js) r h =
      ap are_readable (append_assoc (json_tokens j) (items_tokens js) r) ∙ reads j (items_tokens js ++ r) h.0
      ∙ ap (λ b. is_some (of_json j) && b) (items_read js r h.1)
      ∙ item_if (of_json j) (of_items js) (are_readable r)

  members_read : (ms : text.Members) (old : Members) (r : List Token) → MembersHaveNumbers ms
      → are_readable (members_tokens ms ++ r) ≡ (is_some (of_members ms old) && are_readable r)
  members_read text.no_members old r h = refl
  members_read (text.member k j ms) old r h =
      ap are_readable (append_assoc (json_tokens j) (members_tokens ms) r)
      ∙ reads j (members_tokens ms ++ r) h.0
      ∙ member_if (of_json j) k ms old (are_readable r) (are_readable (members_tokens ms ++ r))
      (λ d. members_read ms (put k d old) r h.1)

-- ---- the fault of a line

crate_reads : (line : List ℕ) → IsUtf8 line → length line ≤ max_line
    → reading line ≡ document_from (option_and_then of_json (tree_of line))
crate_reads line u short =
    ap (λ b. if b then Err LongLine else document_from (crate_reading line))
    (le-ltb max_line (length line) short)
    ∙ ap (λ b. document_from (if b then read line else None)) (is_utf8-from_IsUtf8 line u)

no_tree_reads : (line : List ℕ) → IsUtf8 line → length line ≤ max_line → tree_of line ≡ None
    → reading line ≡ Err Unreadable
no_tree_reads line u short e =
    crate_reads line u short ∙ ap (λ o. document_from (option_and_then of_json o)) e

data_reads : (line : List ℕ) (j : text.Json) (o : Option Data) → IsUtf8 line → length line ≤ max_line
    → tree_of line ≡ Some j → of_json j ≡ o → reading line ≡ document_from o
data_reads line j o u short e made =
    crate_reads line u short ∙ ap (λ t. document_from (option_and_then of_json t)) e ∙ ap document_from made

pub is_read : (line : List ℕ) (j : text.Json) → tree_of line ≡ Some j
    → are_readable (tokens line) ≡ (is_some (of_json j) && true)
is_read line j e =
    ap are_readable ((spelled_tree line j e).0 ∙ sym (append-nil (json_tokens j)))
    ∙ reads j [] (tree_has_numbers line j e)

float_reads : (d : Data) → has_float d ≡ true → document_from (Some d) ≡ Err NotWhole
float_reads d h = rw h refl

decimal_if : (o : Option Data) (line : List ℕ) (j : text.Json) → IsUtf8 line → length line ≤ max_line
    → tree_of line ≡ Some j → of_json j ≡ o → (is_some o && true) ≡ true → holds_decimal (tokens line) ≡ true
    → reading line ≡ Err NotWhole
decimal_if None line j u short e made some h = absurd (cc)
decimal_if (Some d) line j u short e made some h =
    data_reads line j (Some d) u short e made
    ∙ float_reads d (float_found j d (tree_has_numbers line j e)
    (ap holds_decimal (sym (spelled_tree line j e).0) ∙ h) made)

unread_if : (o : Option Data) (line : List ℕ) (j : text.Json) → IsUtf8 line → length line ≤ max_line
    → tree_of line ≡ Some j → of_json j ≡ o → (is_some o && true) ≡ false → reading line ≡ Err Unreadable
unread_if None line j u short e made none = data_reads line j None u short e made
unread_if (Some d) line j u short e made none = absurd (cc)

fault_if : (n r h : Bool) (line : List ℕ) (j : text.Json) (f : DocFault) → IsUtf8 line
    → length line ≤ max_line → text.document line ≡ Some j → nests_from 0 (tokens line) ≡ n
    → are_readable (tokens line) ≡ r → holds_decimal (tokens line) ≡ h
    → ◌≡◌ {A = Option DocFault} (if n && r then (if h then Some NotWhole else None) else Some Unreadable)
    (Some f)
    → (reading line ≡ Err f) × (f ≢ Memory)
fault_if false r h line j f u short e nests reads holds is = (
  no_tree_reads line u short (tree_is line ∙ ap (λ b. if b then text.document line else None) nests)
      ∙ ap Err (Some_inj Unreadable f is),
  subst (λ g. g ≢ Memory) (Some_inj Unreadable f is) (λ m. cc),
)
fault_if true false h line j f u short e nests reads holds is =
    let found : tree_of line ≡ Some j =
    tree_is line ∙ ap (λ b. if b then text.document line else None) nests ∙ e in (
      unread_if (of_json j) line j u short found refl (sym (is_read line j found) ∙ reads)
          ∙ ap Err (Some_inj Unreadable f is),
      subst (λ g. g ≢ Memory) (Some_inj Unreadable f is) (λ m. cc),
    )
fault_if true true true line j f u short e nests reads holds is =
    let found : tree_of line ≡ Some j =
    tree_is line ∙ ap (λ b. if b then text.document line else None) nests ∙ e in (
      decimal_if (of_json j) line j u short found refl (sym (is_read line j found) ∙ reads) holds
          ∙ ap Err (Some_inj NotWhole f is),
      subst (λ g. g ≢ Memory) (Some_inj NotWhole f is) (λ m. cc),
    )
fault_if true true false line j f u short e nests reads holds is = absurd (cc)

fault_some : (o : Option text.Json) (line : List ℕ) (f : DocFault) → IsUtf8 line → length line ≤ max_line
    → text.document line ≡ o → IsSome o → whole_fault (tokens line) ≡ Some f
    → (reading line ≡ Err f) × (f ≢ Memory)
fault_some None line f u short e some is = absurd (cc)
fault_some (Some j) line f u short e some is = fault_if _ _ _ line j f u short e refl refl refl is

pub fault_of_nodes : (line : List ℕ) (f : DocFault) → IsUtf8 line → IsSome (text.document line)
    → length line ≤ max_line → whole_fault (tokens line) ≡ Some f → reading line ≡ Err f
fault_of_nodes line f u made short is = (fault_some (text.document line) line f u short refl made is).0

told_if : (o : Option DocFault) (line : List ℕ) (room : Room) → IsUtf8 line → IsSome (text.document line)
    → length line ≤ max_line → whole_fault (tokens line) ≡ o → IsFlatAnswer (told o) Whole line room
told_if None line room u made short is = (λ g h. h, λ m. cc)
told_if (Some f) line room u made short is = fault_some (text.document line) line f u short refl made is

-- of a line that the kit reads
pub answer_of_nodes : (line : List ℕ) (room : Room) (a : FlatAnswer) → IsUtf8 line
    → IsSome (text.document line) → length line ≤ max_line → a ≡ told (whole_fault (tokens line))
    → IsFlatAnswer a Whole line room
answer_of_nodes line room a u made short is =
    subst (λ b. IsFlatAnswer b Whole line room) (sym is)
    (told_if (whole_fault (tokens line)) line room u made short refl)

unreadable : (line : List ℕ) → reading line ≡ Err Unreadable → (reading line ≡ Err Unreadable) ×
    (Unreadable ≢ Memory)
unreadable line h = (h, λ m. cc)

-- of one that it does not read
pub refused_line : {T : Type 0} (line s : List ℕ) (r : Result T tape.Error) (e : tape.Error) → r ≡ Err e
    → (e ≡ OutOfMemory → ⊥)
    → (r ≡ Err Invalid → text.document s ≡ None) → (r ≡ Err TooLong → 4294967040 < length s)
    → (r ≡ Err DuplicateKey → ⊥) → (s ≡ line) × IsUtf8 line → length line ≤ max_line
    → (reading line ≡ Err Unreadable) × (Unreadable ≢ Memory)
refused_line line s r Invalid e other invalid long twice is short =
    unreadable line (no_tree_reads line is.1 short (no_tree line (sym (ap text.document is.0) ∙ invalid e)))
refused_line line s r OutOfMemory e other invalid long twice is short = absurd (other refl)
refused_line line s r TooLong e other invalid long twice is short =
    let same = ap length is.0 in
    absurd (omega (arith, long e, same, short))
refused_line line s r DuplicateKey e other invalid long twice is short = absurd (twice e)

-- of one that is no text
no_text_if : (b : Bool) (line : List ℕ) → is_utf8 line ≡ b → (IsUtf8 line → ⊥) → length line ≤ max_line
    → reading line ≡ Err Unreadable
no_text_if true line e none short = absurd (none (IsUtf8-from_is_utf8 line e))
no_text_if false line e none short =
    ap (λ b. if b then Err LongLine else document_from (crate_reading line))
    (le-ltb max_line (length line) short)
    ∙ ap (λ b. document_from (if b then read line else None)) e

pub no_text_line : (line : List ℕ) → (IsUtf8 line → ⊥) → length line ≤ max_line
    → (reading line ≡ Err Unreadable) × (Unreadable ≢ Memory)
no_text_line line none short = unreadable line (no_text_if (is_utf8 line) line refl none short)

-- of one that is too long
pub long_line : (line : List ℕ) → max_line < length line → (reading line ≡ Err LongLine) × (LongLine ≢ Memory)
long_line line long = (
  ap (λ b. if b then Err LongLine else document_from (crate_reading line))
      (lt-ltb max_line (length line) long),
  λ m. cc,
)
