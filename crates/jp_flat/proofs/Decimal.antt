-- What the pass over the nodes of a line tells, where numbers need not be whole.
use Rattle.std.proofs.Common.{◌≡◌, ◌≢◌, ℕ, ◌<◌, ◌≤◌, Bool, true, false, not, ◌&&◌, List, [], ◌∷◌, length}
use Rattle.std.proofs.Common.{Option, Some, None, Result, Ok, Err, IsSome, refl, sym, ap, ◌∙◌, subst, arith}
use Rattle.std.proofs.Common.{if◌then◌else◌, append-nil}
use Rattle.std.proofs.lemmas.Str.{IsUtf8-from_is_utf8}
use Rattle.std.specs.Str.{IsUtf8, is_utf8}
use Rattle.json.specs.Json as text
use Rattle.json.specs.Lex.{tokens}
use Rattle.json.specs.Print.{IsNumber, ArePrintableOrBad}
use Rattle.json.specs.Token.{Token}
use Rattle.json.specs.Tree as tree
use Rattle.json.specs.declared.error.Error as tape
use Rattle.json.specs.declared.error.Error.TheVariants.{Invalid, OutOfMemory, TooLong, DuplicateKey}
use Rattle.json.proofs.Found.{Some_inj}
use Rattle.json.proofs.Numbered.{ArePrintableOrBad-tokens}
use Rattle.jp_doc.specs.Json.{Json}
use Rattle.jp_doc.specs.Reading.{max_line, max_items, has_long_array, unless_long}
use Rattle.jp_number.specs.declared.numbers.Numbers.TheVariants.{Decimals}
use Rattle.jp_doc.specs.ReadingIn.{has_long_number, tree_reading, reading_in}
use Rattle.jp_doc.specs.Tree.{tree_of, text_number, tree_json}
use Rattle.jp_doc.specs.declared.fault.DocFault.{DocFault}
use Rattle.jp_doc.specs.declared.fault.DocFault.TheVariants.{LongLine, Unreadable, LongNumber, LongArray}
use Rattle.jp_doc.specs.declared.fault.DocFault.TheVariants.{Memory}
use Rattle.jp_doc.proofs.TreeNesting.{shallow_tree, spelled_tree, tree_has_numbers}
use Rattle.jp_doc.proofs.ReadingInLaws.{decided_by_tree, fault_by_tree, same_long_line}
use Rattle.jp_flat.specs.Flat.{value_at}
use Rattle.jp_flat.specs.inner.Decimals.{whole_fault}
use Rattle.jp_flat.specs.inner.FlatAnswers.{IsFlatAnswer, told_over}
use Rattle.jp_flat.specs.inner.Nesting.{nests_from}
use Rattle.jp_flat.specs.inner.Plain.{is_flat, is_whole_text}
use Rattle.jp_flat.specs.inner.Rows.{are_short, are_within, pass_answer, pass_fault, by_fault}
use Rattle.jp_flat.specs.declared.lines.FlatAnswer.{FlatAnswer}
use Rattle.jp_flat.specs.declared.lines.Room.{Room}
use Rattle.jp_flat.proofs.Faults.{all_rows, answer_is, none_is}
use Rattle.jp_flat.proofs.FewTokens.{few_tokens}
use Rattle.jp_flat.proofs.Nesting.{tree_is}
use Rattle.jp_flat.proofs.Numbers as numbers
use Rattle.jp_flat.proofs.Reading.{Flat, flat_is, fit_tree, value_is}
use Rattle.jp_flat.proofs.WholeFaults as whole
use Rattle.jp_flat.proofs.WholeFaults.{fault_of_nodes}
use Rattle.jp_flat.proofs.WholeTexts.{number_is, other_is}
use Rattle.jp_number.specs.Number.{written, IsShort, is_short}
use Rattle.jp_number.proofs.Limits.{short_by_test}
use Rattle.jp_number.proofs.Texts.{own_length}

-- ---- numbers within the limits, by their texts

within_if : (b : Bool) (s : List ℕ) → IsNumber s → is_whole_text s ≡ b
    → is_short (written s) ≡ is_short (text_number s)
within_if true s grammar h =
    let own = own_length _ (numbers.fits_wide s h) in
    (short_by_test (written s)).1 (subst (λ t. IsShort (written t)) (numbers.written s h) own)
    ∙ sym (ap is_short (number_is s h))
within_if false s grammar h = sym (ap is_short (other_is s grammar h))

within_number : (s : List ℕ) → IsNumber s → is_short (written s) ≡ is_short (text_number s)
within_number s grammar = within_if (is_whole_text s) s grammar refl

all_within : (ts : List Token) → ArePrintableOrBad ts → are_within ts ≡ are_short ts
all_within [] h = refl
all_within (Token.begin_object ∷ ts) h = all_within ts h.1
all_within (Token.end_object ∷ ts) h = all_within ts h.1
all_within (Token.begin_array ∷ ts) h = all_within ts h.1
all_within (Token.end_array ∷ ts) h = all_within ts h.1
all_within (Token.key s ∷ ts) h = all_within ts h.1
all_within (Token.string s ∷ ts) h = all_within ts h.1
all_within (Token.number s ∷ ts) h =
    ap (λ b. b && are_within ts) (within_number s h.0)
    ∙ ap (λ b. is_short (text_number s) && b) (all_within ts h.1)
all_within (Token.boolean b ∷ ts) h = all_within ts h.1
all_within (Token.null ∷ ts) h = all_within ts h.1
all_within (Token.bad ∷ ts) h = all_within ts h.1

line_within : (line : List ℕ) → are_within (tokens line) ≡ are_short (tokens line)
line_within line = all_within (tokens line) (ArePrintableOrBad-tokens line)

-- ---- the answer by the fault that is found

one_answer : (n w : Bool) (v : Json)
    → (if n then (if w then unless_long v else Err LongNumber) else Err Unreadable)
    ≡ by_fault (if n then (if w then None else Some LongNumber) else Some Unreadable) v
one_answer true true v = refl
one_answer true false v = refl
one_answer false w v = refl

answer_by_pass : (line : List ℕ) (j : text.Json)
    → pass_answer (tokens line) j ≡ by_fault (pass_fault (tokens line)) (tree_json j)
answer_by_pass line j =
    let ts = tokens line in
    ap (λ w. if nests_from 0 ts then (if w then unless_long (tree_json j) else Err LongNumber)
    else Err Unreadable) (sym (line_within line))
    ∙ one_answer (nests_from 0 ts) (are_within ts) (tree_json j)

-- what is so where none is found
record NoFault (ts : List Token) : Type 0 where
  nests : nests_from 0 ts ≡ true
  within : are_within ts ≡ true

no_fault_if : (n w : Bool) (ts : List Token) → nests_from 0 ts ≡ n → are_within ts ≡ w
    → ◌≡◌ {A = Option DocFault} (if n then (if w then None else Some LongNumber) else Some Unreadable) None
    → NoFault ts
no_fault_if true true ts e f h = record { nests = e; within = f }
no_fault_if true false ts e f h = absurd (cc)
no_fault_if false w ts e f h = absurd (cc)

no_fault : (ts : List Token) → pass_fault ts ≡ None → NoFault ts
no_fault ts h = no_fault_if _ _ ts refl refl h

-- none but two are found
two_faults : (n w : Bool) (f : DocFault)
    → (if n then (if w then None else Some LongNumber) else Some Unreadable) ≡ Some f
    → (f ≡ LongNumber → ⊥) → f ≡ Unreadable
two_faults true true f h other = absurd (cc)
two_faults true false f h other = absurd (other (sym (Some_inj LongNumber f h)))
two_faults false w f h other = sym (Some_inj Unreadable f h)

not_long : (b : Bool) → (not b && true) ≡ true → b ≡ false
not_long true h = absurd (cc)
not_long false h = refl

-- ---- a line that the kit reads

flat_line : (line : List ℕ) (j : text.Json) → IsUtf8 line → text.document line ≡ Some j
    → length line ≤ max_line → pass_fault (tokens line) ≡ None → Flat (tokens line)
flat_line line j u e short none =
    let n = no_fault (tokens line) none in
    let found : tree_of line ≡ Some j =
    tree_is line ∙ ap (λ b. if b then text.document line else None) n.nests ∙ e in
    let spelled = spelled_tree line j found in
    let rows = all_rows line j e (tree_has_numbers line j found) in
    let within = not_long (has_long_number j) (sym rows ∙ sym (line_within line) ∙ n.within) in
    record {
      source = j;
      rest = [];
      spelled = spelled.0 ∙ sym (append-nil _);
      nests = spelled.1;
      few = omega (arith, ap length spelled.0, few_tokens line, short);
      fit = fit_tree line j e u spelled.1 within;
    }

-- its value, where the pass finds no fault
record ReadDecimal (line : List ℕ) : Type 0 where
  flat : is_flat (tokens line) ≡ true
  reads : tree_reading line ≡ unless_long (value_at (tokens line))

read_line : (line : List ℕ) (j : text.Json) → IsUtf8 line → text.document line ≡ Some j
    → length line ≤ max_line → pass_fault (tokens line) ≡ None → ReadDecimal line
unfolding flat_line
read_line line j u e short none =
    let f = flat_line line j u e short none in
    record {
      flat = flat_is (tokens line) f;
      reads = answer_is line j u e ∙ answer_by_pass line j ∙ ap (λ o. by_fault o (tree_json j)) none
          ∙ ap unless_long (sym (value_is (tokens line) f));
    }

read_some : (line : List ℕ) (o : Option text.Json) → IsUtf8 line → text.document line ≡ o → IsSome o
    → length line ≤ max_line → pass_fault (tokens line) ≡ None → ReadDecimal line
read_some line None u e some short none = absurd (cc)
read_some line (Some j) u e some short none = read_line line j u e short none

fault_some : (line : List ℕ) (o : Option text.Json) (f : DocFault) → IsUtf8 line → text.document line ≡ o
    → IsSome o → pass_fault (tokens line) ≡ Some f → tree_reading line ≡ Err f
fault_some line None f u e some found = absurd (cc)
fault_some line (Some j) f u e some found =
    answer_is line j u e ∙ answer_by_pass line j ∙ ap (λ o. by_fault o (tree_json j)) found

-- ---- what is read with decimals, which the grammar alone tells but for numbers over the limits

no_number_if : (b : Bool) (v : Json)
    → ◌≡◌ {A = Result Json DocFault} (if b then Err LongArray else Ok v) (Err LongNumber) → ⊥
no_number_if true v h = absurd (cc)
no_number_if false v h = absurd (cc)

-- where the pass finds no fault
pub value_of_pass : (line : List ℕ) → IsUtf8 line → IsSome (text.document line) → length line ≤ max_line
    → pass_fault (tokens line) ≡ None
    → (is_flat (tokens line) ≡ true) × (reading_in Decimals line ≡ unless_long (value_at (tokens line)))
value_of_pass line u made short none =
    let r = read_some line (text.document line) u refl made short none in (
      r.flat,
      decided_by_tree line short (λ e. no_number_if (has_long_array max_items (value_at (tokens line))) _
          (sym r.reads ∙ e)) ∙ r.reads,
    )

unread : (line : List ℕ) → length line ≤ max_line → tree_reading line ≡ Err Unreadable
    → (reading_in Decimals line ≡ Err Unreadable) × (Unreadable ≢ Memory)
unread line short h = (decided_by_tree line short (λ e. absurd (cc)) ∙ h, λ m. cc)

-- where it finds another fault than a number
pub fault_of_pass : (line : List ℕ) (f : DocFault) → IsUtf8 line → IsSome (text.document line)
    → length line ≤ max_line → pass_fault (tokens line) ≡ Some f → (f ≡ LongNumber → ⊥)
    → (reading_in Decimals line ≡ Err f) × (f ≢ Memory)
fault_of_pass line f u made short found other =
    let is = two_faults _ _ f found other in
    let told = fault_some line (text.document line) f u refl made found in
    subst (λ g. (reading_in Decimals line ≡ Err g) × (g ≢ Memory)) (sym is)
    (unread line short (told ∙ ap Err is))

-- where it finds a number, by what a pass over the nodes says of whole ones
over_if : (o : Option DocFault) (line : List ℕ) (room : Room) → IsUtf8 line → IsSome (text.document line)
    → length line ≤ max_line → tree_reading line ≡ Err LongNumber → whole_fault (tokens line) ≡ o
    → IsFlatAnswer (told_over o) Decimals line room
over_if None line room u made short over is =
    (λ g h. fault_by_tree line g short h ∙ over, λ m. absurd (cc))
over_if (Some f) line room u made short over is =
    (fault_by_tree line f short (fault_of_nodes line f u made short is) ∙ over, λ m. cc)

pub over_of_pass : (line : List ℕ) (room : Room) (a : FlatAnswer) → IsUtf8 line
    → IsSome (text.document line) → length line ≤ max_line → pass_fault (tokens line) ≡ Some LongNumber
    → a ≡ told_over (whole_fault (tokens line)) → IsFlatAnswer a Decimals line room
over_of_pass line room a u made short found is =
    subst (λ b. IsFlatAnswer b Decimals line room) (sym is)
    (over_if (whole_fault (tokens line)) line room u made short
    (fault_some line (text.document line) LongNumber u refl made found) refl)

-- of a value with numbers within the limits it finds none
pub short_passes : (line : List ℕ) (j : text.Json) → text.document line ≡ Some j → tree.depth j ≤ 127
    → has_long_number j ≡ false → pass_fault (tokens line) ≡ None
short_passes line j e nests short =
    let found = shallow_tree line j e nests in
    let open_so : nests_from 0 (tokens line) ≡ true = opened (nests_from 0 (tokens line))
    (sym (tree_is line) ∙ found) in
    let within : are_within (tokens line) ≡ true = line_within line
    ∙ all_rows line j e (tree_has_numbers line j found)
    ∙ ap (λ b. not b && true) short in
    rw (open_so, within) refl
  where
    opened : (b : Bool) → (if b then text.document line else None) ≡ Some j → b ≡ true
    opened true h = refl
    opened false h = absurd (cc)

-- a line that the tape refuses
pub refused : {T : Type 0} (line s : List ℕ) (r : Result T tape.Error) (e : tape.Error) → r ≡ Err e
    → (e ≡ OutOfMemory → ⊥)
    → (r ≡ Err Invalid → text.document s ≡ None) → (r ≡ Err TooLong → 4294967040 < length s)
    → (r ≡ Err DuplicateKey → ⊥) → (s ≡ line) × IsUtf8 line → length line ≤ max_line
    → (reading_in Decimals line ≡ Err Unreadable) × (Unreadable ≢ Memory)
refused line s r Invalid e other invalid long twice is short =
    unread line short (none_is line is.1 (sym (ap text.document is.0) ∙ invalid e))
refused line s r OutOfMemory e other invalid long twice is short = absurd (other refl)
refused line s r TooLong e other invalid long twice is short =
    let same = ap length is.0 in
    absurd (omega (arith, long e, same, short))
refused line s r DuplicateKey e other invalid long twice is short = absurd (twice e)

-- a line that is no text
no_text_if : (b : Bool) (line : List ℕ) → is_utf8 line ≡ b → (IsUtf8 line → ⊥)
    → tree_reading line ≡ Err Unreadable
no_text_if true line e none = absurd (none (IsUtf8-from_is_utf8 line e))
no_text_if false line e none = rw e refl

pub no_text : (line : List ℕ) → (IsUtf8 line → ⊥) → length line ≤ max_line
    → (reading_in Decimals line ≡ Err Unreadable) × (Unreadable ≢ Memory)
no_text line none short = unread line short (no_text_if (is_utf8 line) line refl none)

-- one that is too long
pub long_line : (line : List ℕ) → max_line < length line
    → (reading_in Decimals line ≡ Err LongLine) × (LongLine ≢ Memory)
long_line line long = (same_long_line Decimals line (whole.long_line line long).0, λ m. cc)
