-- Where U+0000 ends values: it stands nowhere else in their texts.
use Rattle.std.proofs.Common.{◌≡◌, ℕ, ◌≤◌, ◌==◌, nat_lt, cond, List, [], ◌∷◌, ◌++◌, refl, ap, sym, ◌∙◌}
use Rattle.std.proofs.Common.{arith, append_assoc, flat_map, length, encode_utf8_all, Bool, true, false}
use Rattle.std.proofs.lemmas.Bool.Decides.{nat_tests}
use Rattle.std.specs.List.{AllByRecursion}
use lib.Utf8.{encode}
use Rattle.jp_doc.specs.Json as json
use Rattle.jp_doc.specs.Json.{Json, Text, null, truth, text, array, object}
use Rattle.jp_doc.specs.Location.{Node}
use Rattle.jp_doc.specs.NumbersWithin.{HasJsonNumbers}
use Rattle.jp_output.specs.Fields.{times, IsEndedOnceBy, NodesHaveJsonNumbers, lines_ended_by}
use Rattle.jp_output.specs.OutputLine.{ended_by, line_of, value_text}
use Rattle.jp_output.specs.RawText.{raw_text, HasNoNull, NodesHaveNoNull}
use Rattle.jp_output.proofs.FieldBytes.{IsField}
use Rattle.jp_output.proofs.Fields.{field_lacks, times_both, times_first, times_none, value_field}
use Rattle.jp_output.proofs.ThirdFields.{field_without, first_line}

-- a text, and the byte 0 behind it
ended_once : (bytes : List ℕ) → times 0 bytes ≡ 0 → IsEndedOnceBy 0 (bytes ++ 0 ∷ [])
ended_once bytes h = record {
  once = omega (arith, times_both 0 bytes (0 ∷ []), h, times_first 0 0 [], times_none 0);
  ends = (bytes, refl);
}

pub value_once : (text_of : Json → List ℕ) (n : Node) → times 0 (text_of n.value) ≡ 0
    → IsEndedOnceBy 0 (ended_by 0 text_of n)
value_once text_of n h = ended_once (text_of n.value) h

-- as many as nodes
pub counted : (text_of : Json → List ℕ) (ns : List Node)
    → AllByRecursion (λ (n : Node). times 0 (text_of n.value) ≡ 0) ns
    → times 0 (flat_map (ended_by 0 text_of) ns) ≡ length ns
counted text_of [] h = times_none 0
counted text_of (n ∷ ns) h = omega (
  arith,
  times_both 0 (ended_by 0 text_of n) (flat_map (ended_by 0 text_of) ns),
  (value_once text_of n h.0).once,
  counted text_of ns h.1,
)

-- where no byte of a text is below the space
module _ (text_of : Json → List ℕ) (field : (v : Json) → HasJsonNumbers v → IsField (text_of v)) where
  lacks_null : (v : Json) → HasJsonNumbers v → times 0 (text_of v) ≡ 0
  lacks_null v h = field_lacks 0 (text_of v) (omega arith) (field v h)

  pub field_once : (n : Node) → HasJsonNumbers n.value → IsEndedOnceBy 0 (ended_by 0 text_of n)
  field_once n h = value_once text_of n (lacks_null n.value h)

  all_lack : (ns : List Node) → NodesHaveJsonNumbers ns
      → AllByRecursion (λ (n : Node). times 0 (text_of n.value) ≡ 0) ns
  all_lack [] h = tt
  all_lack (n ∷ ns) h = (lacks_null n.value h.0, all_lack ns h.1)

  pub fields_counted : (ns : List Node) → NodesHaveJsonNumbers ns
      → times 0 (flat_map (ended_by 0 text_of) ns) ≡ length ns
  fields_counted ns h = counted text_of ns (all_lack ns h)

  pub fields_anew : (ns : List Node) → NodesHaveJsonNumbers ns
      → flat_map (ended_by 0 text_of) ns ≡ lines_ended_by 0 (flat_map (line_of text_of) ns)
  fields_anew [] h = refl
  fields_anew (n ∷ ns) h =
      let bytes = text_of n.value in
      let rest = flat_map (line_of text_of) ns in
      let first = first_line bytes rest (field_without 10 bytes (omega arith) (field n.value h.0)) in
      ap (λ (t : List ℕ). (bytes ++ 0 ∷ []) ++ t) (fields_anew ns h.1)
      ∙ sym (ap (λ (bs : List ℕ). lines_ended_by 0 bs) (append_assoc bytes (10 ∷ []) rest)
      ∙ ap (λ (ls : List (List ℕ)). flat_map (λ line. line ++ 0 ∷ []) ls) first)

-- raw texts

abbrev IsAbove : List ℕ → Type 0
IsAbove bytes = AllByRecursion (λ b. 1 ≤ b) bytes

above_both : (xs ys : List ℕ) → IsAbove xs → IsAbove ys → IsAbove (xs ++ ys)
above_both [] ys h g = g
above_both (x ∷ xs) ys h g = (h.0, above_both xs ys h.1 g)

above_differs : (x : ℕ) → 1 ≤ x → ◌≡◌ {A = ℕ} (cond (x == 0) 1 0) 0
above_differs x h = grind (arith, nat_tests)

above_lacks : (xs : List ℕ) → IsAbove xs → times 0 xs ≡ 0
above_lacks [] h = times_none 0
above_lacks (x ∷ xs) h = omega (arith, times_first 0 x xs, above_differs x h.0, above_lacks xs h.1)

above_by : (x : ℕ) → ◌≡◌ {A = ℕ} (cond (x == 0) 1 0) 0 → 1 ≤ x
above_by x h = grind (arith, nat_tests)

lacks_above : (xs : List ℕ) → times 0 xs ≡ 0 → IsAbove xs
lacks_above [] h = tt
lacks_above (x ∷ xs) h =
    let sum = times_first 0 x xs in
    (above_by x (omega (arith, sum, h)), lacks_above xs (omega (arith, sum, h)))

either : (b : Bool) (x y : List ℕ) → (b ≡ true → IsAbove x) → (b ≡ false → IsAbove y) → IsAbove (cond b x y)
either true x y h g = h refl
either false x y h g = g refl

encode_above : (c : ℕ) → 1 ≤ c → IsAbove (encode c)
unfolding encode
encode_above c h =
    either (nat_lt c 128) _ _ (λ e. (h, tt)) (λ e.
    either (nat_lt c 2048) _ _ (λ e. (omega arith, (omega arith, tt))) (λ e.
    either (nat_lt c 65536) _ _ (λ e. (omega arith, (omega arith, (omega arith, tt))))
    (λ e. (omega arith, (omega arith, (omega arith, (omega arith, tt)))))))

encoded_above : (s : Text) → IsAbove s → IsAbove (encode_utf8_all s)
encoded_above [] h = tt
encoded_above (c ∷ s) h =
    above_both (encode c) (encode_utf8_all s) (encode_above c h.0) (encoded_above s h.1)

pub raw_lacks : (v : Json) → HasJsonNumbers v → HasNoNull v → times 0 (raw_text v) ≡ 0
raw_lacks (text s) h none = above_lacks (encode_utf8_all s) (encoded_above s (lacks_above s none))
raw_lacks null h none = field_lacks 0 (value_text null) (omega arith) (value_field null h)
raw_lacks (truth b) h none = field_lacks 0 (value_text (truth b)) (omega arith) (value_field (truth b) h)
raw_lacks (json.number x) h none =
    field_lacks 0 (value_text (json.number x)) (omega arith) (value_field (json.number x) h)
raw_lacks (array vs) h none =
    field_lacks 0 (value_text (array vs)) (omega arith) (value_field (array vs) h)
raw_lacks (object ms) h none =
    field_lacks 0 (value_text (object ms)) (omega arith) (value_field (object ms) h)

pub all_raw_lack : (ns : List Node) → NodesHaveJsonNumbers ns → NodesHaveNoNull ns
    → AllByRecursion (λ (n : Node). times 0 (raw_text n.value) ≡ 0) ns
all_raw_lack [] h none = tt
all_raw_lack (n ∷ ns) h none = (raw_lacks n.value h.0 none.0, all_raw_lack ns h.1 none.1)
