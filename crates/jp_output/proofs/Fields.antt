-- An output line has three fields: no byte below the space stands in one.
use Rattle.std.proofs.Common.{◌≡◌, ℕ, zero, suc, ◌+◌, ◌/◌, ◌%◌, ◌≤◌, ◌<◌, ◌==◌, nat_lt, nat_le, Bool, true}
use Rattle.std.proofs.Common.{false, cond, List, [], ◌∷◌, ◌++◌, refl, ap, sym, ◌∙◌, arith, append_assoc}
use Rattle.std.proofs.Common.{codes, decimal, encode_utf8_all, pos, negsuc, flat_map, length, ap₂}
use Rattle.std.proofs.Common.{append-nil}
use Rattle.std.proofs.lemmas.Bool.{and_parts, leb-true, ltb-true, ltb-false}
use Rattle.std.proofs.lemmas.Bool.Decides.{nat_tests}
use Rattle.std.proofs.lemmas.List.Sums.{sum_by-append, sum_by-cons, count_by-le-length}
use Rattle.std.specs.List.{AllByRecursion, concat, list_all}
use Rattle.std.specs.Char.{digit_char}
use Rattle.std.specs.Fmt.{digits, digits_onto, digit_glyph}
use lib.Utf8.{encode}
use Rattle.json.specs.Print.{escape_letter, escape_byte, escape}
use Rattle.jp_doc.specs.Location.{Step, name, index, Location}
use Rattle.jp_node.specs.Path.{escaped, hex_digit, step_text, path_text}
use Rattle.jp_doc.specs.Json as json
use Rattle.jp_doc.specs.Json.{Json, null, truth, text, array, object, Items, no_items, add_item}
use Rattle.jp_doc.specs.Json.{Text, Members, no_members, add_member}
use Rattle.jp_doc.specs.Location.{Node}
use Rattle.jp_doc.specs.declared.fault.DocFault.{DocFault}
use Rattle.jp_doc.specs.declared.fault.DocFault.TheVariants.{LongLine, Unreadable, NotWhole, LongNumber}
use Rattle.jp_doc.specs.declared.fault.DocFault.TheVariants.{LongArray, Memory}
use Rattle.jp_doc.specs.FaultWords.{fault_words}
use Rattle.jp_doc.specs.NumbersWithin.{IsJsonNumber, HasJsonNumbers, AllNumbersOfItems}
use Rattle.jp_doc.specs.NumbersWithin.{AllNumbersOfMembers}
use Rattle.jp_number.specs.Number.{Number, whole, written, number_text}
use Rattle.jp_output.proofs.FieldBytes.{IsField}
use Rattle.jp_output.proofs.NumberFields.{text_of_a_number}
use Rattle.jp_output.specs.FaultLine.{fault_line}
use Rattle.jp_output.specs.Fields.{times, HasThreeFields, AreLinesOfThree, IsOneLine}
use Rattle.jp_output.specs.Fields.{NodesHaveJsonNumbers}
use Rattle.jp_output.specs.OutputLine.{truth_text, quoted_text, value_text, items_text, further_items}
use Rattle.jp_output.specs.OutputLine.{members_text, further_members, node_line, value_line}
use Rattle.jp_output.specs.UnquotedText.{unquoted_byte, unquoted_text, text_line}

field_both : (xs ys : List ℕ) → IsField xs → IsField ys → IsField (xs ++ ys)
field_both [] ys h g = g
field_both (x ∷ xs) ys h g = (h.0, field_both xs ys h.1 g)

field_each : (f : ℕ → List ℕ) → ((c : ℕ) → IsField (f c)) → (cs : List ℕ) → IsField (flat_map f cs)
field_each f h [] = tt
field_each f h (c ∷ cs) = field_both (f c) (flat_map f cs) (h c) (field_each f h cs)

-- where each byte is given
written_out : (t : List ℕ) → list_all (λ b. nat_le 32 b) t ≡ true → IsField t
written_out [] e = tt
written_out (b ∷ t) e = let p = and_parts (nat_le 32 b) (list_all (λ c. nat_le 32 c) t) e in
    (leb-true 32 b p.0, written_out t p.1)

either : (P : List ℕ → Type 0) (b : Bool) (x y : List ℕ) → (b ≡ true → P x) → (b ≡ false → P y)
    → P (cond b x y)
either P true x y h g = h refl
either P false x y h g = g refl

-- counts

pub times_both : (b : ℕ) (xs ys : List ℕ) → times b (xs ++ ys) ≡ times b xs + times b ys
times_both b xs ys = sum_by-append (λ c. cond (c == b) 1 0) xs ys

pub times_first : (b x : ℕ) (xs : List ℕ) → times b (x ∷ xs) ≡ cond (x == b) 1 0 + times b xs
times_first b x xs = sum_by-cons (λ c. cond (c == b) 1 0) x xs

pub times_none : (b : ℕ) → times b [] ≡ 0
times_none b = omega (arith, count_by-le-length (λ c. c == b) [])

high_differs : (b x : ℕ) → b < 32 → 32 ≤ x → ◌≡◌ {A = ℕ} (cond (x == b) 1 0) 0
high_differs b x low high = grind (arith, nat_tests)

pub field_lacks : (b : ℕ) (xs : List ℕ) → b < 32 → IsField xs → times b xs ≡ 0
field_lacks b [] low h = times_none b
field_lacks b (x ∷ xs) low h = omega (
  arith,
  times_first b x xs,
  high_differs b x low h.0,
  field_lacks b xs low h.1,
)

module _ (x y z : List ℕ) (hx : IsField x) (hy : IsField y) (hz : IsField z) where
  counted : (b : ℕ) → b < 32 → times b (x ++ (9 ∷ y ++ (9 ∷ z ++ 10 ∷ [])))
      ≡ cond (9 == b) 1 0 + cond (9 == b) 1 0 + cond (10 == b) 1 0
  counted b low = omega (
    arith,
    times_both b x (9 ∷ y ++ (9 ∷ z ++ 10 ∷ [])),
    times_first b 9 (y ++ (9 ∷ z ++ 10 ∷ [])),
    times_both b y (9 ∷ z ++ 10 ∷ []),
    times_first b 9 (z ++ 10 ∷ []),
    times_both b z (10 ∷ []),
    times_first b 10 [],
    times_none b,
    field_lacks b x low hx,
    field_lacks b y low hy,
    field_lacks b z low hz,
  )

  pub three_fields : HasThreeFields (x ++ (9 ∷ y ++ (9 ∷ z ++ 10 ∷ [])))
  three_fields = record {
    tabs = counted 9 (omega arith);
    line_feeds = counted 10 (omega arith);
    ends = (
      x ++ (9 ∷ y ++ (9 ∷ z)),
      sym (append_assoc x (9 ∷ y ++ (9 ∷ z)) (10 ∷ [])
          ∙ ap (λ (l : List ℕ). x ++ (9 ∷ l)) (append_assoc y (9 ∷ z) (10 ∷ []))),
    );
  }

-- numbers

glyph_high : (d : ℕ) → 32 ≤ digit_glyph false d
glyph_high d = grind (arith, nat_tests)

digits_field : (k base n : ℕ) (acc : List ℕ) → IsField acc → IsField (digits_onto k base false n acc)
digits_field zero base n acc h = h
digits_field (suc k) base n acc h = either IsField (n / base == 0) _ _ (λ e. (glyph_high (n % base), h))
    (λ e. digits_field k base (n / base) (digit_glyph false (n % base) ∷ acc) (glyph_high (n % base), h))

pub decimal_field : (n : ℕ) → IsField (decimal n)
unfolding digits
decimal_field n = digits_field 64 10 n [] tt

number_field : (x : Number) → IsJsonNumber x → IsField (number_text x)
number_field (whole (pos n)) h = decimal_field n
number_field (whole (negsuc n)) h = (omega arith, decimal_field (suc n))
number_field (written s) h = text_of_a_number s h

-- texts, by the JSON crate's escapes

digit_high : (d : ℕ) → 32 ≤ digit_char d
digit_high d = grind (arith, nat_tests)

letter_high : (x : ℕ) → 0 < escape_letter x → 32 ≤ escape_letter x
letter_high x h = grind (arith, nat_tests)

escape_field : (x : ℕ) → IsField (escape_byte x)
unfolding escape_byte
escape_field x =
    either IsField (nat_lt 0 (escape_letter x)) _ _
    (λ e. (omega arith, (letter_high x (ltb-true 0 (escape_letter x) e), tt)))
    (λ e. either IsField (nat_lt x 32) _ _
    (λ g. field_both (codes "\\u00") (digit_char (x / 16) ∷ digit_char (x % 16) ∷ [])
    (written_out (codes "\\u00") refl) (digit_high (x / 16), (digit_high (x % 16), tt)))
    (λ g. (ltb-false x 32 g, tt)))

quoted_field : (s : Text) → IsField (quoted_text s)
quoted_field s =
    let bytes = encode_utf8_all s in (
      omega arith,
      field_both (escape bytes) (34 ∷ []) (field_each escape_byte escape_field bytes)
          (written_out (34 ∷ []) refl),
    )

truth_field : (b : Bool) → IsField (truth_text b)
truth_field true = written_out (codes "true") refl
truth_field false = written_out (codes "false") refl

-- a member, and what follows it
member_field : (k : Text) (value rest : List ℕ) → IsField value → IsField rest
    → IsField (quoted_text k ++ codes ":" ++ value ++ rest)
member_field k value rest h g =
    field_both (quoted_text k ++ codes ":" ++ value) rest
    (field_both (quoted_text k ++ codes ":") value
    (field_both (quoted_text k) (codes ":") (quoted_field k) (written_out (codes ":") refl)) h) g

mutual
  pub value_field : (v : Json) → HasJsonNumbers v → IsField (value_text v)
  value_field null h = written_out (codes "null") refl
  value_field (truth b) h = truth_field b
  value_field (json.number x) h = number_field x h
  value_field (text s) h = quoted_field s
  value_field (array vs) h =
      (omega arith, field_both (items_text vs) (codes "]") (items_field vs h) (written_out (codes "]") refl))
  value_field (object ms) h = (
    omega arith,
    field_both (members_text ms) (codes "}") (members_field ms h) (written_out (codes "}") refl),
  )

  items_field : (vs : Items) → AllNumbersOfItems IsJsonNumber vs → IsField (items_text vs)
  items_field no_items h = tt
  items_field (add_item v vs) h =
      field_both (value_text v) (further_items vs) (value_field v h.0) (further_items_field vs h.1)

  further_items_field : (vs : Items) → AllNumbersOfItems IsJsonNumber vs → IsField (further_items vs)
  further_items_field no_items h = tt
  further_items_field (add_item v vs) h = (
    omega arith,
    field_both (value_text v) (further_items vs) (value_field v h.0) (further_items_field vs h.1),
  )

  members_field : (ms : Members) → AllNumbersOfMembers IsJsonNumber ms → IsField (members_text ms)
  members_field no_members h = tt
  members_field (add_member k v ms) h =
      member_field k (value_text v) (further_members ms) (value_field v h.0) (further_members_field ms h.1)

  further_members_field : (ms : Members) → AllNumbersOfMembers IsJsonNumber ms
      → IsField (further_members ms)
  further_members_field no_members h = tt
  further_members_field (add_member k v ms) h = (
    omega arith,
    member_field k (value_text v) (further_members ms) (value_field v h.0) (further_members_field ms h.1),
  )

-- paths, by the escapes of RFC 9535

hex_high : (d : ℕ) → 32 ≤ hex_digit d
hex_high d = grind (arith, nat_tests)

escaped_field : (c : ℕ) → IsField (escaped c)
escaped_field c =
    either IsField (c == 39) _ _ (λ e. written_out (codes "\\'") refl) (λ e.
    either IsField (c == 92) _ _ (λ e. written_out (codes "\\\\") refl) (λ e.
    either IsField (c == 8) _ _ (λ e. written_out (codes "\\b") refl) (λ e.
    either IsField (c == 9) _ _ (λ e. written_out (codes "\\t") refl) (λ e.
    either IsField (c == 10) _ _ (λ e. written_out (codes "\\n") refl) (λ e.
    either IsField (c == 12) _ _ (λ e. written_out (codes "\\f") refl) (λ e.
    either IsField (c == 13) _ _ (λ e. written_out (codes "\\r") refl) (λ e.
    either IsField (nat_lt c 32) _ _
    (λ e. field_both (codes "\\u00") (hex_digit (c / 16) ∷ hex_digit (c % 16) ∷ [])
    (written_out (codes "\\u00") refl) (hex_high (c / 16), (hex_high (c % 16), tt)))
    (λ e. (ltb-false c 32 e, tt)))))))))

step_field : (s : Step) → IsField (step_text s)
step_field (name k) =
    field_both (codes "['") (flat_map escaped k ++ codes "']") (written_out (codes "['") refl)
    (field_both (flat_map escaped k) (codes "']") (field_each escaped escaped_field k)
    (written_out (codes "']") refl))
step_field (index i) =
    field_both (codes "[") (decimal i ++ codes "]") (written_out (codes "[") refl)
    (field_both (decimal i) (codes "]") (decimal_field i) (written_out (codes "]") refl))

steps_field : (l : Location) → IsField (flat_map step_text l)
steps_field [] = tt
steps_field (s ∷ l) = field_both (step_text s) (flat_map step_text l) (step_field s) (steps_field l)

-- the UTF-8 of a character that is no control character
encode_field : (c : ℕ) → 32 ≤ c → IsField (encode c)
unfolding encode
encode_field c h =
    either IsField (nat_lt c 128) _ _ (λ e. (h, tt)) (λ e.
    either IsField (nat_lt c 2048) _ _ (λ e. (omega arith, (omega arith, tt))) (λ e.
    either IsField (nat_lt c 65536) _ _ (λ e. (omega arith, (omega arith, (omega arith, tt))))
    (λ e. (omega arith, (omega arith, (omega arith, (omega arith, tt)))))))

encoded_field : (t : List ℕ) → IsField t → IsField (encode_utf8_all t)
encoded_field [] h = tt
encoded_field (c ∷ t) h = field_both (encode c) (encode_utf8_all t) (encode_field c h.0) (encoded_field t h.1)

pub path_field : (l : Location) → IsField (encode_utf8_all (path_text l))
path_field l = encoded_field (path_text l) (omega arith, steps_field l)

-- lines

pub node_fields : (number : ℕ) (n : Node) → HasJsonNumbers n.value → HasThreeFields (node_line number n)
node_fields number n h =
    three_fields (decimal number) (encode_utf8_all (path_text n.location)) (value_text n.value)
    (decimal_field number) (path_field n.location) (value_field n.value h)

kind_field : (f : DocFault) → IsField (fault_words f)
kind_field LongLine = written_out (codes "long line") refl
kind_field Unreadable = written_out (codes "unreadable") refl
kind_field NotWhole = written_out (codes "not whole") refl
kind_field LongNumber = written_out (codes "long number") refl
kind_field LongArray = written_out (codes "long array") refl
kind_field Memory = written_out (codes "memory") refl

pub fault_fields : (number : ℕ) (f : DocFault) → HasThreeFields (fault_line number f)
fault_fields number f =
    three_fields (decimal number) (33 ∷ []) (fault_words f) (decimal_field number)
    (written_out (33 ∷ []) refl) (kind_field f)

-- lines one after another

pub fields_both : (a b : List ℕ) → AreLinesOfThree a → AreLinesOfThree b → AreLinesOfThree (a ++ b)
fields_both a b h g = (
  h.0 ++ g.0,
  fields_all h.0 g.0 h.1 g.1,
  concat_both h.0 g.0 ∙ ap₂ (λ (x y : List ℕ). x ++ y) h.2 g.2,
)
  where
    fields_all : (xs ys : List (List ℕ)) → AllByRecursion HasThreeFields xs
        → AllByRecursion HasThreeFields ys → AllByRecursion HasThreeFields (xs ++ ys)
    fields_all [] ys p q = q
    fields_all (x ∷ xs) ys p q = (p.0, fields_all xs ys p.1 q)

    concat_both : (xs ys : List (List ℕ)) → concat (xs ++ ys) ≡ concat xs ++ concat ys
    concat_both [] ys = refl
    concat_both (x ∷ xs) ys = ap (λ (l : List ℕ). x ++ l) (concat_both xs ys)
        ∙ sym (append_assoc x (concat xs) (concat ys))

pub fields_one : (line : List ℕ) → HasThreeFields line → AreLinesOfThree line
fields_one line h = (line ∷ [], (h, tt), append-nil line)

pub fields_none : AreLinesOfThree []
fields_none = ([], tt, refl)

-- the lines of several nodes, and how many they are

pub nodes_fields : (number : ℕ) (ns : List Node) → NodesHaveJsonNumbers ns
    → AreLinesOfThree (flat_map (node_line number) ns)
nodes_fields number [] h = fields_none
nodes_fields number (n ∷ ns) h =
    fields_both (node_line number n) (flat_map (node_line number) ns)
    (fields_one (node_line number n) (node_fields number n h.0)) (nodes_fields number ns h.1)

pub nodes_counted : (number : ℕ) (ns : List Node) → NodesHaveJsonNumbers ns
    → times 10 (flat_map (node_line number) ns) ≡ length ns
nodes_counted number [] h = times_none 10
nodes_counted number (n ∷ ns) h = omega (
  arith,
  times_both 10 (node_line number n) (flat_map (node_line number) ns),
  (node_fields number n h.0).line_feeds,
  nodes_counted number ns h.1,
)

-- lines of one field: of values and of texts

one_line : (field : List ℕ) → IsField field → IsOneLine (field ++ 10 ∷ [])
one_line field h = record {
  line_feeds = omega (
    arith,
    times_both 10 field (10 ∷ []),
    field_lacks 10 field (omega arith) h,
    times_first 10 10 [],
    times_none 10,
  );
  ends = (field, refl);
}

pub value_one_line : (n : Node) → HasJsonNumbers n.value → IsOneLine (value_line n)
value_one_line n h = one_line (value_text n.value) (value_field n.value h)

unquoted_byte_field : (x : ℕ) → IsField (unquoted_byte x)
unquoted_byte_field x =
    either IsField (x == 34) (34 ∷ []) (escape_byte x) (λ _. written_out (34 ∷ []) refl) (λ _. escape_field x)

pub unquoted_field : (v : Json) → HasJsonNumbers v → IsField (unquoted_text v)
unquoted_field (text s) h = field_each unquoted_byte unquoted_byte_field (encode_utf8_all s)
unquoted_field null h = value_field null h
unquoted_field (truth b) h = value_field (truth b) h
unquoted_field (json.number x) h = value_field (json.number x) h
unquoted_field (array vs) h = value_field (array vs) h
unquoted_field (object ms) h = value_field (object ms) h

pub text_one_line : (n : Node) → HasJsonNumbers n.value → IsOneLine (text_line n)
text_one_line n h = one_line (unquoted_text n.value) (unquoted_field n.value h)

-- and as many as nodes
module _ (line : Node → List ℕ) (one : (n : Node) → HasJsonNumbers n.value → IsOneLine (line n)) where
  pub lines_counted : (ns : List Node) → NodesHaveJsonNumbers ns → times 10 (flat_map line ns) ≡ length ns
  lines_counted [] h = times_none 10
  lines_counted (n ∷ ns) h = omega (
    arith,
    times_both 10 (line n) (flat_map line ns),
    (one n h.0).line_feeds,
    lines_counted ns h.1,
  )
