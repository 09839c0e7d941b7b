-- The form of input lines has the lines whose numbers are first fields in the form of output lines.
use Rattle.std.proofs.Common.{◌≡◌, ◌≢◌, ℕ, ◌<◌, ◌≤◌, ◌^◌, Bool, true, false, ◌||◌, cond, List, [], ◌∷◌}
use Rattle.std.proofs.Common.{◌++◌, refl, sym, ap, ◌∙◌, arith, append_assoc, decimal, encode_utf8_all, map}
use Rattle.std.proofs.Common.{flat_map}
use Rattle.std.proofs.lemmas.Fmt.{decimal_injective}
use Rattle.std.proofs.lemmas.Slice.Eq.{bytes_eq-Decides}
use Rattle.std.specs.List.{AllByRecursion, filter}
use Rattle.std.specs.Str.{bytes_eq}
use Rattle.jp_doc.specs.Lines.{Line}
use Rattle.jp_doc.specs.Location.{Node}
use Rattle.jp_node.specs.Path.{path_text}
use Rattle.jp_output.specs.Fields.{NodesHaveJsonNumbers}
use Rattle.jp_output.specs.NumberedLines.{of_documents, lines_of_documents, AreNumberedAbove, first_fields}
use Rattle.jp_output.specs.NumberedLines.{is_numbered, lines_numbered}
use Rattle.jp_output.specs.OutputForm.{node_lines, input_lines}
use Rattle.jp_output.specs.OutputLine.{node_line, value_text}
use Rattle.jp_output.proofs.Fields.{decimal_field, path_field, value_field}
use Rattle.jp_output.proofs.ThirdFields.{first_more}

-- a number, for each node
abbrev fields_of : ℕ → List Node → List (List ℕ)
fields_of n ns = map (λ _. decimal n) ns

-- the first fields in the form of output lines
abbrev fields : List (Line × List Node) → List (List ℕ)
fields ds = first_fields (of_documents node_lines ds)

document_fields : (n : ℕ) (ns : List Node) (rest : List ℕ) → NodesHaveJsonNumbers ns
    → first_fields (flat_map (node_line n) ns ++ rest) ≡ fields_of n ns ++ first_fields rest
document_fields n [] rest h = refl
document_fields n (m ∷ ns) rest h =
    ap first_fields (append_assoc (node_line n m) (flat_map (node_line n) ns) rest)
    ∙ first_more (decimal n) (encode_utf8_all (path_text m.location)) (value_text m.value)
    (decimal_field n) (path_field m.location) (value_field m.value h.0) (flat_map (node_line n) ns ++ rest)
    ∙ ap (λ (t : List (List ℕ)). decimal n ∷ t) (document_fields n ns rest h.1)

-- another number is none of a document's fields

unless_true : (b : Bool) → (b ≡ true → ⊥) → b ≡ false
unless_true true h = absurd (h refl)
unless_true false h = refl

same_number : (n : ℕ) → bytes_eq (decimal n) (decimal n) ≡ true
same_number n = (bytes_eq-Decides (decimal n) (decimal n)).1 refl

other_number : (m n : ℕ) → m < 2 ^ 64 → n < 2 ^ 64 → m ≢ n → bytes_eq (decimal m) (decimal n) ≡ false
other_number m n g h other =
    unless_true (bytes_eq (decimal m) (decimal n))
    (λ e. other (decimal_injective m n g h ((bytes_eq-Decides (decimal m) (decimal n)).0 e)))

skipped : (l : Line) (n : ℕ) (ns : List Node) (rest : List (List ℕ)) → l.0 < 2 ^ 64 → n < 2 ^ 64 → l.0 ≢ n
    → is_numbered (fields_of n ns ++ rest) l ≡ is_numbered rest l
skipped l n [] rest g h other = refl
skipped l n (m ∷ ns) rest g h other =
    ap (λ b. b || is_numbered (fields_of n ns ++ rest) l) (other_number l.0 n g h other)
    ∙ skipped l n ns rest g h other

-- neither is one below them all

too_low : (l : Line) (n : ℕ) (ds : List (Line × List Node)) → l.0 ≤ n → l.0 < 2 ^ 64
    → AreNumberedAbove n (lines_of_documents ds) → AllByRecursion (λ d. NodesHaveJsonNumbers d.1) ds
    → is_numbered (fields ds) l ≡ false
too_low l n [] low fits h g = refl
too_low l n (d ∷ ds) low fits h g =
    let other : l.0 ≢ d.0.0 = λ e. absurd (omega (arith, e, h.0, low)) in
    let still : l.0 ≤ d.0.0 = omega (arith, h.0, low) in
    ap (λ (fs : List (List ℕ)). is_numbered fs l)
    (document_fields d.0.0 d.1 (of_documents node_lines ds) g.0)
    ∙ skipped l d.0.0 d.1 (fields ds) fits h.1 other ∙ too_low l d.0.0 ds still fits h.2 g.1

-- the further lines are those of the further documents

others : (n m : ℕ) (ns : List Node) (rest : List (List ℕ)) (ls : List Line) → n ≤ m → n < 2 ^ 64
    → AreNumberedAbove m ls
    → filter (is_numbered (fields_of n ns ++ rest)) ls ≡ filter (is_numbered rest) ls
others n m ns rest [] low fits h = refl
others n m ns rest (l ∷ ls) low fits h =
    let other : l.0 ≢ n = λ e. absurd (omega (arith, e, h.0, low)) in
    let still : n ≤ l.0 = omega (arith, h.0, low) in
    let all = filter (is_numbered (fields_of n ns ++ rest)) ls in
    ap (λ b. cond b (l ∷ all) all) (skipped l n ns rest h.1 fits other)
    ∙ ap (λ (t : List Line). cond (is_numbered rest l) (l ∷ t) t) (others n l.0 ns rest ls still fits h.2)

-- a line, and those behind it

abbrev put : List Line → List ℕ
put ls = flat_map (λ l. l.1 ++ 10 ∷ []) ls

pub lines_are : (n : ℕ) (ds : List (Line × List Node)) → AreNumberedAbove n (lines_of_documents ds)
    → AllByRecursion (λ d. NodesHaveJsonNumbers d.1) ds
    → of_documents input_lines ds ≡ lines_numbered (fields ds) (lines_of_documents ds)
lines_are n [] h g = refl
lines_are n ((l, []) ∷ ds) h g =
    let behind = filter (is_numbered (fields ds)) (lines_of_documents ds) in
    let none = too_low l l.0 ds (omega arith) h.1 h.2 g.1 in
    lines_are l.0 ds h.2 g.1 ∙ sym (ap (λ b. put (cond b (l ∷ behind) behind)) none)
lines_are n ((l, m ∷ ns) ∷ ds) h g =
    let all = fields_of l.0 (m ∷ ns) ++ fields ds in
    let behind = filter (is_numbered all) (lines_of_documents ds) in
    let same = ap (λ b. b || is_numbered (fields_of l.0 ns ++ fields ds) l) (same_number l.0) in
    let whole : fields ((l, m ∷ ns) ∷ ds) ≡ all =
    document_fields l.0 (m ∷ ns) (of_documents node_lines ds) g.0 in
    ap (λ (t : List ℕ). (l.1 ++ 10 ∷ []) ++ t) (lines_are l.0 ds h.2 g.1)
    ∙ sym (ap (λ (fs : List (List ℕ)). lines_numbered fs (l ∷ lines_of_documents ds)) whole
    ∙ ap (λ b. put (cond b (l ∷ behind) behind)) same
    ∙ ap (λ (t : List Line). (l.1 ++ 10 ∷ []) ++ put t)
    (others l.0 l.0 (m ∷ ns) (fields ds) (lines_of_documents ds) (omega arith) h.1 h.2))
