-- A line of the input is written where the form of output lines has one.
use Rattle.std.proofs.Common.{◌≡◌, ◌≢◌, ℕ, List, [], ◌∷◌, ◌++◌, refl, ap, ◌↔◌, length, length-append, arith}
use Rattle.std.proofs.Common.{sym, ◌∙◌, append_assoc, decimal, encode_utf8_all, flat_map}
use Rattle.jp_doc.specs.Lines.{Line}
use Rattle.jp_doc.specs.Location.{Node}
use Rattle.jp_node.specs.Path.{path_text}
use Rattle.jp_output.specs.OutputForm.{node_lines, input_lines}
use Rattle.jp_output.specs.OutputLine.{node_line, value_text}

not_empty : (front : List ℕ) (b : ℕ) (back : List ℕ) → front ++ b ∷ back ≢ []
not_empty front b back e =
    let long = length-append front (b ∷ back) in
    let none = ap (λ (xs : List ℕ). length xs) e in absurd (omega (arith, long, none))

pub line_of_some : (l : Line) (ns : List Node) → ns ≢ [] → input_lines.of_document l ns ≡ l.1 ++ 10 ∷ []
line_of_some l [] h = absurd (h refl)
line_of_some l (n ∷ ns) h = refl

pub same_lines : (l : Line) (ns : List Node)
    → (input_lines.of_document l ns ≡ []) ↔ (node_lines.of_document l ns ≡ [])
same_lines l [] = (λ _. refl, λ _. refl)
same_lines l (n ∷ ns) =
    let fields = encode_utf8_all (path_text n.location) ++ (9 ∷ value_text n.value ++ 10 ∷ []) in
    let rest = flat_map (node_line l.0) ns in (
      λ e. absurd (not_empty l.1 10 [] e),
      λ e. absurd (not_empty (decimal l.0) 9 (fields ++ rest)
          (sym (append_assoc (decimal l.0) (9 ∷ fields) rest) ∙ e)),
    )
