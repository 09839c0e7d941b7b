-- The bytes of a path of steps, and of a line.
use Rattle.std.proofs.Common.{◌≡◌, ℕ, suc, ◌+◌, ◌<◌, add-one, drop, length, get_or, map, List, [], ◌∷◌, ◌++◌}
use Rattle.std.proofs.Common.{ap, sym, ◌∙◌, append_assoc, decimal}
use Rattle.std.specs.Prelude.{encode_utf8_all}
use Rattle.std.specs.List.{flat_map}
use Rattle.std.proofs.lemmas.Str.{encodes-append}
use Rattle.std.proofs.Math.Seq.{drop-cons}
use Rattle.jp_doc.specs.Json.{Json}
use Rattle.jp_doc.specs.Location.{Location, step_of}
use Rattle.jp_doc.specs.declared.location.Step as code
use Rattle.jp_output.specs.OutputLine.{line_text, value_text}
use Rattle.jp_node.specs.Path.{step_text, path_text}

-- the bytes of steps of `src/`, one after another
abbrev pub steps_bytes : List code.Step → List ℕ
steps_bytes steps = encode_utf8_all (flat_map step_text (map step_of steps))

pub next_step : (steps : List code.Step) (i : ℕ) (s : code.Step) (out new total : List ℕ) → i < length steps
    → s ≡ get_or steps i s → out ++ steps_bytes (drop i steps) ≡ total
    → new ≡ out ++ encode_utf8_all (step_text (step_of s)) → new ++ steps_bytes (drop (i + 1) steps) ≡ total
next_step steps i s out new total h is e f =
    let cut : drop i steps ≡ get_or steps i s ∷ drop (suc i) steps = drop-cons steps i s h in
    rw (f, add-one i) (
    append_assoc out (encode_utf8_all (step_text (step_of s))) (steps_bytes (drop (suc i) steps))
    ∙ ap (λ ys. out ++ ys)
    (sym (encodes-append (step_text (step_of s)) (flat_map step_text (map step_of (drop (suc i) steps)))))
    ∙ ap (λ x. out ++ encode_utf8_all (step_text (step_of x) ++ flat_map step_text
    (map step_of (drop (suc i) steps)))) is
    ∙ ap (λ xs. out ++ steps_bytes xs) (sym cut)
    ∙ e)

pub line_appended : (old new text : List ℕ) (n : ℕ) (at : Location) (v : Json) → text ≡ value_text v
    → new ≡ old ++ (decimal n ++ (9 ∷ encode_utf8_all (path_text at) ++ (9 ∷ text ++ 10 ∷ [])))
    → new ≡ old ++ line_text n at v
line_appended old new text n at v t e = e
    ∙ ap (λ ys. old ++ (decimal n ++ (9 ∷ encode_utf8_all (path_text at) ++ (9 ∷ ys ++ 10 ∷ [])))) t
