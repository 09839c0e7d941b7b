-- The first and the third fields of output lines.
use Rattle.std.proofs.Common.{◌≡◌, ℕ, ◌+◌, ◌<◌, ◌==◌, not, false, cond, List, [], ◌∷◌, ◌++◌, refl}
use Rattle.std.proofs.Common.{ap, ◌∙◌, arith, append_assoc, length, take, drop, decimal, flat_map}
use Rattle.std.proofs.Common.{encode_utf8_all, if◌then◌else◌, map}
use Rattle.std.proofs.lemmas.Bool.{ne_eqb}
use Rattle.std.proofs.Math.Seq.{drop-append-add, take-append_seam}
use Rattle.std.proofs.lemmas.List.{take_all}
use Rattle.std.specs.List.{AllByRecursion, after_first, before_first, position_or_len}
use Rattle.jp_doc.specs.Lines.{all_lines, onto_first}
use Rattle.jp_doc.specs.Location.{Node}
use Rattle.jp_node.specs.Path.{path_text}
use Rattle.jp_output.specs.Fields.{NodesHaveJsonNumbers, is_tab, third_field, third_fields}
use Rattle.jp_output.specs.NumberedLines.{first_field, first_fields}
use Rattle.jp_output.specs.OutputLine.{node_line, value_line, value_text}
use Rattle.jp_output.proofs.FieldBytes.{IsField}
use Rattle.jp_output.proofs.Fields.{decimal_field, path_field, value_field}

-- none of the bytes is this one
abbrev pub Lacks : ℕ → List ℕ → Type 0
Lacks b xs = AllByRecursion (λ c. (c == b) ≡ false) xs

lacks_both : (b : ℕ) (xs ys : List ℕ) → Lacks b xs → Lacks b ys → Lacks b (xs ++ ys)
lacks_both b [] ys h g = g
lacks_both b (x ∷ xs) ys h g = (h.0, lacks_both b xs ys h.1 g)

pub field_without : (b : ℕ) (xs : List ℕ) → b < 32 → IsField xs → Lacks b xs
field_without b [] low h = tt
field_without b (x ∷ xs) low h = (ne_eqb x b (λ e. omega (arith, e, h.0)), field_without b xs low h.1)

-- the first line, and the first field

pub first_line : (front rest : List ℕ) → Lacks 10 front → all_lines (front ++ 10 ∷ rest) ≡ front ∷ all_lines rest
first_line [] rest h = refl
first_line (b ∷ bs) rest h =
    let more = all_lines (bs ++ 10 ∷ rest) in
    ap (λ t. if t then [] ∷ more else onto_first b more) h.0 ∙ ap (onto_first b) (first_line bs rest h.1)

tab_behind : (front rest : List ℕ) → Lacks 9 front → position_or_len is_tab (front ++ 9 ∷ rest) ≡ length front
tab_behind [] rest h = refl
tab_behind (b ∷ bs) rest h =
    ap (λ t. cond (not t) (1 + position_or_len is_tab (bs ++ 9 ∷ rest)) 0) h.0
    ∙ omega (arith, tab_behind bs rest h.1)

no_tab : (xs : List ℕ) → Lacks 9 xs → position_or_len is_tab xs ≡ length xs
no_tab [] h = refl
no_tab (b ∷ bs) h =
    ap (λ t. cond (not t) (1 + position_or_len is_tab bs) 0) h.0 ∙ omega (arith, no_tab bs h.1)

after_tab : (front rest : List ℕ) → Lacks 9 front → after_first is_tab (front ++ 9 ∷ rest) ≡ rest
after_tab front rest h = ap (λ n. drop (n + 1) (front ++ 9 ∷ rest)) (tab_behind front rest h)
    ∙ drop-append-add front (9 ∷ rest) 1

module _ (x y z : List ℕ) (hx : IsField x) (hy : IsField y) (hz : IsField z) where
  abbrev front : List ℕ
  front = x ++ 9 ∷ (y ++ 9 ∷ z)

  third_is : third_field front ≡ z
  third_is =
      ap (λ l. before_first is_tab (after_first is_tab l))
      (after_tab x (y ++ 9 ∷ z) (field_without 9 x (omega arith) hx))
      ∙ ap (before_first is_tab) (after_tab y z (field_without 9 y (omega arith) hy))
      ∙ ap (λ n. take n z) (no_tab z (field_without 9 z (omega arith) hz))
      ∙ take_all (length z) z (omega arith)

  no_line_feed : Lacks 10 front
  no_line_feed =
      lacks_both 10 x (9 ∷ (y ++ 9 ∷ z)) (field_without 10 x (omega arith) hx) (
        refl,
        lacks_both 10 y (9 ∷ z) (field_without 10 y (omega arith) hy)
            (refl, field_without 10 z (omega arith) hz),
      )

  regroup : (rest : List ℕ) → (x ++ (9 ∷ y ++ (9 ∷ z ++ 10 ∷ []))) ++ rest ≡ front ++ 10 ∷ rest
  regroup rest = simp append_assoc

  third_more : (rest : List ℕ)
      → third_fields ((x ++ (9 ∷ y ++ (9 ∷ z ++ 10 ∷ []))) ++ rest) ≡ (z ++ 10 ∷ []) ++ third_fields rest
  third_more rest =
      ap third_fields (regroup rest)
      ∙ ap (λ (ls : List (List ℕ)). flat_map (λ (line : List ℕ). third_field line ++ 10 ∷ []) ls)
      (first_line front rest no_line_feed)
      ∙ ap (λ (t : List ℕ). (t ++ 10 ∷ []) ++ third_fields rest) third_is

  first_is : first_field front ≡ x
  first_is =
      ap (λ n. take n front) (tab_behind x (y ++ 9 ∷ z) (field_without 9 x (omega arith) hx))
      ∙ take-append_seam x (9 ∷ (y ++ 9 ∷ z))

  pub first_more : (rest : List ℕ)
      → first_fields ((x ++ (9 ∷ y ++ (9 ∷ z ++ 10 ∷ []))) ++ rest) ≡ x ∷ first_fields rest
  first_more rest =
      ap first_fields (regroup rest)
      ∙ ap (λ (ls : List (List ℕ)). map first_field ls) (first_line front rest no_line_feed)
      ∙ ap (λ (t : List ℕ). t ∷ first_fields rest) first_is

pub values_of_lines : (number : ℕ) (ns : List Node) → NodesHaveJsonNumbers ns
    → third_fields (flat_map (node_line number) ns) ≡ flat_map value_line ns
values_of_lines number [] h = refl
values_of_lines number (n ∷ ns) h =
    third_more (decimal number) (encode_utf8_all (path_text n.location)) (value_text n.value)
    (decimal_field number) (path_field n.location) (value_field n.value h.0)
    (flat_map (node_line number) ns)
    ∙ ap (λ (t : List ℕ). value_line n ++ t) (values_of_lines number ns h.1)
