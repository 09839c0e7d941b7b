-- What is between quotes so is a literal, which is read up to its end, and one line.
use Rattle.std.proofs.Common.{◌≡◌, ℕ, ◌≤◌, ◌/◌, ◌%◌, [], ◌∷◌, ◌++◌, refl, sym, ap, ◌∙◌, append_assoc, arith}
use Rattle.std.proofs.Common.{append-nil, codes, Some, ap₂, subst, false, ◌==◌, IsTrue}
use Rattle.std.proofs.lemmas.Bool.Decides.{nat_tests}
use Rattle.std.proofs.lemmas.List.{append_cancel_right}
use Rattle.std.proofs.lemmas.Option.{same_Some}
use Rattle.std.proofs.lemmas.Grind.{flat_map-append}
use Rattle.std.specs.List.{flat_map, AllByRecursion}
use Rattle.std.specs.Str.{chars}
use Rattle.jp_doc.specs.Location.{name}
use Rattle.jp_tree.specs.Tree as tree
use Rattle.jp_tree.specs.Tree.{Text}
use Rattle.jp_tree.specs.Characters.{is_scalar, is_quote, is_positive_digit}
use Rattle.jp_tree.specs.Numbers.{number, whole_int, zero_int, positive_int, negative_int, minus_zero}
use Rattle.jp_tree.specs.Parts.{Each, Star}
use Rattle.jp_tree.specs.Spelling.{LiteralIs, text_literal, number_literal, true_literal, false_literal}
use Rattle.jp_tree.specs.Spelling.{null_literal}
use Rattle.jp_tree.specs.Strings.{IsString, Piece, quoted}
use Rattle.jp_tokens.specs.Reading.{literal_at, string_at}
use Rattle.jp_tokens.proofs.LeavesRead.{literal_whole, string_whole}
use Rattle.jp_node.specs.Path.{escaped, hex_digit, step_text}
use Rattle.jp_quote.specs.Quoted.{quoted_text}
use Rattle.jp_quote.proofs.Escapes.{by_character, control_text, name_pieces}

pub quoted_string : (t : Text) → Each is_scalar t → IsString (quoted_text t) t
quoted_string t h = quoted 39 (flat_map escaped t) t refl (name_pieces t h)

pub quoted_literal : (t : Text) → Each is_scalar t → LiteralIs (quoted_text t) (tree.text t)
quoted_literal t h = text_literal (quoted_text t) t (quoted_string t h)

-- it is read up to its end, whatever stands behind it
quoted_read : (t rest : Text) → Each is_scalar t
    → literal_at (quoted_text t ++ rest) ≡ Some (tree.text t, rest)
unfolding literal_at
quoted_read t rest h = rw (
  append_assoc (flat_map escaped t) (39 ∷ []) rest,
  string_whole 39 (flat_map escaped t) t rest refl (name_pieces t h),
) refl

-- no other literal stands in front of the same text
other_head : (c : ℕ) (t u : Text) → (c == 39) ≡ false → 39 ∷ t ≡ c ∷ u → ⊥
other_head c t u other e =
    let is : 39 ≡ c = cc in
    let bad : (39 == 39) ≡ false = subst (λ (d : ℕ). (d == 39) ≡ false) (sym is) other in
    absurd cc

digit_head : (c : ℕ) → IsTrue (is_positive_digit c) → (c == 39) ≡ false
digit_head c d = grind (arith, nat_tests)

same_front : (quote : ℕ) (w value t behind rest : Text) → IsTrue (is_quote quote)
    → Star (Piece quote) w value → Each is_scalar t
    → quoted_text t ++ behind ≡ (quote ∷ w ++ quote ∷ []) ++ rest → quote ∷ w ++ quote ∷ [] ≡ quoted_text t
same_front quote w value t behind rest q ps h e =
    let ours = append_assoc (flat_map escaped t) (39 ∷ []) behind in
    let theirs = append_assoc w (quote ∷ []) rest in
    let is : 39 ≡ quote = cc in
    let tails : flat_map escaped t ++ 39 ∷ behind ≡ w ++ quote ∷ rest = cc in
    let reads = ap₂ string_at is tails in
    let found : Some (t, behind) ≡ Some (value, rest) =
    sym (string_whole 39 (flat_map escaped t) t behind refl (name_pieces t h)) ∙ reads
    ∙ string_whole quote w value rest q ps in
    let ends : behind ≡ rest = ap (λ (r : Text × Text). r.1) (same_Some (t, behind) (value, rest) found) in
    append_cancel_right (quote ∷ w ++ quote ∷ []) (quoted_text t) behind
    (ap (λ (r : Text). (quote ∷ w ++ quote ∷ []) ++ r) ends ∙ sym e)

pub quoted_alone : (t behind front rest : Text) (x : tree.Literal) → Each is_scalar t → LiteralIs front x
    → quoted_text t ++ behind ≡ front ++ rest → front ≡ quoted_text t
quoted_alone t behind f rest x h (text_literal front v (quoted quote w value q ps)) e =
    same_front quote w value t behind rest q ps h e
quoted_alone t behind f rest x h (number_literal n (number r s u (whole_int v zero_int) y z)) e =
    absurd (other_head 48 _ _ refl e)
quoted_alone t behind f rest x h (number_literal n (number r s u (whole_int v (positive_int c d p k)) y z))
    e =
    absurd (other_head c _ _ (digit_head c p) e)
quoted_alone t behind f rest x h (number_literal n (number r s u (whole_int v (negative_int c d p k)) y z))
    e =
    absurd (other_head 45 _ _ refl e)
quoted_alone t behind f rest x h (number_literal n (number r s u minus_zero y z)) e =
    absurd (other_head 45 _ _ refl e)
quoted_alone t behind f rest x h true_literal e = absurd (other_head 116 _ _ refl e)
quoted_alone t behind f rest x h false_literal e = absurd (other_head 102 _ _ refl e)
quoted_alone t behind f rest x h null_literal e = absurd (other_head 110 _ _ refl e)

pub quoted_only : (t : Text) (x : tree.Literal) → Each is_scalar t → LiteralIs (quoted_text t) x
    → x ≡ tree.text t
quoted_only t x h p =
    let found = literal_whole (quoted_text t) x [] p refl in
    ap (λ (r : tree.Literal × Text). r.0) (same_Some (x, []) (tree.text t, [])
    (sym found ∙ quoted_read t [] h))

-- ---- no control character

abbrev pub IsLine : Text → Type 0
IsLine t = AllByRecursion (λ c. 32 ≤ c) t

both_lines : (s t : Text) → IsLine s → IsLine t → IsLine (s ++ t)
both_lines [] t h g = g
both_lines (c ∷ s) t h g = (h.0, both_lines s t h.1 g)

hex_digit_shown : (d : ℕ) → 32 ≤ hex_digit d
hex_digit_shown d = grind (arith, nat_tests)

control_line : (c : ℕ) → IsLine (control_text c)
control_line c = both_lines (codes "\\u00") (hex_digit (c / 16) ∷ hex_digit (c % 16) ∷ [])
    (omega arith, (omega arith, (omega arith, (omega arith, tt))))
    (hex_digit_shown (c / 16), (hex_digit_shown (c % 16), tt))

escape_line : (letter : ℕ) → 32 ≤ letter → IsLine (92 ∷ letter ∷ [])
escape_line letter h = (omega arith, (h, tt))

escaped_line : (c : ℕ) → IsLine (escaped c)
escaped_line c = by_character IsLine c
    (λ h. escape_line 39 (omega arith)) (λ h. escape_line 92 (omega arith))
    (λ h. escape_line 98 (omega arith)) (λ h. escape_line 116 (omega arith))
    (λ h. escape_line 110 (omega arith)) (λ h. escape_line 102 (omega arith))
    (λ h. escape_line 114 (omega arith))
    (λ h. control_line c)
    (λ q b h. (h, tt))

text_line : (t : Text) → IsLine (flat_map escaped t)
text_line [] = tt
text_line (c ∷ t) = both_lines (escaped c) (flat_map escaped t) (escaped_line c) (text_line t)

pub quoted_line : (t : Text) → IsLine (quoted_text t)
quoted_line t = (omega arith, both_lines (flat_map escaped t) (39 ∷ []) (text_line t) (omega arith, tt))

-- ---- how it is written

pub begun : (old new : Text) → old ≡ [] → chars new ≡ chars old ++ 39 ∷ [] → chars new ≡ 39 ∷ []
unfolding chars
begun old new e h = h ∙ ap (λ (bs : Text). chars bs ++ 39 ∷ []) e

pub one_more : (front t : Text) (c : ℕ) (new : Text) → front ≡ 39 ∷ flat_map escaped t
    → new ≡ front ++ escaped c → new ≡ 39 ∷ flat_map escaped (t ++ c ∷ [])
one_more front t c new e h = h ∙ ap (λ (u : Text). u ++ escaped c) e
    ∙ ap (λ (u : Text). 39 ∷ flat_map escaped t ++ u) (sym (append-nil (escaped c)))
    ∙ ap (λ (u : Text). 39 ∷ u) (sym (flat_map-append escaped t (c ∷ [])))

pub closed : (front t all new : Text) → front ≡ 39 ∷ flat_map escaped t → t ≡ all → new ≡ front ++ 39 ∷ []
    → new ≡ quoted_text all
closed front t all new e is h = h ∙ ap (λ (u : Text). u ++ 39 ∷ []) (e
    ∙ ap (λ (u : Text). 39 ∷ flat_map escaped u) is)

-- ---- names in paths

pub quoted_in_paths : (t : Text) → step_text (name t) ≡ codes "[" ++ (quoted_text t ++ codes "]")
quoted_in_paths t = ap (λ (u : Text). 91 ∷ 39 ∷ u)
    (sym (append_assoc (flat_map escaped t) (39 ∷ []) (93 ∷ [])))
