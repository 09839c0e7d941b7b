-- Laws of lines.
use Rattle.std.proofs.Common.{◌≡◌, ℕ, Bool, true, false, not, ◌==◌, IsTrue, List, [], ◌∷◌, ◌++◌, refl, sym}
use Rattle.std.proofs.Common.{ap, ◌∙◌, eqb-true, if◌then◌else◌}
use Rattle.std.specs.List.{list_all}
use Rattle.jp_doc.specs.Lines.{all_lines, onto_first}
use Rattle.jp_doc.specs.Joined.{joined}

-- there is a first line
record Begins (lines : List (List ℕ)) : Type 0 where
  first : List ℕ
  others : List (List ℕ)
  is : lines ≡ first ∷ others

begins_onto : (b : ℕ) (lines : List (List ℕ)) → Begins (onto_first b lines)
begins_onto b [] = record { first = b ∷ []; others = []; is = refl }
begins_onto b (line ∷ lines) = record { first = b ∷ line; others = lines; is = refl }

begins_if : (t : Bool) (b : ℕ) (lines : List (List ℕ)) → Begins (if t then [] ∷ lines else onto_first b lines)
begins_if true b lines = record { first = []; others = lines; is = refl }
begins_if false b lines = begins_onto b lines

-- where there is a byte, there is a line
begins : (a : List ℕ) (c : ℕ) → Begins (all_lines (a ++ c ∷ []))
begins [] c = begins_if (c == 10) c []
begins (x ∷ xs) c = begins_if (x == 10) x (all_lines (xs ++ c ∷ []))

onto_append : (b : ℕ) (lines more : List (List ℕ)) → Begins lines → onto_first b (lines ++ more)
    ≡ onto_first b lines ++ more
onto_append b lines more h = rw h.is refl

append_if : (t : Bool) (b : ℕ) (lines more : List (List ℕ)) → Begins lines
    → (if t then [] ∷ (lines ++ more) else onto_first b (lines ++ more))
    ≡ (if t then [] ∷ lines else onto_first b lines) ++ more
append_if true b lines more h = refl
append_if false b lines more h = onto_append b lines more h

pub lines_of_both : (a b : List ℕ) → all_lines ((a ++ 10 ∷ []) ++ b) ≡ all_lines (a ++ 10 ∷ []) ++ all_lines b
lines_of_both [] b = refl
lines_of_both (x ∷ xs) b = rw (lines_of_both xs b) (append_if (x == 10) x (all_lines (xs ++ 10 ∷ []))
    (all_lines b) (begins xs 10))

-- no byte of the line is a line feed
abbrev pub is_feedless : List ℕ → Bool
is_feedless line = list_all (λ b. not (b == 10)) line

feedless_onto : (b : ℕ) (lines : List (List ℕ)) → (b == 10) ≡ false → list_all is_feedless lines ≡ true
    → list_all is_feedless (onto_first b lines) ≡ true
feedless_onto b [] e h = rw e refl
feedless_onto b (line ∷ lines) e h = rw e h

feedless_if : (t : Bool) (b : ℕ) (lines : List (List ℕ)) → (b == 10) ≡ t → list_all is_feedless lines ≡ true
    → list_all is_feedless (if t then [] ∷ lines else onto_first b lines) ≡ true
feedless_if true b lines e h = h
feedless_if false b lines e h = feedless_onto b lines e h

pub lines_feedless : (bytes : List ℕ) → IsTrue (list_all is_feedless (all_lines bytes))
lines_feedless [] = refl
lines_feedless (b ∷ bs) = feedless_if (b == 10) b (all_lines bs) refl (lines_feedless bs)

joined_onto : (b : ℕ) (lines : List (List ℕ)) → Begins lines → joined (onto_first b lines) ≡ b ∷ joined lines
joined_onto b lines h = rw h.is refl

joined_if : (t : Bool) (b : ℕ) (lines : List (List ℕ)) → (b == 10) ≡ t → Begins lines
    → joined (if t then [] ∷ lines else onto_first b lines) ≡ b ∷ joined lines
joined_if true b lines e h = ap (λ x. x ∷ joined lines) (sym (eqb-true b 10 e))
joined_if false b lines e h = joined_onto b lines h

pub joined_whole : (a : List ℕ) → joined (all_lines (a ++ 10 ∷ [])) ≡ a ++ 10 ∷ []
joined_whole [] = refl
joined_whole (x ∷ xs) = joined_if (x == 10) x (all_lines (xs ++ 10 ∷ [])) refl (begins xs 10)
    ∙ ap (λ l. x ∷ l) (joined_whole xs)

pub joined_open : (a : List ℕ) (c : ℕ) → (c == 10) ≡ false → joined (all_lines (a ++ c ∷ []))
    ≡ (a ++ c ∷ []) ++ 10 ∷ []
joined_open [] c e = rw e refl
joined_open (x ∷ xs) c e = joined_if (x == 10) x (all_lines (xs ++ c ∷ [])) refl (begins xs c)
    ∙ ap (λ l. x ∷ l) (joined_open xs c e)
