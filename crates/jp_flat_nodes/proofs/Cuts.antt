-- Cuts of a line: a byte, blanks, a plain text, digits.
use Rattle.std.proofs.Common.{◌≡◌, ℕ, zero, suc, ◌+◌, ◌-◌, ◌<◌, ◌≤◌, ◌⊎◌, inl, inr, Bool, true, false}
use Rattle.std.proofs.Common.{◌||◌, ◌==◌, cond, List, [], ◌∷◌, ◌++◌, length, take, drop, get_or, refl, sym}
use Rattle.std.proofs.Common.{Option, Some, None, ap, ap₂, ◌∙◌, arith, append_assoc}
use Rattle.std.proofs.Common.{eqb-true, ltb-false}
use Rattle.std.proofs.lemmas.Bool.{or_parts, not-true, eqb-false}
use Rattle.std.proofs.lemmas.List.{drop_more, drop-drop, take-append-drop}
use Rattle.std.specs.List.{prefix_len}
use Rattle.json.specs.Print.{escape, quoted}
use Rattle.json.specs.Run.{is_stop, is_plain}
use Rattle.json.specs.Lex as lexer
use Rattle.json.specs.Lex.{lex, lex_byte, in_string}
use Rattle.json.specs.Spaced.{IsGap}
use Rattle.json.specs.Text.{content, plain, prepend}
use Rattle.json.specs.Word.{is_operator, is_space}
use Rattle.json.proofs.Printed.Strings.{escape_byte_plain}
use Rattle.jp_flat_nodes.specs.Nodes.{piece}
use Rattle.jp_flat_nodes.specs.inner.Reads.{is_blank, IsPlainText, Stands}

pub cut : (line : List ℕ) (from end : ℕ) → from ≤ end
    → drop from line ≡ piece line from (end - from) ++ drop end line
cut line from end h =
    let back : from + (end - from) ≡ end = omega arith in
    sym (take-append-drop (end - from) (drop from line))
    ∙ ap (λ l. piece line from (end - from) ++ l) (drop-drop (end - from) from line
    ∙ ap (λ i. drop i line) back)

pub byte_then : (line : List ℕ) (at byte : ℕ) → at < length line → get_or line at 0 ≡ byte
    → drop at line ≡ byte ∷ drop (at + 1) line
byte_then line at byte h e = drop_more line at 0 h ∙ ap (λ x. x ∷ drop (at + 1) line) e

pub first_passes : (b : Bool) (n m : ℕ) → suc m ≤ cond b (1 + n) 0 → (b ≡ true) × (m ≤ n)
first_passes true n m h = (refl, omega arith)
first_passes false n m h = absurd (omega arith)

-- ---- blanks

blank_is : (x : ℕ) → is_blank x ≡ true → (x ≡ 32) ⊎ (x ≡ 10)
blank_is x h = go (x == 32) refl
  where
    go : (b : Bool) → (x == 32) ≡ b → (x ≡ 32) ⊎ (x ≡ 10)
    go true e = inl (eqb-true x 32 e)
    go false e = inr (eqb-true x 10 (ap (λ b. b || (x == 10)) (sym e) ∙ h))

blanks_are : (xs : List ℕ) (n : ℕ) → n ≤ prefix_len is_blank xs → IsGap (take n xs)
blanks_are xs zero h = tt
blanks_are [] (suc n) h = tt
blanks_are (x ∷ xs) (suc n) h =
    let first = first_passes (is_blank x) (prefix_len is_blank xs) n h in
    (blank_is x first.0, blanks_are xs n first.1)

-- the blanks that stand between two places
pub record Blanks (line : List ℕ) (from end : ℕ) : Type 0 where
  pub gap : List ℕ
  pub is : IsGap gap
  pub text : drop from line ≡ gap ++ drop end line
  pub later : from ≤ end

pub blanks : (line : List ℕ) (from end : ℕ) → end ≡ from + prefix_len is_blank (drop from line)
    → Blanks line from end
blanks line from end e = record {
  gap = piece line from (end - from);
  is = blanks_are (drop from line) (end - from) (omega arith);
  text = cut line from end (omega arith);
  later = omega arith;
}

-- ---- plain texts

-- plain bytes stand for themselves
plain_stands : (xs : List ℕ) (n : ℕ) → n ≤ prefix_len is_plain xs → escape (take n xs) ≡ take n xs
plain_stands xs zero h = refl
plain_stands [] (suc n) h = refl
plain_stands (x ∷ xs) (suc n) h =
    let first = first_passes (is_plain x) (prefix_len is_plain xs) n h in
    let none = or_parts ((x == 34) || (x == 92)) _ (not-true (is_stop x) first.0) in
    let tests = or_parts (x == 34) _ none.0 in
    ap₂ (λ a b. a ++ b) (escape_byte_plain x (eqb-false x 34 tests.0) (eqb-false x 92 tests.1)
    (ltb-false x 32 none.1)) (plain_stands xs n first.1)

-- ---- and are read so

in_text : (q b o s : Bool) (x : ℕ) (r : List ℕ) → q ≡ false → b ≡ false
    → lex_byte in_string (cond q lexer.quote (cond b lexer.backslash (cond o
    lexer.operator (cond s lexer.space lexer.other)))) x r
    (λ m. lex m r) ≡ lex in_string r
in_text true b o s x r h k = absurd (cc)
in_text false true o s x r h k = absurd (cc)
in_text false false true s x r h k = refl
in_text false false false true x r h k = refl
in_text false false false false x r h k = refl

pub plain_passed : (x : ℕ) (r : List ℕ) → is_plain x ≡ true → lex in_string (x ∷ r) ≡ lex in_string r
unfolding lex
plain_passed x r h =
    let none = or_parts ((x == 34) || (x == 92)) _ (not-true (is_stop x) h) in
    let tests = or_parts (x == 34) _ none.0 in
    in_text (x == 34) (x == 92) (is_operator x) (is_space x) x r tests.0 tests.1

plain_means : (x : ℕ) (r : List ℕ) → is_plain x ≡ true
    → content plain (x ∷ r) ≡ prepend (x ∷ []) (content plain r)
unfolding content
plain_means x r h =
    let none = or_parts ((x == 34) || (x == 92)) _ (not-true (is_stop x) h) in
    let tests = or_parts (x == 34) _ none.0 in
    rw (tests.0, tests.1, none.1) refl

prepend_twice : (a b : List ℕ) (r : Option (List ℕ)) → prepend a (prepend b r) ≡ prepend (a ++ b) r
prepend_twice a b None = refl
prepend_twice a b (Some s) = ap Some (sym (append_assoc a b s))

prepend_none : (r : Option (List ℕ)) → r ≡ prepend [] r
prepend_none None = refl
prepend_none (Some s) = refl

pub stands_both : (a b s t : List ℕ) → Stands a s → Stands b t → Stands (a ++ b) (s ++ t)
stands_both a b s t h k = record {
  means = λ r. ap (content plain) (append_assoc a b r) ∙ h.means (b ++ r) ∙ ap (prepend s) (k.means r)
      ∙ prepend_twice s t (content plain r);
  passed = λ r. ap (lex in_string) (append_assoc a b r) ∙ h.passed (b ++ r) ∙ k.passed r;
}

pub nothing_stands : Stands [] []
nothing_stands = record { means = λ r. prepend_none (content plain r); passed = λ r. refl }

plain_one : (x : ℕ) → is_plain x ≡ true → Stands (x ∷ []) (x ∷ [])
plain_one x h = record { means = λ r. plain_means x r h; passed = λ r. plain_passed x r h }

pub run_stands : (xs : List ℕ) (n : ℕ) → n ≤ prefix_len is_plain xs → Stands (take n xs) (take n xs)
run_stands xs zero h = nothing_stands
run_stands [] (suc n) h = nothing_stands
run_stands (x ∷ xs) (suc n) h =
    let first = first_passes (is_plain x) (prefix_len is_plain xs) n h in
    stands_both (x ∷ []) (take n xs) (x ∷ []) (take n xs) (plain_one x first.0) (run_stands xs n first.1)

pub plain_text : (line : List ℕ) (from stop : ℕ) → from ≤ length line
    → stop ≡ from + prefix_len is_plain (drop from line) → stop < length line → get_or line stop 0 ≡ 34
    → IsPlainText line from stop
plain_text line from stop within is inside quote = record {
  ordered = omega arith;
  inside = inside;
  plain = plain_stands (drop from line) (stop - from) (omega arith);
  stands = run_stands (drop from line) (stop - from) (omega arith);
  text = cut line from stop (omega arith)
      ∙ ap (λ l. piece line from (stop - from) ++ l) (byte_then line stop 34 inside quote);
}

-- between its quotes
pub quoted_text : (line : List ℕ) (at stop : ℕ) → at < length line → get_or line at 0 ≡ 34
    → IsPlainText line (at + 1) stop
    → drop at line ≡ quoted (piece line (at + 1) (stop - (at + 1))) ++ drop (stop + 1) line
quoted_text line at stop h quote p =
    let s = piece line (at + 1) (stop - (at + 1)) in
    byte_then line at 34 h quote
    ∙ ap (λ l. 34 ∷ l) (p.text ∙ ap (λ l. l ++ (34 ∷ drop (stop + 1) line)) (sym p.plain)
    ∙ sym (append_assoc (escape s) (34 ∷ []) (drop (stop + 1) line)))
