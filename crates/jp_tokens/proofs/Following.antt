-- What stands at the front of a text, and what may follow a side of a comparison.
use Rattle.std.proofs.Common.{◌≡◌, ℕ, ◌<◌, Bool, true, false, not, cond, ◌||◌, ◌==◌, eqb, [], ◌∷◌, ◌++◌}
use Rattle.std.proofs.Common.{length, refl, sym, ap, subst, ◌∙◌, arith, inl, inr}
use Rattle.std.specs.Prelude.{IsTrue}
use Rattle.std.specs.List.{AllByRecursion}
use Rattle.std.proofs.lemmas.Bool.{eqb-true, ne_eqb, or_cases, not-true, both_ways}
use Rattle.jp_tree.specs.Tree.{Text}
use Rattle.jp_tree.specs.Characters.{is_blank, is_digit, is_function_character}
use Rattle.jp_tree.specs.Numbers.{is_exponent_mark}
use Rattle.jp_tree.specs.Parts.{IsBlank}
use Rattle.jp_tokens.specs.Reading.{skip}
use Rattle.jp_tokens.proofs.Fronts.{past_each, starts}

-- a character of a class is none that is not of it
pub differs : (p : ℕ → Bool) (d : ℕ) → p d ≡ false → (c : ℕ) → p c ≡ true → eqb c d ≡ false
differs p d nd c h = ne_eqb c d (λ e. let k : p d ≡ true = subst (λ (n : ℕ). p n ≡ true) e h in absurd
    (both_ways (p d) nd k))

-- a class holds of no character that it does not hold of
pub never_at : (p : ℕ → Bool) (n : ℕ) → p n ≡ false → (c : ℕ) → IsTrue (p c) → (c == n) ≡ true → ⊥
never_at p n h c k e = let same = ap p (eqb-true c n e) in cc

-- it begins, and not with a blank
abbrev pub firm : Text → Bool
firm [] = false
firm (c ∷ s) = not (is_blank c)

pub skip_firm : (s u : Text) → firm s ≡ true → skip (s ++ u) ≡ s ++ u
skip_firm [] u h = absurd cc
skip_firm (c ∷ s) u h = let e = not-true (is_blank c) h in rw e refl

pub skip_behind : (b s u : Text) → IsBlank b → firm s ≡ true → skip (b ++ (s ++ u)) ≡ s ++ u
skip_behind b s u h f = past_each is_blank b (s ++ u) h ∙ skip_firm s u f

pub firm_some : (s : Text) → firm s ≡ true → 0 < length s
firm_some [] h = absurd cc
firm_some (c ∷ s) h = omega arith

pub firm_append : (s t : Text) → firm s ≡ true → firm (s ++ t) ≡ true
firm_append [] t h = absurd cc
firm_append (c ∷ s) t h = h

-- behind blanks the text is at its end, or goes on with a character of the class
abbrev pub Meets : (ℕ → Bool) → Text → Type 0
Meets p u = starts p (skip u) ≡ true

-- the text is at its end, or begins with no character of the class
abbrev pub Leaves : (ℕ → Bool) → Text → Type 0
Leaves p u = starts (λ c. not (p c)) u ≡ true

pub stops : (p q : ℕ → Bool) → ((c : ℕ) → is_blank c ≡ true → q c ≡ false)
    → ((c : ℕ) → p c ≡ true → q c ≡ false) → (u : Text) → Meets p u → Leaves q u
stops p q blank pass [] h = refl
stops p q blank pass (c ∷ u) h =
    (elim (is_blank c) as (λ b. is_blank c ≡ b → starts p (cond b (skip u) (c ∷ u)) ≡ true
    → not (q c) ≡ true) [
      | true ↦ λ e m. ap not (blank c e)
      | false ↦ λ e m. ap not (pass c m)
    ]) refl h

-- blanks in front change nothing
pub meets_behind : (p : ℕ → Bool) (b u : Text) → IsBlank b → Meets p u → Meets p (b ++ u)
meets_behind p b u h m = ap (starts p) (past_each is_blank b u h) ∙ m

pub meets_firm : (p : ℕ → Bool) (c : ℕ) (u : Text) → is_blank c ≡ false → p c ≡ true → Meets p (c ∷ u)
meets_firm p c u b h = rw b h

-- one of these characters
abbrev pub among : Text → ℕ → Bool
among [] c = false
among (d ∷ ds) c = eqb c d || among ds c

pub among_all : (P : ℕ → Type 0) (ds : Text) → AllByRecursion P ds → (c : ℕ) → among ds c ≡ true → P c
among_all P [] h c e = absurd cc
among_all P (d ∷ ds) h c e = elim (or_cases (eqb c d) (among ds c) e) [
  | inl k ↦ let m : d ≡ c = sym (eqb-true c d k) in subst P m h.0
  | inr k ↦ among_all P ds h.1 c k
]

pub blank_all : (P : ℕ → Type 0) → P 32 → P 9 → P 10 → P 13 → (c : ℕ) → is_blank c ≡ true → P c
blank_all P a b d e c h = elim (or_cases (c == 32 || c == 9 || c == 10) (c == 13) h) [
  | inr k ↦ let m : 13 ≡ c = sym (eqb-true c 13 k) in subst P m e
  | inl h2 ↦ elim (or_cases (c == 32 || c == 9) (c == 10) h2) [
    | inr k ↦ let m : 10 ≡ c = sym (eqb-true c 10 k) in subst P m d
    | inl h3 ↦ elim (or_cases (c == 32) (c == 9) h3) [
      | inr k ↦ let m : 9 ≡ c = sym (eqb-true c 9 k) in subst P m b
      | inl k ↦ let m : 32 ≡ c = sym (eqb-true c 32 k) in subst P m a
    ]
  ]
]

pub starts_wider : (p q : ℕ → Bool) → ((c : ℕ) → p c ≡ true → q c ≡ true) → (u : Text) → starts p u ≡ true
    → starts q u ≡ true
starts_wider p q wider [] h = refl
starts_wider p q wider (c ∷ u) h = wider c h

-- ---- what follows a side of a comparison

-- the first character of an operator, of `&&` or `||`, or what closes a list or goes on with it
abbrev pub after_side : ℕ → Bool
after_side = among (61 ∷ 33 ∷ 60 ∷ 62 ∷ 38 ∷ 124 ∷ 41 ∷ 44 ∷ 93 ∷ [])

-- nothing of this class follows a side
pub side_leaves : (q : ℕ → Bool) → q 32 ≡ false → q 9 ≡ false → q 10 ≡ false → q 13 ≡ false
    → AllByRecursion (λ c. q c ≡ false) (61 ∷ 33 ∷ 60 ∷ 62 ∷ 38 ∷ 124 ∷ 41 ∷ 44 ∷ 93 ∷ []) → (u : Text)
    → Meets after_side u → Leaves q u
side_leaves q a b c d h u m = stops after_side q (blank_all (λ c. q c ≡ false) a b c d)
    (among_all (λ c. q c ≡ false) (61 ∷ 33 ∷ 60 ∷ 62 ∷ 38 ∷ 124 ∷ 41 ∷ 44 ∷ 93 ∷ []) h) u m

pub side_before_word : (u : Text) → Meets after_side u → Leaves is_function_character u
side_before_word u m = side_leaves is_function_character refl refl refl refl
    (refl, (refl, (refl, (refl, (refl, (refl, (refl, (refl, (refl, tt))))))))) u m

pub side_before_digit : (u : Text) → Meets after_side u → Leaves is_digit u
side_before_digit u m = side_leaves is_digit refl refl refl refl
    (refl, (refl, (refl, (refl, (refl, (refl, (refl, (refl, (refl, tt))))))))) u m

pub side_before_mark : (u : Text) → Meets after_side u → Leaves is_exponent_mark u
side_before_mark u m = side_leaves is_exponent_mark refl refl refl refl
    (refl, (refl, (refl, (refl, (refl, (refl, (refl, (refl, (refl, tt))))))))) u m

pub side_before_point : (u : Text) → Meets after_side u → Leaves (λ c. eqb c 46) u
side_before_point u m = side_leaves (λ c. eqb c 46) refl refl refl refl
    (refl, (refl, (refl, (refl, (refl, (refl, (refl, (refl, (refl, tt))))))))) u m
