-- The last character of a text.
use Rattle.std.proofs.Common.{◌≡◌, ℕ, Bool, false, not, ◌||◌, ◌==◌, IsTrue, arith, refl, ◌⊎◌, inl}
use Rattle.std.proofs.Common.{inr, List, [], ◌∷◌, ◌++◌, codes}
use Rattle.std.proofs.lemmas.Bool.{or_cases, cases_Bool, not_from_false, not-true}
use Rattle.std.proofs.lemmas.Bool.Decides.{nat_tests}
use Rattle.std.proofs.lemmas.List.{append-nil}
use Rattle.jp_tree.specs.Tree.{Text}
use Rattle.jp_tree.specs.Tree as tree
use Rattle.jp_tree.specs.Characters.{is_blank, is_digit, is_positive_digit, is_name_character}
use Rattle.jp_tree.specs.Parts.{run, Each, Star, none, more, Behind, behind}
use Rattle.jp_tree.specs.Spelling as sp
use Rattle.jp_tokens.proofs.Following.{never_at}

-- whether there is a last character and it is of this class
abbrev pub ends_in : (ℕ → Bool) → Text → Bool
ends_in p [] = false
ends_in p (c ∷ []) = p c
ends_in p (c ∷ d ∷ t) = ends_in p (d ∷ t)

pub ends_in_append : (p : ℕ → Bool) (s t : Text) → IsTrue (ends_in p t) → IsTrue (ends_in p (s ++ t))
ends_in_append p [] t h = h
ends_in_append p (c ∷ []) [] h = absurd cc
ends_in_append p (c ∷ []) (d ∷ t) h = h
ends_in_append p (c ∷ d ∷ s) t h = ends_in_append p (d ∷ s) t h

pub ends_in_last : (p : ℕ → Bool) (s : Text) (c : ℕ) → ends_in p (s ++ c ∷ []) ≡ p c
ends_in_last p [] c = refl
ends_in_last p (d ∷ []) c = refl
ends_in_last p (d ∷ e ∷ s) c = ends_in_last p (e ∷ s) c

-- a text of characters of one class ends in one
pub ends_in_each : (p : ℕ → Bool) (c : ℕ) (t : Text) → IsTrue (p c) → Each p t → IsTrue (ends_in p (c ∷ t))
ends_in_each p c [] h k = h
ends_in_each p c (d ∷ t) h k = ends_in_each p d t k.0 k.1

pub ends_in_weaker : (p r : ℕ → Bool) → ((c : ℕ) → IsTrue (p c) → IsTrue (r c)) → (t : Text)
    → IsTrue (ends_in p t) → IsTrue (ends_in r t)
ends_in_weaker p r f [] h = absurd cc
ends_in_weaker p r f (c ∷ []) h = f c h
ends_in_weaker p r f (c ∷ d ∷ t) h = ends_in_weaker p r f (d ∷ t) h

-- `1` to `9` are digits
pub positive_is_digit : (c : ℕ) → IsTrue (is_positive_digit c) → IsTrue (is_digit c)
positive_is_digit c h = grind (arith, nat_tests)

abbrev pub not_blank : ℕ → Bool
not_blank c = not (is_blank c)

-- what is of a class without blanks is not blank
pub never_blank : (p : ℕ → Bool) → p 32 ≡ false → p 9 ≡ false → p 10 ≡ false → p 13 ≡ false → (c : ℕ)
    → IsTrue (p c) → IsTrue (not_blank c)
never_blank p h32 h9 h10 h13 c h =
    elim (cases_Bool (is_blank c)) [
      | inr e ↦ not_from_false (is_blank c) e
      | inl e ↦ absurd (elim (or_cases (c == 32 || c == 9 || c == 10) (c == 13) e) [
        | inr k ↦ never_at p 13 h13 c h k
        | inl e2 ↦ elim (or_cases (c == 32 || c == 9) (c == 10) e2) [
          | inr k ↦ never_at p 10 h10 c h k
          | inl e3 ↦ elim (or_cases (c == 32) (c == 9) e3) [
            | inl k ↦ never_at p 32 h32 c h k
            | inr k ↦ never_at p 9 h9 c h k
          ]
        ]
      ])
    ]

-- what ends well goes on ending well before nothing, or before what does
pub ends_before : (p : ℕ → Bool) (s t : Text) → IsTrue (ends_in p s) → (t ≡ []) ⊎ IsTrue (ends_in p t)
    → IsTrue (ends_in p (s ++ t))
ends_before p s t h (inl e) = rw (e, append-nil s) h
ends_before p s t h (inr k) = ends_in_append p s t k

-- no name ends in a blank
pub shorthand_ends : (t : Text) → sp.IsShorthand t → IsTrue (ends_in not_blank t)
shorthand_ends t (run c u h k) =
    let first : IsTrue (is_name_character c) = rw h refl in
    ends_in_weaker is_name_character not_blank (never_blank is_name_character refl refl refl refl) (c ∷ u)
    (ends_in_each is_name_character c u first k)

-- no segment ends in a blank
module _ (Inner : Text → tree.Logical → Type 0) where
  pub bracketed_ends : (t : Text) (xs : List tree.Selector) → sp.BracketedIs Inner t xs
      → IsTrue (ends_in not_blank t)
  bracketed_ends t xs (sp.bracketed r s u ys a p b) =
      let end : Text = u ++ codes "]" in
      ends_in_append not_blank (codes "[") (r ++ (s ++ end))
      (ends_in_append not_blank r (s ++ end)
      (ends_in_append not_blank s end (ends_in_append not_blank u (codes "]") refl)))

  pub segment_ends : (t : Text) (x : tree.Segment) → sp.SegmentIs Inner t x → IsTrue (ends_in not_blank t)
  segment_ends t x (sp.child_bracketed u xs p) = bracketed_ends t xs p
  segment_ends t x sp.child_wildcard = refl
  segment_ends t x (sp.child_name u p) = ends_in_append not_blank (codes ".") u (shorthand_ends u p)
  segment_ends t x (sp.descendant_bracketed u xs p) = ends_in_append not_blank (codes "..") u
      (bracketed_ends u xs p)
  segment_ends t x sp.descendant_wildcard = refl
  segment_ends t x (sp.descendant_name u p) = ends_in_append not_blank (codes "..") u (shorthand_ends u p)

  pub segments_end : (t : Text) (ss : List tree.Segment) → Star (Behind (sp.SegmentIs Inner)) t ss
      → (t ≡ []) ⊎ IsTrue (ends_in not_blank t)
  segments_end t ss none = inl refl
  segments_end t ss (more r u x xs (behind b v y hb p) rest) =
      inr (ends_before not_blank r u (ends_in_append not_blank b v (segment_ends v y p))
      (segments_end u xs rest))

-- no spelled text ends in a blank
pub spelled_ends : (t : Text) (q : tree.Query) → sp.Spells t q → IsTrue (ends_in not_blank t)
spelled_ends t q (sp.spells levels u ss p) = ends_before not_blank (codes "$") u refl
    (segments_end (sp.LogicalIs levels) u ss p)

pub last_is_no_blank : (t : Text) (c : ℕ) (q : tree.Query) → sp.Spells (t ++ c ∷ []) q → is_blank c ≡ false
last_is_no_blank t c q h =
    let e = spelled_ends (t ++ c ∷ []) q h in
    let k = ends_in_last not_blank t c in
    not-true (is_blank c) cc
