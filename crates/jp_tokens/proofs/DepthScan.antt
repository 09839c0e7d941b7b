-- The bracket depth behind one more character.
use Rattle.std.proofs.Common.{◌≡◌, ◌==◌, if◌then◌else◌, Bool, true, false, ℕ, ◌≤◌, max, arith, refl, ap, sym}
use Rattle.std.proofs.Common.{◌∙◌, [], ◌∷◌, ◌++◌, length}
use Rattle.jp_tree.specs.Tree.{Text}
use Rattle.jp_tokens.specs.Depth.{Place, outside, inside, passing, step, scan, count_of, open_brackets}
use Rattle.jp_tokens.specs.Depth.{bracket_depth}
use Rattle.jp_tokens.specs.inner.DepthView.{place_of}
use Rattle.jp_tokens.specs.declared.depth.Quotes.{Quotes}
use Rattle.jp_tokens.specs.declared.depth.Quotes.TheVariants.{Outside, Inside, Passing}
use Rattle.jp_tokens.proofs.DepthLaws.{depth_from, depth_from_cons, open_no_deeper, depth_within_length}

-- in quotes the count stays
pub quoted_count : (quote count c : ℕ) → count ≡ count_of (step (inside quote count) c)
quoted_count quote count c = counted (c == 92) (c == quote)
  where
    counted : (x y : Bool)
        → count ≡ count_of (if x then passing quote count else if y then outside count else inside quote
        count)
    counted true y = refl
    counted false true = refl
    counted false false = refl

scan_last : (place : Place) (t : Text) (c : ℕ) → scan place (t ++ c ∷ []) ≡ step (scan place t) c
scan_last place [] c = refl
scan_last place (d ∷ t) c = scan_last (step place d) t c

depth_last : (place : Place) (t : Text) (c : ℕ) → depth_from place (t ++ c ∷ []) ≡ max (depth_from place t)
    (count_of (step (scan place t) c))
depth_last place [] c = omega arith
depth_last place (d ∷ t) c =
    let e = depth_from_cons place d (t ++ c ∷ []) in
    let k = depth_from_cons place d t in
    let h = depth_last (step place d) t c in
    omega arith

pub count_there : (quotes : Quotes) (count : ℕ) → count_of (place_of quotes count) ≡ count
count_there Outside count = refl
count_there (Inside quote) count = refl
count_there (Passing quote) count = refl

module _ (quotes : Quotes) (count : ℕ) (t : Text) (so : place_of quotes count ≡ scan (outside 0) t) where
  -- no more brackets are open than there are characters
  pub count_fits : count ≤ length t
  count_fits =
      let e : count ≡ open_brackets t = sym (count_there quotes count) ∙ ap count_of so in
      let h = open_no_deeper t in
      let k = depth_within_length t in
      omega arith

  pub place_after : (after : Quotes) (more c : ℕ) → more ≡ count_of (step (place_of quotes count) c)
      → place_of after (count_of (step (place_of quotes count) c)) ≡ step (place_of quotes count) c
      → place_of after more ≡ scan (outside 0) (t ++ c ∷ [])
  place_after after more c e h = ap (place_of after) e ∙ h ∙ ap (λ (p : Place). step p c) so
      ∙ sym (scan_last (outside 0) t c)

  pub depth_after : (deepest more c : ℕ) → deepest ≡ bracket_depth t
      → more ≡ count_of (step (place_of quotes count) c) → bracket_depth (t ++ c ∷ []) ≡ max deepest more
  depth_after deepest more c d e =
      let k : more ≡ count_of (step (scan (outside 0) t) c) = e
      ∙ ap (λ (p : Place). count_of (step p c)) so in
      let h = depth_last (outside 0) t c in
      h ∙ (ap (λ (n : ℕ). max n (count_of (step (scan (outside 0) t) c))) (sym d) ∙ ap (max deepest) (sym k))
