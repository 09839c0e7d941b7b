-- What the code reads is what the grammar spells within the limits, and it reads nothing only where there
-- is nothing.
use Rattle.std.proofs.Common.{◌≡◌, ◌<◌, ◌≤◌, true, nat_le, Option, Some, None, refl, sym, ap, ◌∙◌}
use Rattle.std.proofs.Common.{subst, inl, inr, arith, Result, Ok, Err}
use Rattle.std.proofs.lemmas.Bool.{cases_Bool, and_parts, and_from, leb-true, le-leb}
use Rattle.jp_pattern.specs.Pattern.{Text, Pattern}
use Rattle.jp_pattern.specs.Profile.{depth, size, InProfile, IsPatternOf}
use Rattle.jp_pattern.specs.Tree.{node_of}
use Rattle.jp_pattern.specs.TreeRead.{Spells, IsRefused, IsTreeOf}
use Rattle.jp_pattern.specs.declared.fault.PatternFault.{PatternFault}
use Rattle.jp_pattern.specs.declared.fault.PatternFault.TheVariants as faults
use Rattle.jp_pattern.specs.declared.tree.Node.{Node}
use Rattle.jp_pattern.specs.inner.Gives.{Fails, Gives}
use Rattle.jp_pattern.specs.inner.Reading.{read, read_within}
use Rattle.jp_pattern.proofs.PatternsRead.{one_tree, read_whole}
use Rattle.jp_pattern.proofs.PatternsSound.{read_sound}
use Rattle.jp_pattern.proofs.RightTests.{has_counts, has_counts_sound, has_counts_whole}
use Rattle.jp_pattern.proofs.WithinLemmas.{fits, kept_whole, read_kept}

some_kept : (o : Option Pattern) (p : Pattern) → kept_whole o ≡ Some p → (o ≡ Some p) × (fits 64 p ≡ true)
unfolding kept_whole
some_kept None p e = absurd cc
some_kept (Some q) p e =
    elim (cases_Bool (fits 64 q)) [
      | inl h ↦ let f = rw h at e in let same : q ≡ p =
          cc f in (ap (λ r. Some r) same, subst (λ r. fits 64 r ≡ true) same h)
      | inr h ↦ let f = rw h at e in absurd (cc f)
    ]

fits_in : (p : Pattern) → InProfile p → fits 64 p ≡ true
unfolding fits
fits_in p of = and_from _ _ (has_counts_whole p of.counts) (le-leb (depth p) 64 of.depth_fits)

-- what is read is spelled, within the counts and the depth
spelled : (t : Text) (p : Pattern) → read_within t ≡ Some p → Spells t p
unfolding fits
spelled t p e =
    let r = some_kept (read t) p (sym (read_kept t) ∙ e) in
    let both = and_parts (has_counts p) (nat_le (depth p) 64) r.1 in
    record {
      shapes = read_sound t p r.0;
      counts = has_counts_sound p both.0;
      depth_fits = leb-true (depth p) 64 both.1;
    }

-- a pattern is read
reads : (t : Text) (p : Pattern) → IsPatternOf t p → read_within t ≡ Some p
unfolding kept_whole
reads t p of = read_kept t ∙ rw (read_whole t p of.shapes, fits_in p of.in_profile) refl

no_pattern : (t : Text) → read_within t ≡ None → (p : Pattern) → IsPatternOf t p → ⊥
no_pattern t e p of = let f = reads t p of in absurd (cc (e, f))

refused : (t : Text) (fault : PatternFault) → Fails fault (read_within t) → IsRefused t fault
refused t faults.NoPattern e = no_pattern t e
refused t faults.Memory e = tt

-- a text is a pattern where it is read as the tree, and the tree keeps to the limits
pub checked : (t : Text) (p : Pattern) → read t ≡ Some p → has_counts p ≡ true → nat_le (depth p) 64 ≡ true
    → nat_le (size p) 10_000 ≡ true → IsPatternOf t p
checked t p e counts deep large = record {
  shapes = read_sound t p e;
  in_profile = record {
    counts = has_counts_sound p counts;
    depth_fits = leb-true (depth p) 64 deep;
    size_fits = leb-true (size p) 10_000 large;
  };
}

-- what reads ensures what is said of it
pub tree_read : (t : Text) (result : Result Node PatternFault) → Gives node_of result (read_within t)
    → IsTreeOf t result
tree_read t (Ok node) e = spelled t (node_of node) e
tree_read t (Err fault) e = refused t fault e

-- a tree is a pattern if its size fits
pub is_pattern : (t : Text) (p : Pattern) → Spells t p → size p ≤ 10_000 → IsPatternOf t p
is_pattern t p s le = record {
  shapes = s.shapes;
  in_profile = record { counts = s.counts; depth_fits = s.depth_fits; size_fits = le };
}

-- and else the text has no other
pub too_large : (t : Text) (q : Pattern) → Spells t q → 10_000 < size q → (p : Pattern) → IsPatternOf t p → ⊥
too_large t q s lt p of =
    let same : q ≡ p = one_tree t q p s.shapes of.shapes in
    let le : size q ≤ 10_000 = subst (λ r. size r ≤ 10_000) (sym same) of.in_profile.size_fits in
    omega arith
