-- Parts that hold a character at least.
use Rattle.std.proofs.Common.{ℕ, ◌<◌, ◌∷◌, ◌++◌, length, arith, length-append}
use Rattle.jp_tree.specs.Tree.{Text}
use Rattle.jp_tree.specs.Tree as tree
use Rattle.jp_tree.specs.Parts.{Behind, behind, After, after}
use Rattle.jp_tree.specs.Spelling as is
use Rattle.jp_tree.specs.Spelling.{SegmentIs}

pub after_some : {A : Type 0} (c : ℕ) (mark : Text) (Part : Text → A → Type 0) (s : Text) (x : A)
    → After (c ∷ mark) Part s x → 0 < length s
after_some c mark Part w y (after r s t x h b p) = omega (arith, length-append r (c ∷ mark ++ (s ++ t)))

module _ (Inner : Text → tree.Logical → Type 0) where
  segment_size : (s : Text) (x : tree.Segment) → SegmentIs Inner s x → 0 < length s
  segment_size s x (is.child_bracketed t xs (is.bracketed a b d ys h p k)) = omega arith
  segment_size s x is.child_wildcard = omega arith
  segment_size s x (is.child_name t h) = omega arith
  segment_size s x (is.descendant_bracketed t xs h) = omega arith
  segment_size s x is.descendant_wildcard = omega arith
  segment_size s x (is.descendant_name t h) = omega arith

  pub segment_some : (s : Text) (x : tree.Segment) → Behind (SegmentIs Inner) s x → 0 < length s
  segment_some w y (behind b s x h p) = omega (arith, length-append b s, segment_size s x p)
