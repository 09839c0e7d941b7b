-- The faults of parts together.
use Rattle.std.proofs.Common.{◌≡◌, ℕ, ◌+◌, ◌<◌, ◌≤◌, Bool, true, false, not, ◌||◌, ◌&&◌, List, [], ◌∷◌}
use Rattle.std.proofs.Common.{◌++◌, length, get_or, drop, refl, sym, ap, ◌∙◌}
use Rattle.std.proofs.Math.Bool.{or_assoc, or-false}
use Rattle.std.proofs.lemmas.List.{at_drop_more, at_drop_all, append-nil}
use Rattle.std.proofs.lemmas.List.Folds.{list_any-append, list_all-append}
use Rattle.jp_types.specs.Numbers.{Written}
use Rattle.jp_types.specs.Faults.{faults_of, joined}
use Rattle.jp_types.specs.declared.faults.Faults.{Faults}

not-and : (a b : Bool) → not (a && b) ≡ (not a || not b)
not-and true b = refl
not-and false b = refl

-- a part without faults adds none
pub joined_none : (f : Faults) → joined f (faults_of [] true) ≡ f
joined_none f = simp or-false

pub joined_assoc : (a b c : Faults) → joined (joined a b) c ≡ joined a (joined b c)
joined_assoc a b c = simp or_assoc

-- the faults of two parts are those of their numbers and uses together
pub joined_faults : (a b : List Written) (s t : Bool) → joined (faults_of a s) (faults_of b t)
    ≡ faults_of (a ++ b) (s && t)
joined_faults a b s t = sym (simp (list_any-append, list_all-append, not-and))

-- a part and its use
pub joined_use : (a : List Written) (s t : Bool) → joined (faults_of a s) (faults_of [] t)
    ≡ faults_of a (s && t)
joined_use a s t = joined_faults a [] s t ∙ ap (λ ns. faults_of ns (s && t)) (append-nil a)

-- parts in a list, by the numbers and the uses of each
module _ {X : Type 0} (numbers : List X → List Written) (typed : List X → Bool) where
  abbrev of_parts : List X → Faults
  of_parts xs = faults_of (numbers xs) (typed xs)

  -- a loop over the parts has come to its end
  pub parts_end : (xs : List X) (i : ℕ) (f whole : Faults) → numbers [] ≡ [] → typed [] ≡ true
      → length xs ≤ i → joined f (of_parts (drop i xs)) ≡ whole → f ≡ whole
  parts_end xs i f whole n t past e =
      sym (joined_none f) ∙ ap (λ g. joined f g) (sym (at_drop_all of_parts xs i past ∙ rw (n, t) refl))
      ∙ e

  -- a loop over the parts takes one more
  pub parts_next : (xs : List X) (i : ℕ) (x : X) (f one after whole : Faults) (ns : List Written)
      (t : Bool) → numbers (x ∷ drop (i + 1) xs) ≡ ns ++ numbers (drop (i + 1) xs)
      → typed (x ∷ drop (i + 1) xs) ≡ (t && typed (drop (i + 1) xs)) → i < length xs → x ≡ get_or xs i x
      → one ≡ faults_of ns t → after ≡ joined f one → joined f (of_parts (drop i xs)) ≡ whole
      → joined after (of_parts (drop (i + 1) xs)) ≡ whole
  parts_next xs i x f one after whole ns t n u within is one_is after_is e =
      let rest = drop (i + 1) xs in
      let split : of_parts (drop i xs) ≡ joined (faults_of ns t) (of_parts rest) =
      at_drop_more of_parts xs i x within ∙ ap (λ y. of_parts (y ∷ rest)) (sym is)
      ∙ rw (n, u) (sym (joined_faults ns (numbers rest) t (typed rest))) in
      ap (λ g. joined g (of_parts rest)) (after_is ∙ ap (λ g. joined f g) one_is)
      ∙ joined_assoc f (faults_of ns t) (of_parts rest) ∙ ap (λ g. joined f g) (sym split) ∙ e
