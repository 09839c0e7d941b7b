-- Texts that differ in their first bytes are ordered as these are, and are not the same.
use Rattle.std.proofs.Common.{◌≡◌, ◌<◌, ℕ, List, [], ◌∷◌, Some, Less, Equal, Greater, cond}
use Rattle.std.proofs.Common.{◌==◌, Bool, true, false, refl, sym, ap, ◌∙◌, subst}
use Rattle.std.proofs.lemmas.Bool.{lt-ltb}
use Rattle.std.proofs.lemmas.Cmp.{nat_list_cmp_total}
use Rattle.std.proofs.lemmas.Slice.Eq.{bytes_eq-Decides}
use Rattle.std.specs.Cmp.Lexicographic.{slice_cmp}
use Rattle.std.specs.List.{slice_get}
use Rattle.std.specs.Ordering.{nat_cmp, ordering_then, ordering_reverse}
use Rattle.std.specs.Str.{chars, IsUtf8}
use Rattle.json.proofs.Found.{Some_inj}
use Rattle.jp_doc.specs.Json.{text_eq}
use Rattle.jp_doc.proofs.TextLaws.{text_eq-bytes}

pub below : (xs ys : List ℕ) (a b : ℕ) → Some a ≡ slice_get xs 0 → Some b ≡ slice_get ys 0 → a < b
    → slice_cmp nat_cmp xs ys ≡ Less
below [] ys a b p q h = absurd cc
below (x ∷ xs) [] a b p q h = absurd cc
below (x ∷ xs) (y ∷ ys) a b p q h =
    let first : x < y = subst (λ m. m < y) (Some_inj a x p) (subst (λ n. a < n) (Some_inj b y q) h) in
    ap (λ t. ordering_then (cond t Less (cond (x == y) Equal Greater)) (slice_cmp nat_cmp xs ys))
    (lt-ltb x y first)

pub above : (xs ys : List ℕ) (a b : ℕ) → Some a ≡ slice_get xs 0 → Some b ≡ slice_get ys 0 → b < a
    → slice_cmp nat_cmp xs ys ≡ Greater
above xs ys a b p q h = nat_list_cmp_total.antisymm xs ys ∙ ap ordering_reverse (below ys xs b a q p h)

-- ---- texts that are not the same

pub apart : (k l : List ℕ) → IsUtf8 k → IsUtf8 l → (k ≡ l → ⊥) → text_eq (chars k) (chars l) ≡ false
apart k l u v differ = go (text_eq (chars k) (chars l)) refl
  where
    go : (b : Bool) → text_eq (chars k) (chars l) ≡ b → text_eq (chars k) (chars l) ≡ false
    go true e = absurd (differ ((bytes_eq-Decides k l).0 (sym (text_eq-bytes k l u v) ∙ e)))
    go false e = e

pub first_apart : (xs ys : List ℕ) (a b : ℕ) → Some a ≡ slice_get xs 0 → Some b ≡ slice_get ys 0
    → (a ≡ b → ⊥) → xs ≡ ys → ⊥
first_apart xs ys a b p q differ same =
    differ (Some_inj a b (p ∙ ap (λ l. slice_get l 0) same ∙ sym q))
