-- The table of the names of categories, and what is found in it.
use Rattle.std.proofs.Common.{◌≡◌, zero, suc, List, [], ◌∷◌, map, Some, ap₂, subst}
use Rattle.std.proofs.Common.{inl, inr, arith}
use Rattle.std.proofs.lemmas.Bool.{cases_Bool}
use Rattle.std.proofs.lemmas.Slice.Eq.{bytes_eq-Decides}
use Rattle.std.specs.Prelude.{Contains}
use Rattle.std.specs.Str.{bytes_eq}
use Rattle.unicode.specs.declared.properties.GeneralCategory.{GeneralCategory}
use Rattle.jp_pattern.specs.CategoryNames.{category_names, IsCategoryName}
use Rattle.jp_pattern.specs.Pattern.{Text}
use Rattle.jp_pattern.specs.inner.Reading.{categories_named, row_named}

later : {A : Type 0} (y x : A) (ys : List A) → Contains ys x → Contains (y ∷ ys) x
later y x ys (k, lt, e) = (suc k, omega (arith, lt), e)

row_sound : (name : Text) (cs : List GeneralCategory) (rows : List (Text × List GeneralCategory))
    → row_named name rows ≡ Some cs → Contains rows (name, cs)
row_sound name cs [] e = absurd cc
row_sound name cs (row ∷ rows) e =
    elim (cases_Bool (bytes_eq row.0 name)) [
      | inl h ↦ let same : row.1 ≡ cs = cc (rw h at e) in
          (0, omega arith, ap₂ (λ n c. (n, c)) ((bytes_eq-Decides row.0 name).0 h) same)
      | inr h ↦ later row (name, cs) rows (row_sound name cs rows (rw h at e))
    ]

pub categories_sound : (name : Text) (cs : List GeneralCategory) → categories_named name ≡ Some cs
    → IsCategoryName name cs
categories_sound name cs e = row_sound name cs category_names e

-- what holds of each row holds of one that the list contains
pub picked : {A B : Type 0} (f g : A → B) (xs : List A) (x : A) → map f xs ≡ map g xs → Contains xs x
    → f x ≡ g x
picked f g [] x e (k, lt, h) = absurd (omega (arith, lt))
picked f g (y ∷ ys) x e (zero, lt, h) = subst (λ z. f z ≡ g z) h (cc e)
picked f g (y ∷ ys) x e (suc k, lt, h) = picked f g ys x (cc e) (k, omega (arith, lt), h)
