-- A loop over the rows of a table finds what the first row of a name says.
use Rattle.std.proofs.Common.{◌≡◌, ℕ, suc, ◌+◌, ◌<◌, true, false, List, ◌∷◌, map, drop, length, refl}
use Rattle.std.proofs.Common.{sym, ap, ◌∙◌}
use Rattle.std.proofs.Common.{Some, get_or, arith}
use Rattle.std.proofs.Math.Seq.{drop-cons}
use Rattle.std.specs.Str.{bytes_eq}
use Rattle.unicode.specs.declared.properties.GeneralCategory.{GeneralCategory}
use Rattle.jp_pattern.specs.Pattern.{Text}
use Rattle.jp_pattern.specs.inner.Reading.{row_named}

module _ {R : Type 0} (row : R → Text × List GeneralCategory) (rows : List R) (name : Text) (i : ℕ) (d : R)
    (lt : i < length rows) where
  behind : row_named name (map row (drop i rows))
      ≡ row_named name (row (get_or rows i d) ∷ map row (drop (suc i) rows))
  behind = ap (λ l. row_named name (map row l)) (drop-cons rows i d lt)

  pub row_found : bytes_eq (row (get_or rows i d)).0 name ≡ true
      → Some (row (get_or rows i d)).1 ≡ row_named name (map row (drop i rows))
  row_found e = sym (behind ∙ rw e refl)

  pub row_passed : bytes_eq (row (get_or rows i d)).0 name ≡ false
      → row_named name (map row (drop (i + 1) rows)) ≡ row_named name (map row (drop i rows))
  row_passed e = let next : i + 1 ≡ suc i = omega arith in rw next (sym (behind ∙ rw e refl))
