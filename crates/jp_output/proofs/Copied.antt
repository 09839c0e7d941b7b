-- What is copied item by item stands for the same.
use Rattle.std.proofs.Common.{◌≡◌, ◌<◌, ◌≤◌, ◌+◌, ℕ, List, [], ◌∷◌, ◌++◌, length, get_or, drop, map, sym}
use Rattle.std.proofs.Common.{ap, ◌∙◌}
use Rattle.std.proofs.Common.{append_assoc, append-nil}
use Rattle.std.proofs.lemmas.List.{at_drop_more, at_drop_all, map-append}

module _ {A B : Type 0} (meant : A → B) (xs : List A) (i : ℕ) where
  -- one more is copied
  pub one_more : (x : A) (copy more : List A) (y : A) → i < length xs → x ≡ get_or xs i x
      → more ≡ copy ++ y ∷ [] → meant y ≡ meant x
      → map meant more ++ map meant (drop (i + 1) xs) ≡ map meant copy ++ map meant (drop i xs)
  one_more x copy more y h is put same =
      let rest = map meant (drop (i + 1) xs) in
      ap (λ (m : List A). map meant m ++ rest) put
      ∙ ap (λ (m : List B). m ++ rest) (map-append meant copy (y ∷ []))
      ∙ append_assoc (map meant copy) (meant y ∷ []) rest
      ∙ ap (λ (b : B). map meant copy ++ b ∷ rest) same
      ∙ sym (ap (λ (t : List B). map meant copy ++ t)
      (at_drop_more (λ ys. map meant ys) xs i x h
      ∙ ap (λ z. map meant (z ∷ drop (i + 1) xs)) (sym is)))

  -- all are copied
  pub no_more : (copy : List A) → length xs ≤ i → map meant copy ≡ map meant copy ++ map meant (drop i xs)
  no_more copy h = sym (ap (λ (t : List B). map meant copy ++ t) (at_drop_all (λ ys. map meant ys) xs i h)
      ∙ append-nil (map meant copy))
