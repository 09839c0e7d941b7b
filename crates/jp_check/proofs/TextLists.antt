-- Texts that a loop over parts gathers.
use Rattle.std.proofs.Common.{◌≡◌, ℕ, ◌+◌, ◌<◌, ◌≤◌, List, [], ◌∷◌, ◌++◌, length, get_or, drop, sym, ap}
use Rattle.std.proofs.Common.{◌∙◌, append_assoc, append-nil}
use Rattle.std.proofs.lemmas.List.{at_drop_more, at_drop_all}
use Rattle.jp_tree.specs.Tree.{Text}

module _ {X : Type 0} (texts : List X → List Text) where
  -- a loop over the parts has come to its end
  pub texts_end : (xs : List X) (i : ℕ) (found whole : List Text) → texts [] ≡ [] → length xs ≤ i
      → found ++ texts (drop i xs) ≡ whole → found ≡ whole
  texts_end xs i found whole none past e =
      sym (append-nil found) ∙ ap (λ ts. found ++ ts) (sym (at_drop_all texts xs i past ∙ none)) ∙ e

  -- a loop over the parts takes one more
  pub texts_next : (xs : List X) (i : ℕ) (x : X) (found one after whole : List Text)
      → texts (x ∷ drop (i + 1) xs) ≡ one ++ texts (drop (i + 1) xs) → i < length xs → x ≡ get_or xs i x
      → after ≡ found ++ one → found ++ texts (drop i xs) ≡ whole → after ++ texts (drop (i + 1) xs) ≡ whole
  texts_next xs i x found one after whole cut within is after_is e =
      let rest = drop (i + 1) xs in
      let split : texts (drop i xs) ≡ one ++ texts rest = at_drop_more texts xs i x within
      ∙ ap (λ y. texts (y ∷ rest)) (sym is) ∙ cut in
      ap (λ ts. ts ++ texts rest) after_is ∙ append_assoc found one (texts rest)
      ∙ ap (λ ts. found ++ ts) (sym split) ∙ e
