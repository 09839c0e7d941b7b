-- Arguments beside the types of parameters.
use Rattle.std.proofs.Common.{◌≡◌, Bool, true, false, ◌&&◌, List, [], ◌∷◌, length, map, refl, ap, suc}
use Rattle.std.proofs.Common.{arith}
use Rattle.std.specs.List.{list_all, zip}
use Rattle.jp_tree.specs.Tree.{arguments}
use Rattle.jp_tree.specs.PartViews.{argument_of, arguments_of}
use Rattle.jp_tree.specs.declared.tree.Argument.{Argument}
use Rattle.jp_types.specs.declared.functions.FunctionType.{FunctionType}
use Rattle.jp_types.specs.Kinds.{kind_of}
use Rattle.jp_types.specs.Typing.{fits, all_fit}

abbrev pub fits_beside : FunctionType × Argument → Bool
fits_beside p = fits (kind_of p.0) (argument_of p.1)

pub all_fit-paired : (ks : List FunctionType) (xs : List Argument) → length ks ≡ length xs
    → list_all fits_beside (zip ks xs) ≡ all_fit (map kind_of ks) (arguments (arguments_of xs))
all_fit-paired [] [] e = refl
all_fit-paired [] (x ∷ xs) e = absurd (omega arith)
all_fit-paired (k ∷ ks) [] e = absurd (omega arith)
all_fit-paired (k ∷ ks) (x ∷ xs) e =
    ap (λ b. fits_beside (k, x) && b) (all_fit-paired ks xs (omega arith))

pub all_fit-unpaired : (ks : List FunctionType) (xs : List Argument) → (length ks ≡ length xs → ⊥)
    → false ≡ all_fit (map kind_of ks) (arguments (arguments_of xs))
all_fit-unpaired [] [] other = absurd (other refl)
all_fit-unpaired [] (x ∷ xs) other = refl
all_fit-unpaired (k ∷ ks) [] other = refl
all_fit-unpaired (k ∷ ks) (x ∷ xs) other =
    and_false (fits_beside (k, x)) _ (all_fit-unpaired ks xs (λ e. other (ap suc e)))
  where
    and_false : (a b : Bool) → false ≡ b → false ≡ (a && b)
    and_false true b e = e
    and_false false b e = refl
