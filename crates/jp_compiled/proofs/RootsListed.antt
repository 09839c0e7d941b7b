-- The list of `$` queries with one more.
use Rattle.std.proofs.Common.{◌≡◌, List, [], ◌∷◌, ◌++◌, refl}
use Rattle.jp_compiled.specs.Parts.{Wanted, wanted_in, roots_behind}
use Rattle.jp_compiled.specs.declared.query.RootPart.{RootPart}

-- one `$` query more
pub listed_more : (before : List Wanted) (rs : List RootPart) (r : RootPart)
    → roots_behind before (rs ++ r ∷ []) ≡ roots_behind before rs ++ wanted_in (roots_behind before rs) r
    ∷ []
listed_more before [] r = refl
listed_more before (q ∷ rs) r = listed_more (before ++ wanted_in before q ∷ []) rs r
