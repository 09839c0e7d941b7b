-- Laws of locations.
use Rattle.std.proofs.Common.{◌≡◌, [], ◌∷◌, ◌++◌, Some, None, option_and_then, refl}
use Rattle.jp_doc.specs.Json.{Json}
use Rattle.jp_doc.specs.Location.{Location, child_at, value_at}

pub value_at_both : (a b : Location) (v : Json) → value_at (a ++ b) v ≡ option_and_then (value_at b)
    (value_at a v)
value_at_both [] b v = refl
value_at_both (s ∷ ss) b v =
    elim (child_at s v) as (λ child. option_and_then (value_at (ss ++ b)) child ≡ option_and_then (value_at b)
    (option_and_then (value_at ss) child))
    [ None ↦ refl | Some w ↦ value_at_both ss b w ]
