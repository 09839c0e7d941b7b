-- What the walk that looks for a long array has told so far.
use Rattle.std.proofs.Common.{◌≡◌, ℕ, ◌≤◌, Bool, ◌||◌, List, ◌∷◌, ap, ◌∙◌, arith}
use Rattle.jp_doc.specs.Height.{height}
use Rattle.jp_doc.specs.Json.{object}
use Rattle.jp_doc.specs.Reading.{has_long_array}
use Rattle.jp_flat.specs.Gathered.{gathered}
use Rattle.jp_flat.specs.Value.{flat_value}
use Rattle.jp_flat.specs.declared.value.FlatMember.{FlatMember}

-- the rest of the members begins with one of which this is told
pub member_told : (n : ℕ) (here left : List FlatMember) (m : FlatMember) (b : Bool) → here ≡ m ∷ left
    → has_long_array n (flat_value m.value) ≡ b
    → has_long_array n (object (gathered here)) ≡ (b || has_long_array n (object (gathered left)))
member_told n here left m b is told =
    ap (λ ms. has_long_array n (object (gathered ms))) is
    ∙ ap (λ x. x || has_long_array n (object (gathered left))) told

pub left_is_lower : (here left : List FlatMember) (m : FlatMember) (n : ℕ) → here ≡ m ∷ left
    → height (object (gathered here)) ≤ n → height (object (gathered left)) ≤ n
left_is_lower here left m n is h =
    omega (arith, h, ap (λ ms. height (object (gathered ms))) is)
