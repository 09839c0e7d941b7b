-- How many items an array has, and how many members an object.
use Rattle.std.proofs.Common.{◌≡◌, ℕ, suc, Bool, true, false, ◌&&◌, List, [], ◌∷◌, length, Some}
use Rattle.std.proofs.Common.{refl, sym, ap, ◌∙◌}
use Rattle.std.specs.Prelude.{pos}
use Rattle.jp_number.specs.Number.{whole}
use Rattle.jp_doc.specs.Json.{Text, text_eq, Json, number, array, items}
use Rattle.jp_node.specs.Members.{members}
use Rattle.jp_node.proofs.Lists.{list_back}
use Rattle.jp_value.specs.Comparison.{same, same_members}
use Rattle.jp_value.specs.Functions.{length_value, number_value, member_count}

pub members_counted : (es : List (Text × Json)) → member_count (members es) ≡ length es
members_counted [] = refl
members_counted (e ∷ es) = ap (λ n. suc n) (members_counted es)

pub array_length : (xs : List Json) (n : ℕ) → n ≡ length xs
    → Some (number (whole (pos n))) ≡ length_value (Some (array (items xs)))
array_length xs n is = ap (λ k. Some (number_value k)) (is ∙ sym (ap length (list_back xs)))

pub and_false : (a b : Bool) → false ≡ b → false ≡ (a && b)
and_false true b h = h
and_false false b h = refl

-- objects with unequally many members are not the same
pub unequally_many : (es fs : List (Text × Json)) → (length es ≡ length fs → ⊥)
    → false ≡ same_members (members es) (members fs)
unequally_many [] [] h = absurd (h refl)
unequally_many [] (f ∷ fs) h = refl
unequally_many (e ∷ es) [] h = refl
unequally_many (e ∷ es) (f ∷ fs) h =
    and_false (text_eq e.0 f.0 && same e.1 f.1) (same_members (members es) (members fs))
    (unequally_many es fs (λ is. h (ap (λ n. suc n) is)))
