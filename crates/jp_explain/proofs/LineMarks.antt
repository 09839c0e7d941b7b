-- The bytes of a line from a mark on.
use Rattle.std.proofs.Common.{◌≡◌, ℕ, ◌+◌, ◌-◌, List, length, take, drop, ap, ◌∙◌, arith, length-drop}
use Rattle.std.proofs.lemmas.List.{take_all}

-- the same bytes, by how many they are and by the place of their end
pub from_mark : (line : List ℕ) (mark n : ℕ) → take n (take (length line - mark) (drop mark line))
    ≡ take (mark + n - mark) (drop mark line)
from_mark line mark n =
    let e : n ≡ mark + n - mark = omega arith in
    let behind : take (length line - mark) (drop mark line) ≡ drop mark line =
    take_all _ _ (omega (arith, length-drop mark line)) in
    ap (take n) behind ∙ ap (λ k. take k (drop mark line)) e
