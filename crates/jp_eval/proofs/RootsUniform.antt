-- What is listed in a compiled query asks nothing of the current node, one after another.
use Rattle.std.proofs.Common.{◌≡◌, ◌<◌, ℕ, zero, suc, List, [], ◌∷◌, ◌++◌, true, length, take, get_or}
use Rattle.std.proofs.Common.{refl, ap, ◌∙◌, arith}
use Rattle.std.proofs.lemmas.Bool.{and_parts, and_from}
use Rattle.jp_compiled.specs.Parts.{Wanted, wanted_in, roots_behind}
use Rattle.jp_compiled.specs.Uniform.{wanted_uniform, are_uniform}
use Rattle.jp_compiled.specs.declared.query.RootPart.{RootPart}

last : (ws : List Wanted) (w : Wanted) → are_uniform (ws ++ w ∷ []) ≡ true
    → (are_uniform ws ≡ true) × (wanted_uniform w ≡ true)
last [] w h = (refl, (and_parts (wanted_uniform w) true h).0)
last (v ∷ ws) w h =
    let parts = and_parts (wanted_uniform v) (are_uniform (ws ++ w ∷ [])) h in
    let rest = last ws w parts.1 in
    (and_from (wanted_uniform v) (are_uniform ws) parts.0 rest.0, rest.1)

front : (ws : List Wanted) (rs : List RootPart) → are_uniform (roots_behind ws rs) ≡ true
    → are_uniform ws ≡ true
front ws [] h = h
front ws (r ∷ rs) h = (last ws (wanted_in ws r) (front (ws ++ wanted_in ws r ∷ []) rs h)).0

pub uniform_at : (ws : List Wanted) (rs : List RootPart) (i : ℕ) (r : RootPart) → i < length rs
    → r ≡ get_or rs i r → are_uniform (roots_behind ws rs) ≡ true
    → wanted_uniform (wanted_in (roots_behind ws (take i rs)) r) ≡ true
uniform_at ws [] i r within is h = absurd (omega arith)
uniform_at ws (q ∷ rs) zero r within is h = ap (λ x. wanted_uniform (wanted_in ws x)) is
    ∙ (last ws (wanted_in ws q) (front (ws ++ wanted_in ws q ∷ []) rs h)).1
uniform_at ws (q ∷ rs) (suc i) r within is h =
    uniform_at (ws ++ wanted_in ws q ∷ []) rs i r (omega arith) is h
