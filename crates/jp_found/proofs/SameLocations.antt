-- Ways are equal exactly where the locations to which they lead are the same.
use Rattle.std.proofs.Common.{◌≡◌, ℕ, ◌&&◌, List, [], ◌∷◌, ◌++◌, length, map, reverse}
use Rattle.std.proofs.Common.{refl, sym, ap, ap₂, ◌∙◌}
use Rattle.std.proofs.Math.Logic.{∥∥₁_elim}
use Rattle.std.proofs.Props.{props}
use Rattle.std.specs.Str.{chars, IsUtf8, bytes_eq}
use lib.Pointwise.{pointwise}
use Rattle.std.proofs.lemmas.Bool.Decides.{same_from_decides}
use Rattle.std.proofs.lemmas.List.{length-map, reverse-append, reverse-reverse, map-append}
use Rattle.jp_doc.proofs.TextLaws.{text_eq-bytes}
use Rattle.jp_doc.specs.Json.{text_eq}
use Rattle.jp_doc.specs.Location.{Location}
use Rattle.jp_found.specs.Ways.{stop_step, way_location}
use Rattle.jp_found.specs.contracts.way.StopPartialEq.TheImpl as stop_eq
use Rattle.jp_found.specs.contracts.way.WayPartialEq.TheImpl as way_eq
use Rattle.jp_found.specs.declared.way.Way.{Way}
use Rattle.jp_found.specs.declared.way.Stop.{Stop}
use Rattle.jp_found.specs.declared.way.Stop.TheVariants.{Name, Index}
use Rattle.jp_value.proofs.SamePlaces.{same_is_equal}
use Rattle.jp_value.specs.Functions.{same_step, same_location, first_ones}
use Rattle.jp_value.proofs.FirstOnes.{ones_mapped}

names_same : (s t : List ℕ) → ∥ IsUtf8 s ∥₁ → ∥ IsUtf8 t ∥₁ → bytes_eq s t ≡ text_eq (chars s) (chars t)
names_same s t h g =
    ∥∥₁_elim h (hlevel props) (λ u. ∥∥₁_elim g (hlevel props) (λ v. sym (text_eq-bytes s t u v)))

stop_same : (s t : Stop) → stop_eq.eq-value.it s t ≡ same_step (stop_step s) (stop_step t)
stop_same (Name s) (Name t) = names_same s.text.now t.text.now s.utf8 t.utf8
stop_same (Name s) (Index j) = refl
stop_same (Index i) (Name t) = refl
stop_same (Index i) (Index j) = refl

stops_same : (ss ts : List Stop) → pointwise stop_eq.eq-value.it ss ts ≡ same_location (map stop_step ss)
    (map stop_step ts)
stops_same [] [] = refl
stops_same [] (t ∷ ts) = refl
stops_same (s ∷ ss) [] = refl
stops_same (s ∷ ss) (t ∷ ts) = ap₂ (λ a b. a && b) (stop_same s t) (stops_same ss ts)

reversed : {X Y : Type 0} (f : X → Y) (xs : List X) → map f (reverse xs) ≡ reverse (map f xs)
reversed f [] = refl
reversed f (x ∷ xs) =
    ap (map f) (reverse-append (x ∷ []) xs) ∙ map-append f (reverse xs) (x ∷ [])
    ∙ ap (λ ys. ys ++ f x ∷ []) (reversed f xs) ∙ sym (reverse-append (f x ∷ []) (map f xs))

-- read from the end, locations are the same where they are so from the root on
same_reversed : (l m : Location) → same_location l m ≡ same_location (reverse l) (reverse m)
same_reversed l m =
    let ends = same_is_equal (reverse l) (reverse m) in
    same_from_decides (same_location l m) (same_location (reverse l) (reverse m)) (same_is_equal l m) (
      λ t. sym (reverse-reverse l) ∙ ap reverse (ends.0 t) ∙ reverse-reverse m,
      λ e. ends.1 (ap reverse e),
    )

way_same : (w v : Way) → way_eq.eq-value.it w v ≡ same_location (way_location w) (way_location v)
way_same w v =
    stops_same w.stops.items v.stops.items
    ∙ same_reversed (map stop_step w.stops.items) (map stop_step v.stops.items)
    ∙ sym (ap₂ same_location (reversed stop_step w.stops.items) (reversed stop_step v.stops.items))

pub count_same : (ws : List Way) → length (first_ones way_eq.eq-value.it ws)
    ≡ length (first_ones same_location (map way_location ws))
count_same ws =
    sym (length-map (first_ones way_eq.eq-value.it ws) way_location)
    ∙ ap length (ones_mapped way_eq.eq-value.it same_location way_location way_same ws)
