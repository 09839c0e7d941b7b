-- Nodes, each location once.
use Rattle.std.proofs.Common.{◌≡◌, List, length, map}
use Rattle.std.proofs.Common.{refl, sym, ap, ◌∙◌}
use Rattle.std.proofs.lemmas.List.{length-map}
use Rattle.jp_doc.specs.Location.{Node}
use Rattle.jp_found.specs.Different.{IsDifferent}
use Rattle.jp_value.specs.Functions.{only_value, distinct, first_ones, same_location, same_place}
use Rattle.jp_found.specs.declared.different.Different.{Different}
use Rattle.jp_value.proofs.FirstOnes.{ones_mapped, ones_again}

pub distinct_again : (ns : List Node) → distinct (distinct ns) ≡ distinct ns
distinct_again ns = ones_again same_place ns

pub differs_again : (d : Different) (ns ms : List Node) → IsDifferent d ns → distinct ns ≡ ms
    → IsDifferent d ms
differs_again d ns ms h e = (
  h.0 ∙ ap length (sym (distinct_again ns) ∙ ap distinct e),
  h.1 ∙ ap only_value (sym (distinct_again ns) ∙ ap distinct e),
)

-- as many locations as nodes are left
pub count_located : (ns : List Node) → length (first_ones same_location (map (λ n. n.location) ns))
    ≡ length (distinct ns)
count_located ns =
    ap length (sym (ones_mapped same_place same_location (λ n. n.location) (λ m n. refl) ns))
    ∙ length-map (distinct ns) (λ n. n.location)
