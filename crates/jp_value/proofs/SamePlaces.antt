-- Locations that are the same are equal, and `distinct` keeps each of a list once.
use Rattle.std.proofs.Common.{◌≡◌, true, false, List, [], ◌∷◌, AllPairs, refl, ap, ap₂, subst}
use Rattle.std.specs.Prelude.{IsTrue, ◌↔◌}
use Rattle.std.specs.Cmp.{IsEquivalence}
use Rattle.std.specs.List.{list_any}
use Rattle.std.proofs.lemmas.Bool.{and_parts, and_from}
use Rattle.std.proofs.lemmas.Bool.Decides.{Decides-eqb}
use Rattle.std.proofs.lemmas.Slice.Eq.{bytes_eq-Decides}
use Rattle.jp_doc.specs.Location.{Step, name, index, Location, Node}
use Rattle.jp_value.specs.Functions.{same_step, same_location, same_place, distinct}
use Rattle.jp_value.proofs.FirstOnes.{same_truth, apart_ones, member_ones}

equal_steps : (s t : Step) → same_step s t ≡ true → s ≡ t
equal_steps (name k) (name l) h = ap name ((bytes_eq-Decides k l).0 h)
equal_steps (name k) (index j) h = absurd cc
equal_steps (index i) (name l) h = absurd cc
equal_steps (index i) (index j) h = ap index ((Decides-eqb i j).0 h)

equal_locations : (l m : Location) → same_location l m ≡ true → l ≡ m
equal_locations [] [] h = refl
equal_locations [] (t ∷ ts) h = absurd cc
equal_locations (s ∷ ss) [] h = absurd cc
equal_locations (s ∷ ss) (t ∷ ts) h =
    let p = and_parts (same_step s t) (same_location ss ts) h in
    ap₂ (λ a b. a ∷ b) (equal_steps s t p.0) (equal_locations ss ts p.1)

self_step : (s : Step) → same_step s s ≡ true
self_step (name k) = (bytes_eq-Decides k k).1 refl
self_step (index i) = (Decides-eqb i i).1 refl

self_location : (l : Location) → same_location l l ≡ true
self_location [] = refl
self_location (s ∷ ss) = and_from (same_step s s) (same_location ss ss) (self_step s) (self_location ss)

pub same_is_equal : (l m : Location) → IsTrue (same_location l m) ↔ (l ≡ m)
same_is_equal l m =
    (equal_locations l m, λ e. subst (λ k. same_location l k ≡ true) e (self_location l))

turned : (l m : Location) → same_location l m ≡ true → same_location m l ≡ true
turned l m h = subst (λ k. same_location k l ≡ true) (equal_locations l m h) (self_location l)

same_places : IsEquivalence same_place
same_places = record {
  refl = λ n. self_location n.location;
  symm = λ m n. same_truth (same_place m n) (same_place n m) (turned m.location n.location)
      (turned n.location m.location);
  congr = λ m n o h. ap (λ l. same_location l o.location) (equal_locations m.location n.location h);
}

pub each_once : (ns : List Node) → AllPairs (λ m n. same_place m n ≡ false) (distinct ns)
each_once ns = apart_ones same_place ns

pub each_there : (ns : List Node) (n : Node) → list_any (same_place n) (distinct ns)
    ≡ list_any (same_place n) ns
each_there ns n = member_ones same_places n ns
