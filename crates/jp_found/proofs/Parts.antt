-- What is kept of the nodes that a filter asks for.
use Rattle.std.proofs.Common.{◌≡◌, ℕ, ◌+◌, List, [], ◌∷◌, Some, length}
use Rattle.std.proofs.Common.{◌++◌, map, refl, sym, ap, ◌∙◌, arith, append_assoc, append-nil}
use Rattle.std.specs.List.{fold}
use Rattle.jp_doc.specs.Json.{Json}
use Rattle.jp_doc.specs.Location.{Node, Location}
use Rattle.jp_compiled.specs.declared.query.Want.{Want}
use Rattle.jp_compiled.specs.declared.query.Want.TheVariants as want
use Rattle.jp_value.specs.Functions.{first_value}
use Rattle.jp_found.specs.Kept.{Kept, put_found, plus, none_kept, first, count, only, located, Alone}
use Rattle.jp_found.specs.Kept.{none as no_value, one, several}

-- the values of nodes, as far as it matters whether there is exactly one
abbrev pub alone_in : List Node → Alone
alone_in [] = no_value
alone_in (n ∷ []) = one n.value
alone_in (n ∷ m ∷ ns) = several

-- what is kept of these nodes, where this is wanted of them
abbrev pub all_kept : {K : Type 0} → Want → List Node → Kept K
all_kept want.First ns = first (first_value ns)
all_kept want.Count ns = count (length ns)
all_kept want.Only ns = only (alone_in ns)
all_kept want.Distinct ns = located (first_value ns) (map (λ n. n.location) ns)

module _ {K : Type 0} (put : K → Node → K) where
  first_stays : (v : Json) (ns : List Node) → fold (put_found put) (first (Some v)) ns ≡ first (Some v)
  first_stays v [] = refl
  first_stays v (n ∷ ns) = first_stays v ns

  counted_on : (m : ℕ) (ns : List Node) → fold (put_found put) (count m) ns ≡ count (m + length ns)
  counted_on m [] = ap count (omega arith)
  counted_on m (n ∷ ns) = counted_on (m + 1) ns ∙ ap count (omega arith)

  several_stay : (ns : List Node) → fold (put_found put) (only several) ns ≡ only several
  several_stay [] = refl
  several_stay (n ∷ ns) = several_stay ns

  located_on : (v : Json) (ls : List Location) (ns : List Node)
      → fold (put_found put) (located (Some v) ls) ns ≡ located (Some v) (ls ++ map (λ n. n.location) ns)
  located_on v ls [] = ap (located (Some v)) (sym (append-nil ls))
  located_on v ls (n ∷ ns) =
      located_on v (ls ++ n.location ∷ []) ns
      ∙ ap (located (Some v)) (append_assoc ls (n.location ∷ []) (map (λ m. m.location) ns))

  pub kept_all : (w : Want) (ns : List Node) → plus (put_found put) (none_kept w) ns ≡ all_kept w ns
  unfolding plus
  kept_all want.First [] = refl
  kept_all want.First (n ∷ ns) = first_stays n.value ns
  kept_all want.Count ns = counted_on 0 ns ∙ ap count (omega arith)
  kept_all want.Only [] = refl
  kept_all want.Only (n ∷ []) = refl
  kept_all want.Only (n ∷ m ∷ ns) = several_stay ns
  kept_all want.Distinct [] = refl
  kept_all want.Distinct (n ∷ ns) = located_on n.value (n.location ∷ []) ns
