-- What answers tell of nodes.
use Rattle.std.proofs.Common.{◌≡◌, ℕ, ◌==◌, true, ◌&&◌, List, [], ◌∷◌, map}
use Rattle.std.proofs.Common.{length, Option, Some, None, option_map, refl, ap, ap₂, ◌∙◌}
use Rattle.std.proofs.Common.{arith}
use borrow.Author.Tests.{eqb-true}
use Rattle.std.proofs.lemmas.Bool.{and_parts}
use Rattle.std.proofs.lemmas.Bool.Decides.{nat_tests}
use Rattle.jp_doc.specs.Json.{Json}
use Rattle.jp_doc.specs.Location.{Location, Node, node}
use Rattle.jp_compiled.specs.declared.query.Want.{Want}
use Rattle.jp_compiled.specs.declared.query.Want.TheVariants as want
use Rattle.jp_found.specs.Aggregates.{tells, told}
use Rattle.jp_found.specs.Identical.{identical}
use Rattle.jp_found.specs.Different.{IsDifferent, is_different}
use Rattle.jp_value.specs.Functions.{first_value, only_value, distinct}
use Rattle.jp_found.specs.Kept.{Kept, alone_of, alone_value, put_found, plus, none_kept}
use Rattle.jp_found.specs.Kept.{taken, first, count, only, located}
use Rattle.jp_node.specs.Part.{part_value}
use Rattle.jp_found.specs.declared.aggregates.Aggregate.{Aggregate}
use Rattle.jp_found.specs.declared.aggregates.Aggregate.TheVariants as answer
use Rattle.jp_found.specs.declared.different.Different.{Different}
use Rattle.jp_found.specs.declared.found.Alone as code
use Rattle.jp_found.specs.declared.found.Alone.TheVariants.{One as one}
use Rattle.jp_node.specs.declared.part.Part.{Part}
use Rattle.jp_found.proofs.Differing.{differs_again}
use Rattle.jp_found.proofs.Parts.{alone_in, kept_all}
use Rattle.jp_found.proofs.Identity.{itself, identical_are, are_identical}

is_count : (n m : ℕ) → n ≡ m → (n == m) ≡ true
is_count n m e = grind (arith, nat_tests)

pub is_differing : (d : Different) (ns : List Node) → IsDifferent d ns → is_different d ns ≡ true
is_differing d ns h =
    ap₂ (λ a b. a && b) (is_count d.count (length (distinct ns)) h.0)
    (are_identical (alone_value (alone_of d.alone)) (only_value (distinct ns)) h.1)

differs : (d : Different) (ns : List Node) → is_different d ns ≡ true → IsDifferent d ns
differs d ns h =
    let ones = distinct ns in
    let parts = and_parts (d.count == length ones)
    (identical (alone_value (alone_of d.alone)) (only_value ones)) h in
    (eqb-true d.count (length ones) parts.0, identical_are _ _ parts.1)

-- what the answers tell

pub first_result : (o : Option Part) (ns : List Node) → tells want.First ns (answer.First o) ≡ true
    → option_map part_value o ≡ first_value ns
first_result o ns h = identical_are _ _ h

pub only_result : (a : code.Alone) (ns : List Node) → tells want.Only ns (answer.Only a) ≡ true
    → alone_value (alone_of a) ≡ only_value ns
only_result a ns h = identical_are _ _ h

-- the value that is told
pub told_first : (a : Aggregate) (ns : List Node) → tells want.First ns a ≡ true → told a ≡ first_value ns
told_first (answer.First o) ns h = first_result o ns h
told_first (answer.Count n) ns h = absurd cc
told_first (answer.Only a) ns h = absurd cc
told_first (answer.Distinct d) ns h = absurd cc

pub told_only : (a : Aggregate) (ns : List Node) → tells want.Only ns a ≡ true → told a ≡ only_value ns
told_only (answer.First o) ns h = absurd cc
told_only (answer.Count n) ns h = absurd cc
told_only (answer.Only a) ns h = only_result a ns h
told_only (answer.Distinct d) ns h = absurd cc

-- what is told of one node

pub one_first : (w : Want) (p : Part) → w ≡ want.First → (at : Location)
    → tells w (node at (part_value p) ∷ []) (answer.First (Some p)) ≡ true
one_first w p is at = ap (λ v. tells v (node at (part_value p) ∷ []) (answer.First (Some p))) is
    ∙ itself (part_value p)

pub one_only : (w : Want) (p : Part) → w ≡ want.Only → (at : Location)
    → tells w (node at (part_value p) ∷ []) (answer.Only (one p)) ≡ true
one_only w p is at = ap (λ v. tells v (node at (part_value p) ∷ []) (answer.Only (one p))) is
    ∙ itself (part_value p)

-- the only one, and how many there are
abbrev alone : Part → Different
alone p = record { count = 1; alone = one p }

pub one_different : (w : Want) (p : Part) → w ≡ want.Distinct → (at : Location)
    → tells w (node at (part_value p) ∷ []) (answer.Distinct (alone p)) ≡ true
one_different w p is at = ap (λ v. tells v (node at (part_value p) ∷ []) (answer.Distinct (alone p))) is
    ∙ itself (part_value p)

-- what is told once each location stands there once, by what is told of all

pub different_of_ones : (d : Different) (ns : List Node)
    → tells want.Distinct ns (answer.Distinct d) ≡ true
    → tells want.Distinct (distinct ns) (answer.Distinct d) ≡ true
different_of_ones d ns h = is_differing d (distinct ns) (differs_again d ns (distinct ns) (differs d ns h)
    refl)

-- what was kept tells what was wanted: its parts

abbrev first_in : {K : Type 0} → Kept K → Option Json
first_in (taken k) = None
first_in (first o) = o
first_in (count n) = None
first_in (only a) = None
first_in (located o ls) = o

abbrev count_in : {K : Type 0} → Kept K → ℕ
count_in (taken k) = 0
count_in (first o) = 0
count_in (count n) = n
count_in (only a) = 0
count_in (located o ls) = 0

abbrev value_in : {K : Type 0} → Kept K → Option Json
value_in (taken k) = None
value_in (first o) = None
value_in (count n) = None
value_in (only a) = alone_value a
value_in (located o ls) = None

abbrev locations_in : {K : Type 0} → Kept K → List Location
locations_in (taken k) = []
locations_in (first o) = []
locations_in (count n) = []
locations_in (only a) = []
locations_in (located o ls) = ls

alone_in_value : (ns : List Node) → alone_value (alone_in ns) ≡ only_value ns
alone_in_value [] = refl
alone_in_value (n ∷ []) = refl
alone_in_value (n ∷ m ∷ ns) = refl

module _ {K : Type 0} (put : K → Node → K) where
  pub first_tells : (w : Want) (ns : List Node) (o : Option Part)
      → first (option_map part_value o) ≡ plus (put_found put) (none_kept w) ns
      → tells w ns (answer.First o) ≡ true
  first_tells want.First ns o h = are_identical _ _ (ap first_in (h ∙ kept_all put want.First ns))
  first_tells want.Count ns o h = let clash = h ∙ kept_all put want.Count ns in absurd cc
  first_tells want.Only ns o h = let clash = h ∙ kept_all put want.Only ns in absurd cc
  first_tells want.Distinct ns o h = let clash = h ∙ kept_all put want.Distinct ns in absurd cc

  pub count_tells : (w : Want) (ns : List Node) (n : ℕ)
      → count n ≡ plus (put_found put) (none_kept w) ns
      → tells w ns (answer.Count n) ≡ true
  count_tells want.First ns n h = let clash = h ∙ kept_all put want.First ns in absurd cc
  count_tells want.Count ns n h = is_count _ _ (ap count_in (h ∙ kept_all put want.Count ns))
  count_tells want.Only ns n h = let clash = h ∙ kept_all put want.Only ns in absurd cc
  count_tells want.Distinct ns n h = let clash = h ∙ kept_all put want.Distinct ns in absurd cc

  pub only_tells : (w : Want) (ns : List Node) (a : code.Alone)
      → only (alone_of a) ≡ plus (put_found put) (none_kept w) ns
      → tells w ns (answer.Only a) ≡ true
  only_tells want.First ns a h = let clash = h ∙ kept_all put want.First ns in absurd cc
  only_tells want.Count ns a h = let clash = h ∙ kept_all put want.Count ns in absurd cc
  only_tells want.Only ns a h =
      are_identical _ _ (ap value_in (h ∙ kept_all put want.Only ns) ∙ alone_in_value ns)
  only_tells want.Distinct ns a h = let clash = h ∙ kept_all put want.Distinct ns in absurd cc

  pub located_tells : (w : Want) (ns : List Node) (d : Different) (o : Option Json) (ls : List Location)
      → located o ls ≡ plus (put_found put) (none_kept w) ns
      → ((ms : List Node) → o ≡ first_value ms → ls ≡ map (λ n. n.location) ms → IsDifferent d ms)
      → tells w ns (answer.Distinct d) ≡ true
  located_tells want.First ns d o ls h once = let clash = h ∙ kept_all put want.First ns in absurd cc
  located_tells want.Count ns d o ls h once = let clash = h ∙ kept_all put want.Count ns in absurd cc
  located_tells want.Only ns d o ls h once = let clash = h ∙ kept_all put want.Only ns in absurd cc
  located_tells want.Distinct ns d o ls h once =
      let e = h ∙ kept_all put want.Distinct ns in
      is_differing d ns (once ns (ap first_in e) (ap locations_in e))
