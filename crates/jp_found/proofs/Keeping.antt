-- What is kept of nodes found one after another.
use Rattle.std.proofs.Common.{◌≡◌, List, [], ◌∷◌, ◌++◌, true, false, refl, ap, sym, ◌∙◌}
use Rattle.std.proofs.lemmas.Grind.{fold-append}
use Rattle.std.specs.List.{fold}
use Rattle.jp_doc.specs.Location.{Node}
use Rattle.jp_compiled.specs.declared.query.Want.{Want}
use Rattle.jp_compiled.specs.declared.query.Want.TheVariants as want
use Rattle.jp_found.specs.Kept.{Kept, taken, first, count, only, located, put_found, plus, emptied_found}
use Rattle.jp_found.specs.Kept.{is_taken, none_kept}

module _ {K : Type 0} (put : K → Node → K) where
  pub plus-none : (k : K) → plus put k [] ≡ k
  unfolding plus
  plus-none k = refl

  pub plus-one : (k : K) (n : Node) → plus put k (n ∷ []) ≡ put k n
  unfolding plus
  plus-one k n = refl

  pub plus-append : (k : K) (xs ys : List Node) → plus put k (xs ++ ys) ≡ plus put (plus put k xs) ys
  unfolding plus
  plus-append k xs ys = fold-append put k xs ys

  -- one more part of what is to be found
  pub stepped : (k mid : K) (found rest all : List Node) (start : K) → mid ≡ plus put k found
      → plus put k (found ++ rest) ≡ plus put start all → plus put mid rest ≡ plus put start all
  stepped k mid found rest all start e h = ap (λ j. plus put j rest) e ∙ sym (plus-append k found rest)
      ∙ h

  -- nothing is left to be found
  pub ended : (k start : K) (all : List Node) → plus put k [] ≡ plus put start all
      → k ≡ plus put start all
  ended k start all h = sym (plus-none k) ∙ h

  -- nothing is found
  pub nothing_found : (k : K) (ns : List Node) → ns ≡ [] → k ≡ plus put k ns
  nothing_found k ns is = sym (ap (plus put k) is ∙ plus-none k)

  full_stays : (k : K) → ((n : Node) → put k n ≡ k) → (ns : List Node) → fold put k ns ≡ k
  full_stays k full [] = refl
  full_stays k full (n ∷ ns) = ap (λ j. fold put j ns) (full n) ∙ full_stays k full ns

  -- nothing more is to be found where it would change nothing
  pub full_enough : (k start : K) (rest all : List Node) → ((n : Node) → put k n ≡ k)
      → plus put k rest ≡ plus put start all → k ≡ plus put start all
  unfolding plus
  full_enough k start rest all full h = sym (full_stays k full rest) ∙ h

out_of : {K : Type 0} → Kept K → K → K
out_of (taken k) d = k
out_of (first o) d = d
out_of (count n) d = d
out_of (only a) d = d
out_of (located o ls) d = d

taken_fold : {K : Type 0} (put : K → Node → K) (k : K) (ns : List Node)
    → fold (put_found put) (taken k) ns ≡ taken (fold put k ns)
taken_fold put k [] = refl
taken_fold put k (n ∷ ns) = taken_fold put (put k n) ns

-- the visitor that comes out of a walk that began with one
pub taken_out : {K : Type 0} (put : K → Node → K) (k start : K) (ns : List Node)
    → taken k ≡ plus (put_found put) (taken start) ns → k ≡ fold put start ns
unfolding out_of plus
taken_out put k start ns h = ap (λ x. out_of x k) (h ∙ taken_fold put start ns)

-- the same of a visitor
pub taken_plus : {K : Type 0} (put : K → Node → K) (k : K) (ns : List Node)
    → taken (fold put k ns) ≡ plus (put_found put) (taken k) ns
unfolding plus
taken_plus put k ns = sym (taken_fold put k ns)

emptied_once : {K : Type 0} (put : K → Node → K) (emptied : K → K)
    → ((k : K) (n : Node) → emptied (put k n) ≡ emptied k) → (k : Kept K) (n : Node)
    → emptied_found emptied (put_found put k n) ≡ emptied_found emptied k
emptied_once put emptied law (taken k) n = ap taken (law k n)
emptied_once put emptied law (first o) n = refl
emptied_once put emptied law (count m) n = refl
emptied_once put emptied law (only a) n = refl
emptied_once put emptied law (located o ls) n = refl

-- an empty visitor of the same kind is the same later
pub emptied_stays : {K : Type 0} (put : K → Node → K) (emptied : K → K)
    → ((k : K) (n : Node) → emptied (put k n) ≡ emptied k) → (k : Kept K) (ns : List Node)
    → emptied_found emptied (plus (put_found put) k ns) ≡ emptied_found emptied k
unfolding plus
emptied_stays put emptied law k [] = refl
emptied_stays put emptied law k (n ∷ ns) = emptied_stays put emptied law (put_found put k n) ns
    ∙ emptied_once put emptied law k n

taken_once : {K : Type 0} (put : K → Node → K) (k : Kept K) (n : Node)
    → is_taken (put_found put k n) ≡ is_taken k
taken_once put (taken k) n = refl
taken_once put (first o) n = refl
taken_once put (count m) n = refl
taken_once put (only a) n = refl
taken_once put (located o ls) n = refl

-- whether a visitor keeps the nodes does not change
taken_stays : {K : Type 0} (put : K → Node → K) (k : Kept K) (ns : List Node)
    → is_taken (fold (put_found put) k ns) ≡ is_taken k
taken_stays put k [] = refl
taken_stays put k (n ∷ ns) = taken_stays put (put_found put k n) ns ∙ taken_once put k n

-- a part of a walk that begins with a visitor begins with one too
pub taken_on : {K : Type 0} (put : K → Node → K) (start k : Kept K) (all rest : List Node)
    → plus (put_found put) k rest ≡ plus (put_found put) start all → is_taken start ≡ true
    → is_taken k ≡ true
unfolding plus
taken_on put start k all rest h is = sym (taken_stays put k rest) ∙ ap is_taken h
    ∙ taken_stays put start all ∙ is

none_taken : (K : Type 0) (wanted : Want) → is_taken (none_kept {K = K} wanted) ≡ false
none_taken K want.First = refl
none_taken K want.Count = refl
none_taken K want.Only = refl
none_taken K want.Distinct = refl

-- a walk that began with a visitor ends with one
pub still_taken : {K : Type 0} (put : K → Node → K) (start : K) (ns : List Node) (k : Kept K)
    → k ≡ plus (put_found put) (taken start) ns → is_taken k ≡ true
unfolding plus
still_taken put start ns k h = ap is_taken h ∙ taken_stays put (taken start) ns

-- a walk that began with what a filter wants ends with no visitor
pub not_taken : {K : Type 0} (put : K → Node → K) (wanted : Want) (ns : List Node) (before k : Kept K)
    → k ≡ plus (put_found put) before ns → before ≡ none_kept wanted → is_taken k ≡ true → ⊥
unfolding plus
not_taken {K} put wanted ns before k h none is =
    cc (sym is ∙ ap is_taken h ∙ taken_stays put before ns ∙ ap is_taken none ∙ none_taken K wanted)
