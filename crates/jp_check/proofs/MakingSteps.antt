-- Steps of compiling a query.
use Rattle.std.proofs.Common.{arith, length-append, ◌≡◌, ℕ, ◌+◌, ◌<◌, ◌≤◌, List, [], ◌∷◌, ◌++◌, length}
use Rattle.std.proofs.Common.{get_or, drop, map, refl, sym, ap, ◌∙◌, append_assoc, append-nil, Vec, Global}
use Rattle.std.proofs.Math.Seq.{get_or-append_seam}
use Rattle.std.proofs.lemmas.List.{at_drop_more, at_drop_all, map-append}
use Rattle.jp_check.specs.inner.Making.{Begins, Reads}
use Rattle.jp_tree.specs.Tree as tree
use Rattle.jp_tree.specs.declared.tree.Start.TheVariants as start
use Rattle.jp_compiled.specs.Parts.{Wanted, wanted, where_wanted, root_at, wanted_in}
use Rattle.jp_compiled.specs.Parts.{roots_behind, roots_of}
use Rattle.jp_compiled.specs.Parts.{segments_in}
use Rattle.jp_compiled.proofs.RootsListed.{listed_more}
use Rattle.jp_compiled.specs.declared.query.Want.{Want}
use Rattle.jp_compiled.specs.declared.query.Want.TheVariants as want
use Rattle.jp_compiled.specs.declared.query.RootPart.{RootPart}
use Rattle.jp_compiled.specs.declared.query.RootPart.TheVariants as part
use Rattle.jp_compiled.specs.declared.query.CompiledSegment.{CompiledSegment}

pub begins_itself : (a : List Wanted) → Begins a a
begins_itself a = ([], sym (append-nil a))

pub begins_on : (a b c : List Wanted) → Begins a b → Begins b c → Begins a c
begins_on a b c h g = (h.0 ++ g.0, g.1 ∙ ap (λ x. x ++ g.0) h.1 ∙ append_assoc a h.0 g.0)

pub later : {A : Type 0} (a b : List Wanted) (view : List Wanted → A) (x : A) → Begins a b
    → Reads a view x → Reads b view x
later a b view x h r = λ all g. r all (begins_on a b all h g)

module _ {X Y T : Type 0} (view : List Wanted → Y → T) (of : X → T) (xs : List X) (i : ℕ) where
  pub made_more : (x : X) (y : Y) (made after : List Y) (before now : List Wanted) → i < length xs
      → x ≡ get_or xs i x → after ≡ made ++ y ∷ [] → Begins before now
      → Reads now (λ all. view all y) (of x)
      → Reads before (λ all. map (view all) made ++ map of (drop i xs)) (map of xs)
      → Reads now (λ all. map (view all) after ++ map of (drop (i + 1) xs)) (map of xs)
  made_more x y made after before now within is e h r inv = λ all g.
      let rest = map of (drop (i + 1) xs) in
      let split : map of (drop i xs) ≡ of x ∷ rest = at_drop_more (map of) xs i x within
      ∙ ap (λ z. of z ∷ rest) (sym is) in
      ap (λ ys. map (view all) ys ++ rest) e
      ∙ ap (λ ts. ts ++ rest) (map-append (view all) made (y ∷ []))
      ∙ append_assoc (map (view all) made) (view all y ∷ []) rest
      ∙ ap (λ t. map (view all) made ++ t ∷ rest) (r all g)
      ∙ ap (λ ts. map (view all) made ++ ts) (sym split)
      ∙ inv all (begins_on before now all h g)

  pub made_all : (made : List Y) (now : List Wanted) → length xs ≤ i
      → Reads now (λ all. map (view all) made ++ map of (drop i xs)) (map of xs)
      → Reads now (λ all. map (view all) made) (map of xs)
  made_all made now past inv = λ all g. sym (append-nil (map (view all) made))
      ∙ ap (λ ts. map (view all) made ++ ts) (sym (at_drop_all (map of) xs i past)) ∙ inv all g

listed_length : (before : List Wanted) (rs : List RootPart) → length (roots_behind before rs)
    ≡ length before + length rs
listed_length before [] = omega arith
listed_length before (q ∷ rs) =
    let one : length (before ++ wanted_in before q ∷ []) ≡ length before + 1 =
    length-append before (wanted_in before q ∷ []) in
    let e : length (roots_behind (before ++ wanted_in before q ∷ []) rs)
    ≡ length (before ++ wanted_in before q ∷ []) + length rs =
    listed_length (before ++ wanted_in before q ∷ []) rs in
    omega (arith, one, e)

-- the list with one `$` query more begins with the list
pub listed_begins : (rs more : List RootPart) (r : RootPart) → more ≡ rs ++ r ∷ []
    → Begins (roots_of rs) (roots_of more)
listed_begins rs more r e = (wanted_in (roots_of rs) r ∷ [], ap roots_of e ∙ listed_more [] rs r)

-- what is found at the slot of the new one
pub slot_found : (rs more : List RootPart) (r : RootPart) (all : List Wanted) (d : Wanted)
    → more ≡ rs ++ r ∷ [] → Begins (roots_of more) all → get_or all (length rs) d
    ≡ wanted_in (roots_of rs) r
slot_found rs more r all d e h =
    let w = wanted_in (roots_of rs) r in
    let is : all ≡ roots_of rs ++ w ∷ h.0 = h.1 ∙ ap (λ x. x ++ h.0) (ap roots_of e ∙ listed_more [] rs r)
    ∙ append_assoc (roots_of rs) (w ∷ []) h.0 in
    let count : length (roots_of rs) ≡ 0 + length rs = listed_length [] rs in
    let n : length rs ≡ length (roots_of rs) = omega (arith, count) in
    ap (λ ws. get_or ws (length rs) d) is ∙ ap (λ k. get_or (roots_of rs ++ w ∷ h.0) k d) n
    ∙ get_or-append_seam (roots_of rs) w h.0 d

pub where_found : (w : Want) (ss : tree.Segments) → where_wanted w (wanted w ss) ≡ ss
where_found want.First ss = refl
where_found want.Count ss = refl
where_found want.Only ss = refl
where_found want.Distinct ss = refl

pub root_found : (rs more : List RootPart) (w : Want) (v : Vec CompiledSegment Global) (slot : ℕ)
    (all : List Wanted)
    → slot ≡ length rs → more ≡ rs ++ part.Query (record { want = w; segments = v }) ∷ []
    → Begins (roots_of more) all
    → root_at all slot w ≡ tree.query start.Root (segments_in (roots_of rs) v.items)
root_found rs more w v slot all at e h =
    ap (λ k. root_at all k w) at
    ∙ ap (λ x. tree.query start.Root (where_wanted w x))
    (slot_found rs more (part.Query (record { want = w; segments = v })) all (wanted w tree.no_segments) e h)
    ∙ ap (tree.query start.Root) (where_found w (segments_in (roots_of rs) v.items))
