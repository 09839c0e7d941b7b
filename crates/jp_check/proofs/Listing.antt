-- What is asked of the document alone, in a list that grows.
use Rattle.std.proofs.Common.{◌≡◌, ℕ, List, [], ◌∷◌, ◌++◌, Bool, true, false, length, map, get_or, drop, cond}
use Rattle.std.proofs.Common.{refl, sym, ap, ap₂, ◌∙◌}
use Rattle.std.proofs.lemmas.Bool.{and_parts, and_from}
use Rattle.std.proofs.lemmas.List.{map-append}
use Rattle.jp_tree.specs.Tree as tree
use Rattle.jp_compiled.specs.Parts.{Wanted, wanted, truth_of, wanted_in, tested_in, logical_in}
use Rattle.jp_compiled.specs.Parts.{roots_of}
use Rattle.jp_compiled.specs.Uniform.{wanted_uniform, are_uniform}
use Rattle.jp_compiled.specs.declared.query.CompiledLogical.{CompiledLogical}
use Rattle.jp_compiled.specs.declared.query.CompiledLogical.TheVariants as log
use Rattle.jp_compiled.specs.declared.query.RootPart.{RootPart}
use Rattle.jp_compiled.specs.declared.query.RootPart.TheVariants as part
use Rattle.jp_compiled.specs.declared.query.Want.{Want}
use Rattle.jp_compiled.specs.declared.query.Want.TheVariants as want
use Rattle.jp_compiled.proofs.CompiledViews.{once_read}
use Rattle.jp_compiled.proofs.RootsListed.{listed_more}
use Rattle.jp_check.specs.inner.Making.{Begins, Reads}
use Rattle.jp_check.proofs.MakingSteps.{begins_itself, begins_on, slot_found}

behind : (ws : List Wanted) (w : Wanted) → are_uniform ws ≡ true → wanted_uniform w ≡ true
    → are_uniform (ws ++ w ∷ []) ≡ true
behind [] w h is = and_from (wanted_uniform w) true is refl
behind (v ∷ ws) w h is =
    let parts = and_parts (wanted_uniform v) (are_uniform ws) h in
    and_from (wanted_uniform v) (are_uniform (ws ++ w ∷ [])) parts.0 (behind ws w parts.1 is)

-- a list to which one part was added, if it was, of which no expression asks of the current node
pub still_uniform : (rs now : List RootPart) (r : RootPart) (b : Bool) → now ≡ cond b (rs ++ r ∷ []) rs
    → are_uniform (roots_of rs) ≡ true → wanted_uniform (wanted_in (roots_of rs) r) ≡ true
    → are_uniform (roots_of now) ≡ true
still_uniform rs now r true e h is = ap (λ xs. are_uniform (roots_of xs)) e
    ∙ ap are_uniform (listed_more [] rs r) ∙ behind (roots_of rs) (wanted_in (roots_of rs) r) h is
still_uniform rs now r false e h is = ap (λ xs. are_uniform (roots_of xs)) e ∙ h

pub query_uniform : (w : Want) (ss : tree.Segments) → wanted_uniform (wanted w ss) ≡ true
query_uniform want.First ss = refl
query_uniform want.Count ss = refl
query_uniform want.Only ss = refl
query_uniform want.Distinct ss = refl

-- an expression that is listed is what it was
pub once_listed : (rs more : List RootPart) (l : CompiledLogical) (slot : ℕ) (all : List Wanted)
    → slot ≡ length rs
    → more ≡ rs ++ part.Test l ∷ [] → Begins (roots_of more) all
    → logical_in all (log.Once slot) ≡ logical_in (roots_of rs) l
once_listed rs more l slot all at e h =
    once_read all slot
    ∙ ap (λ k. tested_in (get_or all k (truth_of (tree.all tree.no_logicals)))) at
    ∙ ap tested_in (slot_found rs more (part.Test l) all (truth_of (tree.all tree.no_logicals)) e h)

-- what holds of a list and one more holds of the list, and of one more
split : {T : Type 0} (f g : CompiledLogical → T) (done : List CompiledLogical) (l : CompiledLogical)
    → map f (done ++ l ∷ []) ≡ map g (done ++ l ∷ []) → (map f done ≡ map g done) × (f l ≡ g l)
split f g [] l e = (refl, ap (λ xs. get_or xs 0 (g l)) e)
split f g (d ∷ done) l e =
    let rest = split f g done l (ap (drop 1) e) in
    (ap₂ (λ x xs. x ∷ xs) (ap (λ xs. get_or xs 0 (g d)) e) rest.0, rest.1)

-- the expressions that were made of those that went before, and of one more
pub more_made : (first before now : List Wanted) (done made after : List CompiledLogical)
    (l k : CompiledLogical)
    → after ≡ made ++ k ∷ [] → Begins first before → Begins before now
    → ((x : List tree.Logical) → Reads first (λ all. map (logical_in all) done) x
    → Reads before (λ all. map (logical_in all) made) x)
    → ((x : tree.Logical) → Reads before (λ all. logical_in all l) x → Reads now (λ all. logical_in all k) x)
    → (x : List tree.Logical) → Reads first (λ all. map (logical_in all) (done ++ l ∷ [])) x
    → Reads now (λ all. map (logical_in all) after) x
more_made first before now done made after l k e h g rest one x r = λ all on.
    let here : (every : List Wanted) → Begins first every
    → (map (logical_in every) done ≡ map (logical_in first) done)
    × (logical_in every l ≡ logical_in first l) =
    λ every from. split (logical_in every) (logical_in first) done l
    (r every from ∙ sym (r first (begins_itself first))) in
    ap (map (logical_in all)) e ∙ map-append (logical_in all) made (k ∷ [])
    ∙ ap₂ (λ xs y. xs ++ y ∷ [])
    (rest (map (logical_in first) done) (λ every from. (here every from).0) all
    (begins_on before now all g on))
    (one (logical_in first l) (λ every from. (here every (begins_on first before every h from)).1) all on)
    ∙ sym (map-append (logical_in first) done (l ∷ [])) ∙ r first (begins_itself first)
