-- The text of a path spells the path's query, with one bracket open at most.
use Rattle.std.proofs.Common.{◌≡◌, ◌≤◌, [], ◌∷◌, ◌++◌, codes, decimal, map, refl, ap, ◌∙◌, subst}
use Rattle.std.proofs.Common.{append_assoc, arith}
use Rattle.std.proofs.lemmas.List.{append-nil}
use Rattle.std.specs.List.{flat_map}
use Rattle.jp_doc.specs.Location as at
use Rattle.jp_doc.specs.Location.{Location}
use Rattle.jp_tree.specs.Tree.{Text, Query}
use Rattle.jp_tree.specs.Tree as tree
use Rattle.jp_tree.specs.Parts.{Star, none, more, Behind, behind, separated}
use Rattle.jp_tree.specs.Spelling as sp
use Rattle.jp_tree.specs.Spelling.{Spells, spells, SegmentIs, SelectorIs, LogicalIs}
use Rattle.jp_tokens.specs.Depth.{outside, bracket_depth}
use Rattle.jp_syntax.proofs.OneTree.{one_tree}
use Rattle.jp_node.specs.Path.{escaped, step_text, path_text}
use Rattle.jp_quote.proofs.Literals.{quoted_string}
use Rattle.jp_path.specs.PathQuery.{step_segment, path_query, IsStep, AreSteps}
use Rattle.jp_path.proofs.EscapedName.{name_stays, quoted_place}
use Rattle.jp_path.proofs.IndexText.{decimal_is_int, decimal_stays}
use Rattle.jp_path.proofs.Passing.{Passes, passes_none, passes_on}

-- no logical expression stands inside
abbrev Nowhere : Text → tree.Logical → Type 0
Nowhere = LogicalIs 0

-- the quotes and the brackets round a name, and the brackets round an index
name_joined : (t : Text) → 91 ∷ ((39 ∷ t ++ 39 ∷ []) ++ []) ++ 93 ∷ [] ≡ 91 ∷ 39 ∷ (t ++ 39 ∷ 93 ∷ [])
name_joined t = ap (λ (u : Text). 91 ∷ 39 ∷ u) (ap (λ (u : Text). u ++ 93 ∷ []) (append-nil (t ++ 39 ∷ []))
    ∙ append_assoc t (39 ∷ []) (93 ∷ []))

index_joined : (t : Text) → 91 ∷ (t ++ []) ++ 93 ∷ [] ≡ 91 ∷ (t ++ 93 ∷ [])
index_joined t = ap (λ (u : Text). 91 ∷ (u ++ 93 ∷ [])) (append-nil t)

-- a selector alone in its brackets
bracket : (s : Text) (x : tree.Selector) → SelectorIs Nowhere s x
    → SegmentIs Nowhere (91 ∷ (s ++ []) ++ 93 ∷ []) (tree.child (x ∷ []))
bracket s x p =
    sp.child_bracketed _ (x ∷ []) (sp.bracketed [] (s ++ []) [] (x ∷ []) tt (separated s [] x [] p none) tt)

step_spelled : (s : at.Step) → IsStep s → SegmentIs Nowhere (step_text s) (step_segment s)
step_spelled (at.name k) h =
    subst (λ (t : Text). SegmentIs Nowhere t (step_segment (at.name k))) (name_joined (flat_map escaped k))
    (bracket (39 ∷ flat_map escaped k ++ 39 ∷ []) (tree.name k) (sp.name (39 ∷ flat_map escaped k ++ 39 ∷ [])
    k (quoted_string k h)))
step_spelled (at.index i) h =
    subst (λ (t : Text). SegmentIs Nowhere t (step_segment (at.index i))) (index_joined (decimal i))
    (bracket (decimal i) (tree.index (decimal i)) (sp.index (decimal i) (decimal_is_int i h)))

steps_spelled : (l : Location) → AreSteps l → Star (Behind (SegmentIs Nowhere)) (flat_map step_text l)
    (map step_segment l)
steps_spelled [] h = none
steps_spelled (s ∷ l) h =
    more (step_text s) (flat_map step_text l) (step_segment s) (map step_segment l)
    (behind [] (step_text s) (step_segment s) tt (step_spelled s h.0))
    (steps_spelled l h.1)

pub path_spelled : (l : Location) → AreSteps l → Spells (path_text l) (path_query l)
path_spelled l h = spells 0 (flat_map step_text l) (map step_segment l) (steps_spelled l h)

-- each step opens one bracket and closes it
step_stays : (s : at.Step) → IsStep s → Passes (outside 0) (step_text s) (outside 0)
step_stays (at.name k) h =
    passes_on (outside 0) quoted_place (outside 0) (codes "['") (flat_map escaped k ++ codes "']")
    (record { leads = refl; flat = omega arith })
    (passes_on quoted_place quoted_place (outside 0) (flat_map escaped k) (codes "']") (name_stays k)
    (record { leads = refl; flat = omega arith }))
step_stays (at.index i) h =
    passes_on (outside 0) (outside 1) (outside 0) (codes "[") (decimal i ++ codes "]")
    (record { leads = refl; flat = omega arith })
    (passes_on (outside 1) (outside 1) (outside 0) (decimal i) (codes "]") (decimal_stays i h)
    (record { leads = refl; flat = omega arith }))

steps_stay : (l : Location) → AreSteps l → Passes (outside 0) (flat_map step_text l) (outside 0)
steps_stay [] h = passes_none (outside 0) (omega arith)
steps_stay (s ∷ l) h = passes_on (outside 0) (outside 0) (outside 0) (step_text s) (flat_map step_text l)
    (step_stays s h.0) (steps_stay l h.1)

pub path_depth : (l : Location) → AreSteps l → bracket_depth (path_text l) ≤ 1
path_depth l h =
    let p = passes_on (outside 0) (outside 0) (outside 0) (codes "$") (flat_map step_text l)
    (record { leads = refl; flat = omega arith }) (steps_stay l h) in
    p.flat

pub path_spelled_only : (l : Location) (q : Query) → AreSteps l → Spells (path_text l) q → q ≡ path_query l
path_spelled_only l q h p = one_tree (path_text l) q (path_query l) p (path_spelled l h)
