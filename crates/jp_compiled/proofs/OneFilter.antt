-- A query is one filter where its expression is found.
use Rattle.std.proofs.Common.{◌≡◌, Option, Some, None, true, false, sym, ap, ◌∙◌, option_map}
use Rattle.std.specs.Prelude.{MatchOption}
use Rattle.jp_tree.specs.Tree.{Logical, Query, query, Segments, no_segments, add_segment, segment, Selectors}
use Rattle.jp_tree.specs.Tree.{no_selectors, add_selector, name, wildcard, index, slice, filter}
use Rattle.jp_tree.specs.declared.tree.Start.TheVariants.{Root, Current}
use Rattle.jp_compiled.specs.Filter.{filter_query}
use Rattle.jp_compiled.specs.inner.OnlyFilter.{query_filter, segments_filter, selectors_filter}

selectors_one : (xs : Selectors) (l : Logical) → Some l ≡ selectors_filter xs
    → xs ≡ add_selector (filter l) no_selectors
selectors_one no_selectors l h = absurd cc
selectors_one (add_selector (name k) no_selectors) l h = absurd cc
selectors_one (add_selector wildcard no_selectors) l h = absurd cc
selectors_one (add_selector (index t) no_selectors) l h = absurd cc
selectors_one (add_selector (slice first past step) no_selectors) l h = absurd cc
selectors_one (add_selector (filter m) no_selectors) l h = let e : l ≡ m = cc in
    ap (λ k. add_selector (filter k) no_selectors) (sym e)
selectors_one (add_selector x (add_selector y xs)) l h = absurd cc

segments_one : (ss : Segments) (l : Logical) → Some l ≡ segments_filter ss
    → ss ≡ add_segment (segment false (add_selector (filter l) no_selectors)) no_segments
segments_one no_segments l h = absurd cc
segments_one (add_segment (segment true xs) no_segments) l h = absurd cc
segments_one (add_segment (segment false xs) no_segments) l h =
    ap (λ ys. add_segment (segment false ys) no_segments) (selectors_one xs l h)
segments_one (add_segment s (add_segment t ss)) l h = absurd cc

pub query_one : (q : Query) (l : Logical) → Some l ≡ query_filter q → q ≡ filter_query l
query_one (query Root ss) l h = ap (query Root) (segments_one ss l h)
query_one (query Current ss) l h = absurd cc

-- what is found, where it is found as this
pub one_filter : {L : Type 0} (meaning : L → Logical) (r : Option L) (q : Query)
    → option_map meaning r ≡ query_filter q
    → MatchOption r ((l : Logical) → q ≡ filter_query l → ⊥) (λ l. q ≡ filter_query (meaning l))
one_filter meaning None q e = λ l h.
    let told : None ≡ Some l = e ∙ ap query_filter h in
    absurd cc
one_filter meaning (Some l) q e = query_one q (meaning l) e
