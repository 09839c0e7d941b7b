-- The verdict of a text as a filter by itself: what may stand behind `?` in `$[?FILTER]` (RFC 9535, 2.3.5).
use Rattle.std.specs.Prelude.{◌≡◌, ◌++◌, ◌⊎◌, codes, false, Result, Ok, Err}
use Rattle.jp_number.specs.declared.numbers.Numbers.{Numbers}
use Rattle.jp_tree.specs.Tree.{Text, Query, query, segment, filter, Logical, any, no_segments, add_segment}
use Rattle.jp_tree.specs.Tree.{no_selectors, add_selector, no_logicals}
use Rattle.jp_tree.specs.declared.fault.QueryFault.{QueryFault}
use Rattle.jp_tree.specs.declared.fault.QueryFault.TheVariants.{Syntax}
use Rattle.jp_tree.specs.declared.tree.Start.TheVariants.{Root}
use Rattle.jp_compiled.specs.Filter.{filter_query}
use Rattle.jp_check.specs.Verdict.{IsVerdictIn, IsAcceptedIn}

-- the query text with this filter
abbrev pub filter_text : Text → Text
filter_text t = codes "$[?" ++ (t ++ codes "]")

-- the text is accepted, with a tree that has another selector or another segment than one filter
abbrev pub IsMoreThanFilter : Numbers → Text → Type 0
IsMoreThanFilter numbers t = (q : Query) × IsAcceptedIn numbers t q × ((l : Logical) → q ≡ filter_query l → ⊥)

-- The verdict of a text as a filter is that of the query text with it, which has to have this filter alone.
abbrev pub IsFilterVerdictIn : Numbers → Text → Result Logical QueryFault → Type 0
IsFilterVerdictIn numbers t (Ok l) = IsAcceptedIn numbers (filter_text t) (filter_query l)
IsFilterVerdictIn numbers t (Err Syntax) = IsVerdictIn numbers (filter_text t) (Err Syntax)
    ⊎ IsMoreThanFilter numbers (filter_text t)
IsFilterVerdictIn numbers t (Err fault) = IsVerdictIn numbers (filter_text t) (Err fault)

-- the expression of a query that is one filter; of any other query, one that is never true
abbrev pub filter_inside : Query → Logical
filter_inside (query Root (add_segment (segment false (add_selector (filter l) no_selectors)) no_segments))
    = l
filter_inside _ = any no_logicals

-- the query is one filter
abbrev pub IsOneFilter : Query → Type 0
IsOneFilter q = q ≡ filter_query (filter_inside q)
