-- A text has one verdict as a filter.
use Rattle.std.proofs.Common.{◌≡◌, Option, Some, None, Result, Ok, Err, Bool, true, false, refl, sym, ap, ◌∙◌}
use Rattle.std.proofs.Common.{subst, inl, inr}
use Rattle.std.specs.Prelude.{is_some, not}
use Rattle.jp_number.specs.declared.numbers.Numbers.{Numbers}
use Rattle.jp_tree.specs.Tree.{Text, Query, Logical}
use Rattle.jp_tree.specs.declared.fault.QueryFault.{QueryFault}
use Rattle.jp_tree.specs.declared.fault.QueryFault.TheVariants.{TooDeep, Syntax, Fraction, Range}
use Rattle.jp_tree.specs.declared.fault.QueryFault.TheVariants.{IllTyped, Memory}
use Rattle.jp_compiled.specs.Filter.{filter_query}
use Rattle.jp_compiled.specs.inner.OnlyFilter.{query_filter}
use Rattle.jp_compiled.proofs.OneFilter.{query_one}
use Rattle.jp_check.specs.Verdict.{IsVerdictIn, IsAcceptedIn}
use Rattle.jp_check.specs.Filter.{filter_text, IsFilterVerdictIn}
use Rattle.jp_check.proofs.OneVerdict.{one_verdict}

-- what is said of a filter where this is found in the query with it
abbrev found : Option Logical → Result Logical QueryFault
found None = Err Syntax
found (Some l) = Ok l

-- what the verdict of the query text says of the filter
abbrev as_filter : Result Query QueryFault → Result Logical QueryFault
as_filter (Err fault) = Err fault
as_filter (Ok q) = found (query_filter q)

found_none : (o : Option Logical) → ((l : Logical) → Some l ≡ o → ⊥) → found o ≡ Err Syntax
found_none None none = refl
found_none (Some l) none = absurd (none l refl)

-- the verdict of the query text that a verdict of a filter comes of
abbrev Comes : Numbers → Text → Result Logical QueryFault → Type 0
Comes numbers t r = (v : Result Query QueryFault) × IsVerdictIn numbers (filter_text t) v × (as_filter v ≡ r)

comes : (numbers : Numbers) (t : Text) (r : Result Logical QueryFault) → IsFilterVerdictIn numbers t r
    → Comes numbers t r
comes numbers t (Ok l) h = (Ok (filter_query l), h, refl)
comes numbers t (Err Syntax) h =
    elim h [
      | inl refused ↦ (Err Syntax, refused, refl)
      | inr more ↦ (
        Ok more.0,
        more.1,
        found_none (query_filter more.0) (λ l e. more.2 l (query_one more.0 l e)),
      )
    ]
comes numbers t (Err TooDeep) h = (Err TooDeep, h, refl)
comes numbers t (Err Fraction) h = (Err Fraction, h, refl)
comes numbers t (Err Range) h = (Err Range, h, refl)
comes numbers t (Err IllTyped) h = (Err IllTyped, h, refl)
comes numbers t (Err Memory) h = (Err Memory, h, refl)

pub one_filter_verdict : (numbers : Numbers) (t : Text) (r s : Result Logical QueryFault)
    → IsFilterVerdictIn numbers t r → IsFilterVerdictIn numbers t s → r ≡ s
one_filter_verdict numbers t r s h k =
    let a = comes numbers t r h in
    let b = comes numbers t s k in
    sym a.2 ∙ ap as_filter (one_verdict numbers (filter_text t) a.0 b.0 a.1 b.1) ∙ b.2

-- where nothing is found
pub nothing : {A : Type 0} (o : Option A) (truth : Bool) → is_some o ≡ not truth → truth ≡ true → o ≡ None
nothing None truth e t = refl
nothing (Some x) truth e t = let no : true ≡ false = e ∙ ap not t in absurd cc

-- a query text that is accepted with another tree than that of one filter
pub more_refused : (numbers : Numbers) (t s : Text) (q : Query) → s ≡ filter_text t
    → IsAcceptedIn numbers s q → ((l : Logical) → q ≡ filter_query l → ⊥)
    → IsFilterVerdictIn numbers t (Err Syntax)
more_refused numbers t s q same accepted more =
    inr (q, subst (λ u. IsAcceptedIn numbers u q) same accepted, more)
