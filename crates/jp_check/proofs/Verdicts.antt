-- What each verdict says.
use Rattle.std.proofs.Common.{◌≡◌, Bool, true, false, not, Result, Ok, Err, refl, sym, subst}
use Rattle.std.proofs.Math.Logic.{∥∥₁_map}
use Rattle.std.specs.Prelude.{◌≤◌, ◌↔◌, ◌&&◌, if◌then◌else◌}
use Rattle.jp_tree.specs.Tree.{Text, Query}
use Rattle.jp_tree.specs.Spelling.{Spells}
use Rattle.jp_tokens.specs.Depth.{bracket_depth, max_depth}
use Rattle.jp_tree.specs.declared.fault.QueryFault.{QueryFault}
use Rattle.jp_tree.specs.declared.fault.QueryFault.TheVariants.{TooDeep, Syntax, Fraction, Range}
use Rattle.jp_tree.specs.declared.fault.QueryFault.TheVariants.{IllTyped, Memory}
use Rattle.jp_types.specs.Numbers.{are_whole, has_fraction, in_range_in, query_numbers}
use Rattle.jp_types.specs.Faults.{faults_of}
use Rattle.jp_number.specs.declared.numbers.Numbers.TheVariants.{Whole, Decimals}
use Rattle.jp_number.specs.declared.numbers.Numbers.{Numbers}
use Rattle.jp_types.specs.Typing.{query_typed}
use Rattle.jp_check.specs.Verdict.{verdict_in, IsAcceptedIn}

-- the verdict by the three tests
abbrev judged : Bool → Bool → Bool → Query → Result Query QueryFault
judged fraction range typed q = if fraction then Err Fraction else if not range then Err Range else if not
    typed then Err IllTyped else Ok q

judged_ok : (f r t : Bool) (q p : Query) → judged f r t q ≡ Ok p → (p ≡ q) × (f ≡ false) × (r ≡ true)
    × (t ≡ true)
judged_ok true r t q p h = absurd cc
judged_ok false false t q p h = absurd cc
judged_ok false true false q p h = absurd cc
judged_ok false true true q p h = let e : q ≡ p = cc in (sym e, refl, refl, refl)

judged_fraction : (f r t : Bool) (q : Query) → judged f r t q ≡ Err Fraction ↔ (f ≡ true)
judged_fraction true r t q = (λ h. refl, λ h. refl)
judged_fraction false false t q = (λ h. absurd cc, λ h. absurd cc)
judged_fraction false true false q = (λ h. absurd cc, λ h. absurd cc)
judged_fraction false true true q = (λ h. absurd cc, λ h. absurd cc)

judged_range : (f r t : Bool) (q : Query) → judged f r t q ≡ Err Range ↔ ((f ≡ false) × (r ≡ false))
judged_range true r t q = (λ h. absurd cc, λ h. absurd cc)
judged_range false false t q = (λ h. (refl, refl), λ h. refl)
judged_range false true false q = (λ h. absurd cc, λ h. absurd cc)
judged_range false true true q = (λ h. absurd cc, λ h. absurd cc)

judged_type : (f r t : Bool) (q : Query) → judged f r t q ≡ Err IllTyped
    ↔ ((f ≡ false) × (r ≡ true) × (t ≡ false))
judged_type true r t q = (λ h. absurd cc, λ h. absurd cc)
judged_type false false t q = (λ h. absurd cc, λ h. absurd cc)
judged_type false true false q = (λ h. (refl, refl, refl), λ h. refl)
judged_type false true true q = (λ h. absurd cc, λ h. absurd cc)

judged_no_other : (f r t : Bool) (q : Query) → (judged f r t q ≡ Err TooDeep → ⊥)
    × (judged f r t q ≡ Err Syntax → ⊥) × (judged f r t q ≡ Err Memory → ⊥)
judged_no_other true r t q = (λ h. absurd cc, λ h. absurd cc, λ h. absurd cc)
judged_no_other false false t q = (λ h. absurd cc, λ h. absurd cc, λ h. absurd cc)
judged_no_other false true false q = (λ h. absurd cc, λ h. absurd cc, λ h. absurd cc)
judged_no_other false true true q = (λ h. absurd cc, λ h. absurd cc, λ h. absurd cc)

-- what the faults of a query say of its ranges
pub range_by_faults : (numbers : Numbers) (q : Query) (typed : Bool)
    → (if are_whole numbers then (faults_of (query_numbers q) typed).out_of_range
    else (faults_of (query_numbers q) typed).over_limits) ≡ not (in_range_in numbers q)
range_by_faults Whole q typed = refl
range_by_faults Decimals q typed = refl

-- by the numbers that literals may be
module _ (numbers : Numbers) where
  -- fractions and exponents are refused, and there is one
  abbrev fraction : Query → Bool
  fraction q = are_whole numbers && has_fraction q

  abbrev range : Query → Bool
  range q = in_range_in numbers q

  abbrev verdict : Query → Result Query QueryFault
  verdict q = verdict_in numbers q

  pub accepts : (q : Query) → fraction q ≡ false → range q ≡ true → query_typed q ≡ true → verdict q ≡ Ok q
  accepts q f r t = rw (f, r, t) refl

  pub accepts_only : (q p : Query) → verdict q ≡ Ok p → (p ≡ q) × (fraction q ≡ false) × (range q ≡ true)
      × (query_typed q ≡ true)
  accepts_only q p h = judged_ok (fraction q) (range q) (query_typed q) q p h

  pub refuses_fraction : (q : Query) → verdict q ≡ Err Fraction ↔ (fraction q ≡ true)
  refuses_fraction q = judged_fraction (fraction q) (range q) (query_typed q) q

  pub refuses_range : (q : Query) → verdict q ≡ Err Range ↔ ((fraction q ≡ false) × (range q ≡ false))
  refuses_range q = judged_range (fraction q) (range q) (query_typed q) q

  pub refuses_type : (q : Query) → verdict q ≡ Err IllTyped
      ↔ ((fraction q ≡ false) × (range q ≡ true) × (query_typed q ≡ false))
  refuses_type q = judged_type (fraction q) (range q) (query_typed q) q

  pub no_other_refusal : (q : Query) → (verdict q ≡ Err TooDeep → ⊥) × (verdict q ≡ Err Syntax → ⊥)
      × (verdict q ≡ Err Memory → ⊥)
  no_other_refusal q = judged_no_other (fraction q) (range q) (query_typed q) q

  pub accepts_text : (t : Text) (q : Query) → IsAcceptedIn numbers t q ↔ ((bracket_depth t ≤ max_depth)
      × Spells t q × (fraction q ≡ false) × (range q ≡ true) × (query_typed q ≡ true))
  accepts_text t q = (
    λ h. let p = h.1.0 in let a =
        accepts_only p q h.1.2 in (
          h.0,
          subst (Spells t) (sym a.0) h.1.1,
          subst (λ r. fraction r ≡ false)
              (sym a.0) a.1,
          subst (λ r. range r ≡ true) (sym a.0) a.2,
          subst (λ r. query_typed r ≡ true)
              (sym a.0) a.3,
        ),
    λ h. (h.0, (q, h.1, accepts q h.2 h.3 h.4)),
  )

  -- what some text within the depth limit spells is accepted where its verdict is the tree itself
  pub accepted_by : (q : Query) → ∥ ((t : Text) × (bracket_depth t ≤ max_depth) × Spells t q) ∥₁
      → verdict q ≡ Ok q → ∥ ((t : Text) × IsAcceptedIn numbers t q) ∥₁
  accepted_by q spelled e = ∥∥₁_map spelled (λ s. (s.0, (s.1, (q, s.2, e))))
