-- What the notes are told of a refused query.
use Rattle.std.proofs.Common.{◌≡◌, ℕ, ◌⊎◌, inl, inr, Bool, true, List, ◌++◌, Option, Some, ap}
use Rattle.std.proofs.Common.{Result, Ok, Err, OnOk, OnErr, arith, sym, subst}
use Rattle.std.specs.Prelude.{IsSomeAnd, String, string_bytes}
use Rattle.std.specs.declared.alloc.Global.{Global}
use Rattle.std.specs.Io.KnownBytes.{Appends}
use Rattle.std.proofs.KnownBytes.{Appends-trans}
use Rattle.jp_number.specs.declared.numbers.Numbers.{Numbers}
use Rattle.jp_tree.specs.Tree.{Text}
use Rattle.jp_tree.specs.declared.fault.QueryFault.{QueryFault}
use Rattle.jp_check.specs.Verdict.{IsVerdictIn}
use Rattle.jp_explain.specs.Mark.{IsQuery}
use Rattle.jp_explain.proofs.Marks.{no_query}
use Rattle.jp_run.specs.declared.fault.RunFault.{RunFault}
use Rattle.jp_run.specs.declared.fault.RunFault.TheVariants.{Query, Filter, Memory}
use Rattle.jp_run.specs.Status.{status_of}
use Rattle.jp_program.specs.Outcome.{IsRefusedWish}
use Rattle.jp_program.specs.Told.{filter_line, memory_line, query_line, IsExplained, IsFilterExplained}
use Rattle.jp_program.specs.Told.{IsNote, IsTold}
use Rattle.jp_program.specs.Wanted.{Wanted}
use Rattle.jp_program.proofs.Told.{refused_status}

-- a note is written, or the notes have failed
pub noted : {T E : Type 0} (r : Result T E) (failed : Bool) (P : Type 0) → OnOk r P → OnErr r (failed ≡ true)
    → (failed ≡ true) ⊎ P
noted (Ok x) failed P written broken = inr written
noted (Err e) failed P written broken = inl broken

-- a line, and what stands behind it
both : (w : Wanted) (Explained : Wanted → List ℕ → Type 0) (said : List ℕ) (second first : Bool)
    (a b c : Option (List ℕ)) (line more : List ℕ)
    → line ≡ said → Explained w more ⊎ (more ≡ memory_line)
    → (first ≡ true) ⊎ Appends a b line → (first ≡ true → second ≡ true) → (second ≡ true) ⊎ Appends b c more
    → (second ≡ true) ⊎ ((bytes : List ℕ) × IsNote Explained w said bytes × Appends a c bytes)
both w Explained said second first a b c line more is right (inl bad) still rest = inl (still bad)
both w Explained said second first a b c line more is right (inr wrote) still (inl bad) = inl bad
both w Explained said second first a b c line more is right (inr wrote) still (inr rest) =
    let whole = Appends-trans a b c line more wrote rest in
    inr (line ++ more, (more, ap (λ (t : List ℕ). t ++ more) is, right), whole)

pub told_both : (w : Wanted) (f : QueryFault) (first second : Bool) (a b c : Option (List ℕ))
    (line more : List ℕ)
    → line ≡ query_line f → IsExplained w more ⊎ (more ≡ memory_line)
    → (first ≡ true) ⊎ Appends a b line → (first ≡ true → second ≡ true) → (second ≡ true) ⊎ Appends b c more
    → IsTold w (Query f) second a c
told_both w f first second a b c line more is right wrote still rest =
    both w IsExplained (query_line f) second first a b c line more is right wrote still rest

pub filter_told_both : (w : Wanted) (f : QueryFault) (first second : Bool) (a b c : Option (List ℕ))
    (line more : List ℕ)
    → line ≡ filter_line f → IsFilterExplained w more ⊎ (more ≡ memory_line)
    → (first ≡ true) ⊎ Appends a b line → (first ≡ true → second ≡ true) → (second ≡ true) ⊎ Appends b c more
    → IsTold w (Filter f) second a c
filter_told_both w f first second a b c line more is right wrote still rest =
    both w IsFilterExplained (filter_line f) second first a b c line more is right wrote still rest

-- what is refused by the same numbers is no query
pub refused_in : (n m : Numbers) (t : Text) (f : QueryFault) → n ≡ m → IsVerdictIn m t (Err f) → IsQuery n t
    → ⊥
refused_in n m t f same v = no_query n t f (subst (λ (k : Numbers). IsVerdictIn k t (Err f)) (sym same) v)

-- the bytes of the lines that are given
module _ (w : Wanted) (Explained : Wanted → List ℕ → Type 0) where
  pub shown_in : (o : Option (String Global)) (s : String Global) (t : List ℕ) → o ≡ Some s
      → IsSomeAnd o (λ x. Explained w (string_bytes x)) → t ≡ string_bytes s → Explained w t
  shown_in o s t is shown same =
      let given =
      subst (λ (x : Option (String Global)). IsSomeAnd x (λ y. Explained w (string_bytes y))) is shown in
      subst (λ (b : List ℕ). Explained w b) (sym same) given

-- the same refusal, by another name
pub told_as : (fault named : RunFault) (failed : Bool) (old new : Option (List ℕ)) (w : Wanted)
    → fault ≡ named → IsRefusedWish w fault → (IsRefusedWish w named → IsTold w named failed old new)
    → IsTold w fault failed old new
told_as fault named failed old new w same v told = subst (λ (k : RunFault). IsTold w k failed old new)
    (sym same)
    (told (subst (IsRefusedWish w) same v))

-- what was told still is, where the notes stay
pub told_still : {A : Type 0} (failed : A → Bool) (contents : A → Option (List ℕ)) (w : Wanted)
    (f : RunFault) (old between new : A) → new ≡ between
    → IsTold w f (failed between) (contents old) (contents between)
    → IsTold w f (failed new) (contents old) (contents new)
told_still failed contents w f old between new same told =
    subst (λ x. IsTold w f (failed x) (contents old) (contents x)) (sym same) told

-- nothing is told of what is no refusal
pub not_refusal : {P : Type 0} (w : Wanted) (f : RunFault) → IsRefusedWish w f → (status_of f ≡ 2 → ⊥) → P
not_refusal w f v other = absurd (other (refused_status w f v))

-- the fault of what is refused, where its status is that of a refusal
pub refused_as : {T : Type 0} (fault f : RunFault) (status : ℕ) → status ≡ 2
    → (fault ≡ Memory → status ≡ 5)
    → ◌≡◌ {A = Result T RunFault} (Err fault) (Err f)
    ⊎ ◌≡◌ {A = Result T RunFault} (Err fault) (Err Memory) → fault ≡ f
refused_as fault f status two five (inl e) = cc
refused_as fault f status two five (inr e) =
    let same : fault ≡ Memory = cc in absurd (omega (arith, two, five same))
