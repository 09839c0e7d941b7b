-- Which fields are said.
use Rattle.std.proofs.Common.{◌≡◌, ◌∙◌, ◌≤◌, ◌<◌, ℕ, suc, Bool, true, false, List, [], ◌∷◌, length}
use Rattle.std.proofs.Common.{sym, ap, refl, arith}
use Rattle.std.proofs.Common.{Option, Some, None, Result, Ok, Err, IfOk}
use Rattle.std.specs.Prelude.{IfSome, nat_lt, nat_eq}
use Rattle.std.proofs.lemmas.Bool.{eqb-true, eqb-false, ltb-true, ltb-false}
use Rattle.std.proofs.lemmas.List.{length-map}
use Rattle.std.specs.Borrow.{Bor}
use Rattle.clap.specs.Walk.{texts}
use Rattle.jp_field.specs.FieldText.{AreFields}
use Rattle.jp_output.specs.Rows.{Path}
use Rattle.jp_run.specs.declared.output.Output.{Output}
use Rattle.jp_program.specs.Wanted.{AreFieldsOf, has_fields}

pub length_same : (ts : List (List ℕ)) (fs : List Path) → AreFields ts fs → length fs ≡ length ts
length_same [] fs a = ap length a
length_same (t ∷ ts) fs a = ap length a.2 ∙ ap suc (length_same ts a.1 a.4)

-- of so many texts, in this form
pub are_of : (ts : List (List ℕ)) (o : Output) (fs : List Path) → nat_lt 0 (length ts) ≡ has_fields o
    → length ts ≤ 64 → AreFields ts fs → AreFieldsOf ts o fs
are_of ts o fs some few a = (
  a,
  ap (nat_lt 0) (length_same ts fs a) ∙ some,
  omega (arith, few, length_same ts fs a),
)

-- there are some, or none, as the form wants

by_test : (n : ℕ) (none has some : Bool) → none ≡ nat_eq n 0 → nat_lt 0 n ≡ some → (none ≡ has → ⊥) → some ≡
    has
by_test n true true some is so differs = absurd (differs refl)
by_test n false false some is so differs = absurd (differs refl)
by_test n true false true is so differs = absurd (omega (arith, eqb-true n 0 (sym is), ltb-true 0 n so))
by_test n true false false is so differs = refl
by_test n false true true is so differs = refl
by_test n false true false is so differs =
    absurd (eqb-false n 0 (sym is) (omega (arith, ltb-false 0 n so)))

pub some_so : (n : ℕ) (none has : Bool) → none ≡ nat_eq n 0 → (none ≡ has → ⊥) → nat_lt 0 n ≡ has
some_so n none has is differs = by_test n none has (nat_lt 0 n) is refl differs

clash : (n : ℕ) (b : Bool) → b ≡ nat_eq n 0 → nat_lt 0 n ≡ b → ⊥
clash n true e h = omega (arith, eqb-true n 0 (sym e), ltb-true 0 n h)
clash n false e h = eqb-false n 0 (sym e) (omega (arith, ltb-false 0 n h))

pub not_so : (ts : List (List ℕ)) (none has : Bool) (o : Output) (fs : List Path) → none ≡ nat_eq (length
    ts) 0
    → none ≡ has → has ≡ has_fields o → AreFieldsOf ts o fs → ⊥
not_so ts none has o fs is same form a = clash (length ts) none is
    (ap (nat_lt 0) (sym (length_same ts fs a.0)) ∙ a.1 ∙ sym form ∙ sym same)

pub too_many : (ts : List (List ℕ)) (o : Output) (fs : List Path) → 64 < length ts → AreFieldsOf ts o fs → ⊥
too_many ts o fs many a = omega (arith, many, length_same ts fs a.0, a.2)

-- so many texts were given
pub given_length : (given : List (Bor (List ℕ))) → length (texts given) ≡ length given
given_length given = length-map given (λ (s : Bor (List ℕ)). s.now)

-- what is read is so
pub are_read : {F E : Type 0} (r : Result (Option F) E) (view : F → List Path) (ts : List (List ℕ)) (o :
    Output)
    → nat_lt 0 (length ts) ≡ has_fields o → length ts ≤ 64
    → IfOk r (λ x. IfSome x (λ fs. AreFields ts (view fs))) → IfOk r (λ x. IfSome x (λ fs. AreFieldsOf ts o
    (view fs)))
are_read (Ok (Some fs)) view ts o some few h = are_of ts o (view fs) some few h
are_read (Ok None) view ts o some few h = h
are_read (Err e) view ts o some few h = h
