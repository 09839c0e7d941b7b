-- Where a text may go on.
use Rattle.std.proofs.Common.{◌≡◌, ℕ, ◌≤◌, List, [], ◌∷◌, ◌++◌, length, take, Result, Ok, Err}
use Rattle.std.proofs.Common.{refl, sym, ap, subst, ◌∙◌, arith, lit≤, length-append}
use Rattle.std.specs.Prelude.{OnOk, is_ok, if◌then◌else◌}
use Rattle.std.specs.Str.{chars, IsUtf8}
use Rattle.std.proofs.lemmas.Str.{chars-append}
use Rattle.std.proofs.Math.Seq.{take-append_seam}
use Rattle.std.proofs.lemmas.List.{length-take-le}
use Rattle.jp_number.specs.declared.numbers.Numbers.{Numbers}
use Rattle.jp_number.specs.declared.numbers.Numbers.TheVariants.{Whole, Decimals}
use Rattle.jp_tree.specs.Tree.{Text, query_from}
use Rattle.jp_tree.specs.Parts.{none}
use Rattle.jp_tree.specs.Spelling.{spells}
use Rattle.jp_tree.specs.declared.tree.Start.TheVariants.{Root}
use Rattle.jp_tree.specs.declared.fault.QueryFault.{QueryFault}
use Rattle.jp_check.specs.Verdict.{IsVerdictIn}
use Rattle.jp_check.proofs.OneVerdict.{one_verdict}
use Rattle.jp_explain.specs.Mark.{IsQuery, MayGoOn}

-- `$` is a query
pub root_query : (numbers : Numbers) → IsQuery numbers (36 ∷ [])
root_query Whole = (query_from Root [], (lit≤ tt, (query_from Root [], spells 0 [] [] none, refl)))
root_query Decimals = (query_from Root [], (lit≤ tt, (query_from Root [], spells 0 [] [] none, refl)))

-- what is refused is no query
pub no_query : (numbers : Numbers) (t : Text) (f : QueryFault) → IsVerdictIn numbers t (Err f)
    → IsQuery numbers t → ⊥
no_query numbers t f v q = let e = one_verdict numbers t (Err f) (Ok q.0) v q.1 in cc

-- a query that is a front of the text and more
pub front_goes_on : (numbers : Numbers) (t front more : Text) (n : ℕ) → n ≤ length t → front ≡ take n t
    → IsQuery numbers (front ++ more) → MayGoOn numbers t n
front_goes_on numbers t front more n room value query =
    let size : length front ≡ n = ap length value ∙ length-take-le n t room in (
      room,
      (
        front ++ more,
        ap (λ k. take k (front ++ more)) (sym size) ∙ take-append_seam front more ∙ value,
        query,
      ),
    )

-- a text that begins with `$`
pub root_goes_on : (numbers : Numbers) (t more : Text) → t ≡ 36 ∷ more → MayGoOn numbers t 1
root_goes_on numbers t more e =
    subst (λ (s : Text). MayGoOn numbers s 1) (sym e) (omega arith, (36 ∷ [], refl, root_query numbers))

pub nothing_goes_on : (numbers : Numbers) (t : Text) → MayGoOn numbers t 0
nothing_goes_on numbers t = (omega arith, (36 ∷ [], refl, root_query numbers))

-- more text at the end of a string
pub text_pushed : {E : Type 0} (r : Result (Unit {0}) E) (old new more : List ℕ) → IsUtf8 old
    → new ≡ (if is_ok r then old ++ more else old) → OnOk r (chars new ≡ chars old ++ chars more)
text_pushed (Ok x) old new more u e = ap chars e ∙ chars-append old more u
text_pushed (Err x) old new more u e = tt

-- what has been read of a text, and the rest
pub front_read : (t front rest : List ℕ) (n : ℕ) → t ≡ front ++ rest → length front ≡ n
    → (n ≤ length t) × (front ≡ take n t)
front_read t front rest n e size =
    let whole = ap length e in (
      omega (arith, length-append front rest),
      sym (ap (take n) e ∙ ap (λ k. take k (front ++ rest)) (sym size) ∙ take-append_seam front rest),
    )
