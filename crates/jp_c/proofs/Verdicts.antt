-- What is told of a query that is checked, and of why one is refused.
use Rattle.std.proofs.Common.{◌≡◌, ◌≢◌, ℕ, List, Option, Some, None, Err, IfSome, inl, inr, refl, subst}
use Rattle.std.proofs.Common.{length}
use Rattle.std.specs.Str.{chars}
use Rattle.jp_number.specs.declared.numbers.Numbers.{Numbers}
use Rattle.jp_tree.specs.Tree.{Query}
use Rattle.jp_tree.specs.declared.fault.QueryFault.{QueryFault}
use Rattle.jp_tree.specs.declared.fault.QueryFault.TheVariants.{Memory}
use Rattle.jp_check.specs.Verdict.{IsAcceptedIn, IsVerdictIn}
use Rattle.jp_explain.specs.Mark.{MayGoOn}
use Rattle.jp_explain.specs.Picture.{IsPicture}
use Rattle.jp_c.specs.Buffers.{IsFilledBy}
use Rattle.jp_c.specs.Checked.{IsChecked}
use Rattle.jp_c.specs.Codes.{query_code}
use Rattle.jp_c.specs.Explained.{IsExplained}

pub some_so : {X : Type 0} (P : X → Type 0) (o : Option X) (x : X) → o ≡ Some x → IfSome o P → P x
some_so P None x e h = absurd (cc)
some_so P (Some y) x e h = let same : y ≡ x = cc in subst P same h

module _ (n m : Numbers) (text query : List ℕ) (is : n ≡ m) (same : text ≡ query) where
  moved : (P : Numbers → List ℕ → Type 0) → P n text → P m query
  moved P h = subst (λ (k : Numbers). P k query) is (subst (λ (l : List ℕ). P n l) same h)

  pub accepted_so : (q : Query) → IsAcceptedIn n (chars text) q → IsChecked m query 0 0
  accepted_so q h = inl (refl, (q, moved (λ k l. IsAcceptedIn k (chars l) q) h))

  pub refused_so : (fault : QueryFault) (place code : ℕ)
      → (fault ≢ Memory → IsVerdictIn n (chars text) (Err fault)) → MayGoOn n (chars text) place
      → code ≡ query_code fault → IsChecked m query place code
  refused_so fault place code h goes told = inr (inl (record {
    fault = fault;
    is = λ other. moved (λ k l. IsVerdictIn k (chars l) (Err fault)) (h other);
    begins = moved (λ k l. MayGoOn k (chars l) place) goes;
    status = told;
  }))

  pub accepted_unsaid : (old : List ℕ) (q : Query) → IsAcceptedIn n (chars text) q
      → IsExplained m query old old 0 0
  accepted_unsaid old q h = inr ((refl, refl), inl (refl, (q, moved (λ k l. IsAcceptedIn k (chars l) q) h)))

  pub explained_so : (old new lines : List ℕ) (needed code : ℕ) (fault : QueryFault)
      → (fault ≢ Memory → IsVerdictIn n (chars text) (Err fault)) → IsPicture (chars text) (chars lines)
      → IsFilledBy lines old new → needed ≡ length lines → code ≡ query_code fault
      → IsExplained m query old new needed code
  explained_so old new lines needed code fault h shown filled told coded = inl (record {
    fault = fault;
    is = λ other. moved (λ k l. IsVerdictIn k (chars l) (Err fault)) (h other);
    lines = lines;
    picture = moved (λ k l. IsPicture (chars l) (chars lines)) shown;
    bytes = filled;
    length_told = told;
    status = coded;
  })
