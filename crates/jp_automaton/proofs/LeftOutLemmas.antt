-- What a turn of the loops that leave out parts does.
use Rattle.std.proofs.Common.{◌≡◌, ℕ, ◌==◌, Bool, true, false, ◌&&◌, ◌||◌, IsTrue, List, [], ◌∷◌, ◌++◌, map}
use Rattle.std.proofs.Common.{◌≢◌, min, refl, ap, sym, ◌∙◌, subst, arith, true≢false}
use Rattle.std.specs.Prelude.{if◌then◌else◌}
use Rattle.std.proofs.lemmas.Bool.{eqb-true}
use Rattle.jp_pattern.specs.Pattern.{Pattern}
use Rattle.jp_pattern.specs.Profile.{size}
use Rattle.jp_automaton.specs.Expressions.{all_sized, meaning, pattern_in, patterns_in}
use Rattle.jp_automaton.specs.declared.expressions.Expression.{Expression}
use Rattle.jp_automaton.specs.inner.Simpler.{HasEmpty, StandBefore, StandInTurn, StandsFor}
use Rattle.jp_automaton.proofs.SimplerLemmas.{piece_more, piece_left, branch_more, branch_left, empty_more}
use Rattle.jp_automaton.proofs.SimplerLemmas.{empty_here}
use Rattle.jp_automaton.proofs.SizedLemmas.{patterns_in-last, all_sized-last}

zero_capped : (n s m : ℕ) → n ≡ min s m → n ≡ 0 → 0 ≢ m → s ≡ 0
zero_capped n s m e z some = omega arith

-- an expression whose size is told to be 0
pub is_empty_size : (e other : Expression) (n : ℕ) → other ≡ e
    → n ≡ min (size (pattern_in e)) 4_294_967_295 → IsTrue (n == 0) → size (pattern_in other) ≡ 0
is_empty_size e other n same capped h =
    let z : n ≡ 0 = eqb-true n 0 h in
    ap (λ x. size (pattern_in x)) same
    ∙ zero_capped n (size (pattern_in e)) 4_294_967_295 capped z (omega arith)

pub piece_step : (b : Bool) (ps : List Pattern) (es made : List Expression) (p : Pattern) (e : Expression)
    → made ≡ (if b then es else es ++ e ∷ []) → StandInTurn ps (patterns_in es)
    → IsTrue (all_sized (map meaning es)) → StandsFor p (pattern_in e) → IsTrue (meaning e).is_sized
    → (IsTrue b → size (pattern_in e) ≡ 0)
    → StandInTurn (ps ++ p ∷ []) (patterns_in made) × IsTrue (all_sized (map meaning made))
piece_step true ps es made p e is kept sized f one none = (
  subst (λ x. StandInTurn (ps ++ p ∷ []) (patterns_in x)) (sym is)
      (piece_left ps (patterns_in es) p (pattern_in e) kept f (none refl)),
  subst (λ x. IsTrue (all_sized (map meaning x))) (sym is) sized,
)
piece_step false ps es made p e is kept sized f one none = (
  subst (StandInTurn (ps ++ p ∷ [])) (sym (ap patterns_in is ∙ patterns_in-last es e))
      (piece_more ps (patterns_in es) p (pattern_in e) kept f),
  subst (λ x. IsTrue (all_sized (map meaning x))) (sym is) (all_sized-last es e sized one),
)

-- where one more branch is kept
branch_kept : (b has next : Bool) (ps : List Pattern) (es made : List Expression) (p : Pattern)
    (e : Expression) → made ≡ es ++ e ∷ [] → StandBefore b ps (patterns_in es)
    → IsTrue (all_sized (map meaning es)) → StandsFor p (pattern_in e) → IsTrue (meaning e).is_sized
    → HasEmpty b next (patterns_in es ++ pattern_in e ∷ [])
    → StandBefore b (ps ++ p ∷ []) (patterns_in made) × IsTrue (all_sized (map meaning made))
    × HasEmpty b next (patterns_in made)
branch_kept b has next ps es made p e is kept sized f one empty =
    let same = sym (ap patterns_in is ∙ patterns_in-last es e) in (
      subst (StandBefore b (ps ++ p ∷ [])) same
          (branch_more b ps (patterns_in es) p (pattern_in e) kept f),
      subst (λ x. IsTrue (all_sized (map meaning x))) (sym is) (all_sized-last es e sized one),
      subst (HasEmpty b next) same empty,
    )

pub branch_step : (b has is_empty left : Bool) (ps : List Pattern) (es made : List Expression) (p : Pattern)
    (e : Expression) → made ≡ (if left then es else es ++ e ∷ []) → left ≡ (has && is_empty)
    → (IsTrue is_empty → size (pattern_in e) ≡ 0) → StandBefore b ps (patterns_in es)
    → IsTrue (all_sized (map meaning es)) → HasEmpty b has (patterns_in es) → StandsFor p (pattern_in e)
    → IsTrue (meaning e).is_sized
    → StandBefore b (ps ++ p ∷ []) (patterns_in made) × IsTrue (all_sized (map meaning made))
    × HasEmpty b (has || is_empty) (patterns_in made)
branch_step b true true left ps es made p e is told none kept sized empty f one =
    let same : made ≡ es = is ∙ ap (λ x. if x then es else es ++ e ∷ []) told in (
      subst (λ x. StandBefore b (ps ++ p ∷ []) (patterns_in x)) (sym same)
          (branch_left b ps (patterns_in es) p (pattern_in e) kept f (none refl) empty),
      subst (λ x. IsTrue (all_sized (map meaning x))) (sym same) sized,
      subst (λ x. HasEmpty b true (patterns_in x)) (sym same) empty,
    )
branch_step b true false left ps es made p e is told none kept sized empty f one =
    branch_kept b true true ps es made p e (is ∙ ap (λ x. if x then es else es ++ e ∷ []) told) kept sized f
    one (empty_more b true (patterns_in es) (pattern_in e) empty)
branch_step b false true left ps es made p e is told none kept sized empty f one =
    branch_kept b false true ps es made p e (is ∙ ap (λ x. if x then es else es ++ e ∷ []) told) kept sized f
    one (empty_here b true (patterns_in es) (pattern_in e) (none refl))
branch_step b false false left ps es made p e is told none kept sized empty f one =
    branch_kept b false false ps es made p e (is ∙ ap (λ x. if x then es else es ++ e ∷ []) told) kept sized
    f one (λ h. absurd (true≢false (sym h)))
