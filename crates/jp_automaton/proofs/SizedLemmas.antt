-- The sizes that are kept in the tree of the code.
use Rattle.std.proofs.Common.{◌≡◌, ℕ, zero, suc, ◌+◌, ◌*◌, ◌<◌, Bool, ◌&&◌, IsTrue, List, [], ◌∷◌, ◌++◌, map}
use Rattle.std.proofs.Common.{take, get_or, length, min, refl, sym, ap, ap₂, ◌∙◌, subst, arith, Option}
use Rattle.std.proofs.Common.{mul_comm}
use Rattle.std.proofs.lemmas.Bool.{and_parts, and_from, eqb-true, eq-eqb}
use Rattle.std.proofs.lemmas.List.{take_more}
use Rattle.jp_pattern.specs.Pattern.{Pattern}
use Rattle.jp_pattern.specs.Profile.{copies, size}
use Rattle.jp_pattern.specs.Tree.{in_turn, before_last}
use Rattle.jp_automaton.specs.Expressions.{Meaning, is_size, in_turn_of, before_last_of, all_sized, sizes}
use Rattle.jp_automaton.specs.Expressions.{meaning}
use Rattle.jp_automaton.specs.Expressions.{pattern_in, patterns_in}
use Rattle.jp_automaton.specs.declared.expressions.Expression.{Expression}
use Rattle.jp_automaton.proofs.SizeLemmas.{capped_sum, capped_product}

pub sized_from : (n : ℕ) (p : Pattern) (inside : Bool) → n ≡ min (size p) 4_294_967_295 → IsTrue inside
    → IsTrue (is_size n p && inside)
sized_from n p inside e h = and_from _ _ (eq-eqb n (min (size p) 4_294_967_295) e) h

pub size_from : (n : ℕ) (p : Pattern) (inside : Bool) → IsTrue (is_size n p && inside)
    → n ≡ min (size p) 4_294_967_295
size_from n p inside h = eqb-true n (min (size p) 4_294_967_295) (and_parts _ inside h).0

pub inside_from : (n : ℕ) (p : Pattern) (inside : Bool) → IsTrue (is_size n p && inside) → IsTrue inside
inside_from n p inside h = (and_parts _ inside h).1

pub size-in_turn_of : (expressions : List Meaning) → size (in_turn_of expressions) ≡ sizes expressions
size-in_turn_of [] = refl
size-in_turn_of (m ∷ expressions) = ap (λ k. size m.pattern + k) (size-in_turn_of expressions)

pub size-before_last_of : (expressions : List Meaning) (q : Pattern) → size (before_last_of expressions q)
    ≡ sizes expressions + size q
size-before_last_of [] q = omega arith
size-before_last_of (m ∷ expressions) q = let h = size-before_last_of expressions q in omega (arith, h)

pub in_turn_of-patterns : (expressions : List Expression) → in_turn_of (map meaning expressions)
    ≡ in_turn (patterns_in expressions)
in_turn_of-patterns [] = refl
in_turn_of-patterns (expression ∷ expressions) =
    ap (Pattern.seq (pattern_in expression)) (in_turn_of-patterns expressions)

pub before_last_of-patterns : (expressions : List Expression) (q : Pattern) →
    before_last_of (map meaning expressions) q
    ≡ before_last (patterns_in expressions) q
before_last_of-patterns [] q = refl
before_last_of-patterns (expression ∷ expressions) q = ap (Pattern.either (pattern_in expression))
    (before_last_of-patterns expressions q)

pub patterns_in-last : (expressions : List Expression) (expression : Expression) →
    patterns_in (expressions ++ (expression ∷ []))
    ≡ patterns_in expressions ++ (pattern_in expression ∷ [])
patterns_in-last [] expression = refl
patterns_in-last (p ∷ expressions) expression =
    ap (λ ps. pattern_in p ∷ ps) (patterns_in-last expressions expression)

pub all_sized-last : (expressions : List Expression) (expression : Expression) →
    IsTrue (all_sized (map meaning expressions))
    → IsTrue (meaning expression).is_sized →
    IsTrue (all_sized (map meaning (expressions ++ (expression ∷ []))))
all_sized-last [] expression h g = and_from _ _ g refl
all_sized-last (p ∷ expressions) expression h g =
    let both = and_parts (meaning p).is_sized (all_sized (map meaning expressions)) h in
    and_from _ _ both.0 (all_sized-last expressions expression both.1 g)

pub all_sized-at : (expressions : List Expression) (i : ℕ) (expression : Expression) → i < length expressions
    → expression ≡ get_or expressions i expression →
    IsTrue (all_sized (map meaning expressions)) → IsTrue (meaning expression).is_sized
all_sized-at [] i expression lt e h = absurd (omega arith)
all_sized-at (p ∷ expressions) zero expression lt e h =
    subst (λ q. IsTrue (meaning q).is_sized) (sym e)
    (and_parts (meaning p).is_sized (all_sized (map meaning expressions)) h).0
all_sized-at (p ∷ expressions) (suc i) expression lt e h =
    all_sized-at expressions i expression (omega arith) e
    (and_parts (meaning p).is_sized (all_sized (map meaning expressions))
    h).1

sizes-last : (expressions : List Expression) (expression : Expression) →
    sizes (map meaning (expressions ++ (expression ∷ [])))
    ≡ sizes (map meaning expressions) + size (pattern_in expression)
sizes-last [] expression = omega arith
sizes-last (p ∷ expressions) expression = let h = sizes-last expressions expression in omega (arith, h)

-- one expression more
pub expression_more : (expressions : List Expression) (i : ℕ) (expression : Expression) (m total one : ℕ) →
    i < length expressions
    → expression ≡ get_or expressions i expression →
    total ≡ min (sizes (map meaning (take i expressions))) m → one ≡ min (size (pattern_in expression)) m →
    min (total + one) m ≡ min (sizes (map meaning (take (i + 1) expressions))) m
expression_more expressions i expression m total one lt item e f =
    let g : sizes (map meaning (take (i + 1) expressions)) ≡ sizes (map meaning (take i expressions))
    + size (pattern_in expression) =
    ap (λ ps. sizes (map meaning ps)) (take_more expressions i expression lt
    ∙ ap (λ p. take i expressions ++ p ∷ []) (sym item)) ∙ sizes-last (take i expressions) expression in
    rw (e, f, g) (capped_sum (sizes (map meaning (take i expressions))) (size (pattern_in expression)) m)

-- pieces, branches, and what follows an atom
pub sized_pieces : (expressions : List Expression) (n : ℕ) → n
    ≡ min (sizes (map meaning expressions)) 4_294_967_295
    → IsTrue (all_sized (map meaning expressions)) →
    IsTrue (is_size n (in_turn_of (map meaning expressions)) && all_sized (map meaning expressions))
sized_pieces expressions n e h =
    sized_from n (in_turn_of (map meaning expressions)) _ (e
    ∙ ap (λ k. min k 4_294_967_295) (sym (size-in_turn_of (map meaning expressions)))) h

pub sized_branches : (expressions : List Expression) (last : Expression) (n k l : ℕ)
    → k ≡ min (sizes (map meaning expressions)) 4_294_967_295 →
    l ≡ min (size (pattern_in last)) 4_294_967_295 → n ≡ min (k + l) 4_294_967_295 →
    IsTrue (all_sized (map meaning expressions)) → IsTrue (meaning last).is_sized →
    IsTrue (is_size n (before_last_of (map meaning expressions) (pattern_in last))
    && (all_sized (map meaning expressions) && (meaning last).is_sized))
sized_branches expressions last n k l e f g h i =
    sized_from n (before_last_of (map meaning expressions) (pattern_in last)) _
    (omega (arith, size-before_last_of (map meaning expressions) (pattern_in last))) (and_from _ _ h i)

both_capped : (a b m : ℕ) → min (min a m * min b m) m ≡ min (a * b) m
both_capped a b m =
    capped_product (min a m) b m ∙ ap (λ k. min k m) (mul_comm (min a m) b)
    ∙ capped_product b a m ∙ ap (λ k. min k m) (mul_comm b a)

pub sized_repeat : (least : ℕ) (most : Option ℕ) (atom : Expression) (n k l : ℕ)
    → k ≡ min (copies least most) 4_294_967_295 →
    l ≡ min (size (pattern_in atom)) 4_294_967_295 → n ≡ min (k * l) 4_294_967_295
    → IsTrue (meaning atom).is_sized →
    IsTrue (is_size n (Pattern.repeat least most (pattern_in atom)) && (meaning atom).is_sized)
sized_repeat least most atom n k l e f g h =
    sized_from n (Pattern.repeat least most (pattern_in atom)) _
    (g ∙ ap₂ (λ a b. min (a * b) 4_294_967_295) e f ∙ both_capped (copies least most) (size (pattern_in atom))
    4_294_967_295) h
