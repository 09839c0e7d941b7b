-- What is known of an expression of each kind, where its sizes are right and it is not too large.
use Rattle.std.proofs.Common.{◌≡◌, ℕ, zero, suc, ◌+◌, ◌*◌, ◌<◌, ◌≤◌, ◌&&◌, IsTrue, List, [], ◌∷◌, map, min}
use Rattle.std.proofs.Common.{Option, Vec, Box, Global, refl, sym, ap, ap₂, ◌∙◌, subst, arith}
use Rattle.std.proofs.lemmas.Bool.{and_parts}
use Rattle.jp_pattern.specs.Pattern.{Pattern}
use Rattle.jp_pattern.specs.Profile.{copies, size}
use Rattle.jp_automaton.specs.Letters.{letters_of}
use Rattle.jp_automaton.specs.Expressions.{Meaning, meaning, pattern_in, in_turn_of, before_last_of}
use Rattle.jp_automaton.specs.Expressions.{all_sized}
use Rattle.jp_automaton.specs.Expressions.{sized_as, unrolled_in, unrolled_in_turn, branches_before}
use Rattle.jp_pattern.specs.Unrolled.{Unrolled, unrolled, nothing, either, letter, letters}
use Rattle.jp_automaton.specs.declared.letters.Letters.{Letters}
use Rattle.jp_automaton.specs.declared.expressions.Expression.{Expression}
use Rattle.jp_automaton.specs.declared.expressions.Expression.TheVariants.{Set, Pieces, Branches, Repeat}
use Rattle.jp_automaton.proofs.MeaningLemmas.{expression_set, expression_pieces, expression_branches}
use Rattle.jp_automaton.proofs.MeaningLemmas.{expression_repeat}
use Rattle.jp_automaton.proofs.SizedLemmas.{size_from, inside_from}
use Rattle.jp_pattern.proofs.UnrolledLemmas.{letters-unrolled}

-- a size that was kept is exact
pub exact : (n : ℕ) (p : Pattern) → n ≡ min (size p) 4_294_967_295 → letters (unrolled p) ≤ 10_000
    → n ≡ letters (unrolled p)
exact n p e le = omega (arith, letters-unrolled p)

sized_at : (expression : Expression) (m : Meaning) → meaning expression ≡ m →
    IsTrue (meaning expression).is_sized → IsTrue m.is_sized
sized_at expression m e h = subst (λ x. IsTrue x.is_sized) e h

pub set_same : (expression : Expression) (set : Letters) → expression ≡ Set set → letter (letters_of set)
    ≡ unrolled_in expression
set_same expression set is = sym (ap unrolled_in is ∙ ap (λ m. unrolled m.pattern) (expression_set set))

pub record KnownPieces (expression : Expression) (n : ℕ) (xs : List Expression) : Type 0 where
  pub sized : IsTrue (all_sized (map meaning xs))
  pub size : n ≡ letters (unrolled_in_turn xs)
  pub same : unrolled_in_turn xs ≡ unrolled_in expression

pub known_pieces : (expression : Expression) (n : ℕ) (pieces : Vec Expression Global) (xs : List Expression) →
    expression ≡ Pieces n pieces
    → xs ≡ pieces.items →
    IsTrue (meaning expression).is_sized → letters (unrolled_in expression) ≤ 10_000 →
    KnownPieces expression n xs
known_pieces expression n pieces xs is items h le =
    let m = sized_as n (in_turn_of (map meaning pieces.items)) (all_sized (map meaning pieces.items)) in
    let e : meaning expression ≡ m = ap meaning is ∙ expression_pieces n pieces in
    let k = sized_at expression m e h in
    let same : unrolled_in_turn xs ≡ unrolled_in expression =
    ap unrolled_in_turn items ∙ sym (ap (λ x. unrolled x.pattern) e) in
    let f : n ≡ letters (unrolled_in_turn pieces.items) =
    exact n (in_turn_of (map meaning pieces.items)) (size_from n (in_turn_of (map meaning pieces.items)) _ k)
    (subst (λ p. letters p ≤ 10_000) (sym same ∙ ap unrolled_in_turn items) le) in
    record {
      sized = subst (λ ys. IsTrue (all_sized (map meaning ys))) (sym items)
          (inside_from n (in_turn_of (map meaning pieces.items)) _ k);
      size = f ∙ ap (λ ys. letters (unrolled_in_turn ys)) (sym items);
      same = same;
    }

unrolled-branches : (xs : List Expression) (x : Expression) →
    unrolled (before_last_of (map meaning xs) (pattern_in x)) ≡ branches_before xs (unrolled_in x)
unrolled-branches [] x = refl
unrolled-branches (y ∷ xs) x = ap (either (unrolled_in y)) (unrolled-branches xs x)

-- how many letters branches have with others behind them
pub letters-branches : (xs : List Expression) (q : Unrolled) → letters (branches_before xs q)
    ≡ letters (branches_before xs nothing) + letters q
letters-branches [] q = omega arith
letters-branches (y ∷ xs) q = let h = letters-branches xs q in omega (arith, h)

pub record KnownBranches (expression : Expression) (xs : List Expression) (x : Expression) : Type 0 where
  pub all_sized : IsTrue (all_sized (map meaning xs))
  pub sized : IsTrue (meaning x).is_sized
  pub same : branches_before xs (unrolled_in x) ≡ unrolled_in expression
  pub size : letters (branches_before xs nothing) + letters (unrolled_in x) ≡ letters (unrolled_in expression)

pub known_branches : (expression : Expression) (n : ℕ) (before : Vec Expression Global)
    (last : Box Expression Global)
    (xs : List Expression) (x : Expression) →
    expression ≡ Branches n before last → xs ≡ before.items → x ≡ last.value →
    IsTrue (meaning expression).is_sized
    → KnownBranches expression xs x
known_branches expression n before last xs x is items value h =
    let p = before_last_of (map meaning before.items) (pattern_in last.value) in
    let m = sized_as n p (all_sized (map meaning before.items) && (meaning last.value).is_sized) in
    let e : meaning expression ≡ m = ap meaning is ∙ expression_branches n before last in
    let k = sized_at expression m e h in
    let both = and_parts (all_sized (map meaning before.items)) (meaning last.value).is_sized
    (inside_from n p _ k) in
    let here : branches_before xs (unrolled_in x) ≡ branches_before before.items (unrolled_in last.value) =
    ap₂ (λ ys y. branches_before ys (unrolled_in y)) items value in
    let same : branches_before xs (unrolled_in x) ≡ unrolled_in expression =
    here ∙ sym (unrolled-branches before.items last.value) ∙ sym (ap (λ y. unrolled y.pattern) e) in
    record {
      all_sized = subst (λ ys. IsTrue (all_sized (map meaning ys))) (sym items) both.0;
      sized = subst (λ y. IsTrue (meaning y).is_sized) (sym value) both.1;
      same = same;
      size = sym (letters-branches xs (unrolled_in x)) ∙ ap letters same;
    }

pub record KnownRepeat (expression : Expression) (least : ℕ) (most : Option ℕ) (x : Expression) : Type 0 where
  pub sized : IsTrue (meaning x).is_sized
  pub some : 0 < letters (unrolled_in x)
  pub same : unrolled (Pattern.repeat least most (pattern_in x)) ≡ unrolled_in expression

factor : (a b : ℕ) → 0 < a * b → 0 < b
factor a zero lt = absurd (omega arith)
factor a (suc b) lt = omega arith

pub known_repeat : (expression : Expression) (n least : ℕ) (most : Option ℕ) (atom : Box Expression Global)
    (x : Expression) (k : ℕ) →
    expression ≡ Repeat n least most atom → x ≡ atom.value → IsTrue (meaning expression).is_sized →
    k ≡ min (size (pattern_in expression)) 4_294_967_295 → 0 < k → KnownRepeat expression least most x
known_repeat expression n least most atom x k is value h f lt =
    let m = sized_as n (Pattern.repeat least most (pattern_in atom.value)) (meaning atom.value).is_sized in
    let e : meaning expression ≡ m = ap meaning is ∙ expression_repeat n least most atom in
    let g : size (pattern_in expression) ≡ copies least most * size (pattern_in atom.value) =
    ap (λ y. size y.pattern) e in
    let some : 0 < size (pattern_in atom.value) = factor (copies least most) (size (pattern_in atom.value))
    (omega arith) in
    let here : letters (unrolled_in x) ≡ size (pattern_in atom.value) =
    letters-unrolled (pattern_in x) ∙ ap (λ y. size (pattern_in y)) value in
    record {
      sized = subst (λ y. IsTrue (meaning y).is_sized) (sym value)
          (inside_from n (Pattern.repeat least most (pattern_in atom.value)) _ (sized_at expression m e h));
      some = omega arith;
      same = ap (λ y. unrolled (Pattern.repeat least most (pattern_in y))) value
          ∙ sym (ap (λ y. unrolled y.pattern) e);
    }
