-- A literal by itself is no logical expression.
use Rattle.std.proofs.Common.{◌≡◌, ℕ, zero, suc, true, false, ◌==◌, eqb, List, [], ◌∷◌, ◌++◌, Some, None}
use Rattle.std.proofs.Common.{refl, ap, ◌∙◌, append_assoc, arith}
use Rattle.std.specs.Prelude.{is_none, codes}
use Rattle.std.proofs.lemmas.Bool.{not-true}
use Rattle.std.proofs.lemmas.Bool.Decides.{nat_tests}
use Rattle.jp_tree.specs.declared.tree.Operator.{Operator}
use Rattle.jp_tree.specs.declared.tree.Operator.TheVariants as op
use Rattle.jp_tree.specs.Tree.{Text}
use Rattle.jp_tree.specs.Tree as tree
use Rattle.jp_tree.specs.Characters.{is_blank, is_lower, is_function_character, is_quote}
use Rattle.jp_tree.specs.Parts.{run, IsBlank, After, after, Separated, separated}
use Rattle.jp_tree.specs.Strings.{quoted}
use Rattle.jp_tree.specs.Numbers.{zero_int, positive_int, negative_int, whole_int, minus_zero, IsNumber}
use Rattle.jp_tree.specs.Numbers.{number}
use Rattle.jp_tree.specs.Spelling as is
use Rattle.jp_tree.specs.Spelling.{begins_with, operator_text, IsFunctionName, LiteralIs}
use Rattle.jp_tree.specs.Spelling.{QueryIs, CallIs, ComparableIs, PlainIs, BasicIs, AndIs, OrIs, LogicalIs}
use Rattle.jp_tokens.specs.Reading.{skip, past, run_at, int_at, whole_at, number_at, mark_at, operator_at}
use Rattle.jp_tokens.specs.Reading.{literal_at, calls}
use Rattle.jp_syntax.specs.inner.Reading.{lone_literal_at}
use Rattle.jp_tokens.proofs.Fronts.{past_each}
use Rattle.jp_tokens.proofs.Following.{Meets, Leaves, meets_behind, after_side, side_before_word}
use Rattle.jp_syntax.proofs.Following.{side_before_opening}
use Rattle.jp_tokens.proofs.LeavesRead.{literal_whole, positive_not_lower}
use Rattle.jp_syntax.proofs.PartsWhole.{operator_skip, operator_meets}

-- a word before what goes on with none of its characters, and with no parenthesis
word_ends : (t u : Text) → past is_function_character (t ++ u) ≡ u → Leaves (λ c. eqb c 40) u
    → begins_with 40 (past is_function_character (t ++ u)) ≡ false
word_ends t [] e h = rw e refl
word_ends t (c ∷ u) e h = rw e (not-true (c == 40) h)

past_word : (t u : Text) → past is_function_character t ≡ [] → past is_function_character u ≡ u
    → past is_function_character (t ++ u) ≡ u
past_word [] u h k = k
past_word (c ∷ t) u h k =
    (elim (is_function_character c) as (λ b. is_function_character c ≡ b
    → past is_function_character ((c ∷ t) ++ u) ≡ u) [
      | true ↦ λ e. let f : past is_function_character t ≡ [] = rw e at h in rw e (past_word t u f k)
      | false ↦ λ e. let f : c ∷ t ≡ [] = rw e at h in absurd cc
    ]) refl

no_word : (u : Text) → Leaves is_function_character u → past is_function_character u ≡ u
no_word [] h = refl
no_word (c ∷ u) h = rw (not-true (is_function_character c) h) refl

word_calls_none : (c : ℕ) (t u : Text) → is_lower c ≡ true → past is_function_character t ≡ []
    → Meets after_side u → calls (c ∷ (t ++ u)) ≡ false
word_calls_none c t u h e m =
    rw (h, word_ends t u (past_word t u e (no_word u (side_before_word u m))) (side_before_opening u m)) refl

quote_not_lower : (c : ℕ) → is_quote c ≡ true → is_lower c ≡ false
quote_not_lower c h = grind (arith, nat_tests)

number_calls_none : (s u : Text) → IsNumber s → calls (s ++ u) ≡ false
number_calls_none w u (number r s t (whole_int v zero_int) f x) = refl
number_calls_none w u (number r s t (whole_int v (positive_int c d p h)) f x) =
    rw (positive_not_lower c p) refl
number_calls_none w u (number r s t (whole_int v (negative_int c d p h)) f x) = refl
number_calls_none w u (number r s t minus_zero f x) = refl

pub literal_calls_none : (s : Text) (x : tree.Literal) (u : Text) → LiteralIs s x → Meets after_side u
    → calls (s ++ u) ≡ false
literal_calls_none s x u (is.number_literal t h) m = number_calls_none t u h
literal_calls_none s x u (is.text_literal t v (quoted quote w value q ps)) m =
    rw (quote_not_lower quote q) refl
literal_calls_none s x u is.true_literal m = word_calls_none 116 (codes "rue") u refl refl m
literal_calls_none s x u is.false_literal m = word_calls_none 102 (codes "alse") u refl refl m
literal_calls_none s x u is.null_literal m = word_calls_none 110 (codes "ull") u refl refl m

name_calls : (f u : Text) → IsFunctionName f → calls (f ++ (40 ∷ u)) ≡ true
name_calls f u (run c t h k) = rw (h, past_each is_function_character t (40 ∷ u) k) refl

pub call_calls : (Inner : Text → tree.Logical → Type 0) (s : Text) (c : tree.Call) (u : Text)
    → CallIs Inner s c → calls (s ++ u) ≡ true
call_calls Inner s c u (is.call_of_none f b n h) = ap calls (append_assoc f (40 ∷ (b ++ 41 ∷ [])) u)
    ∙ name_calls f ((b ++ 41 ∷ []) ++ u) n
call_calls Inner s c u (is.call f r t b xs n h p k) =
    ap calls (append_assoc f (40 ∷ (r ++ (t ++ (b ++ 41 ∷ [])))) u)
    ∙ name_calls f ((r ++ (t ++ (b ++ 41 ∷ []))) ++ u) n

pub calls_no_literal : (t : Text) → calls t ≡ true → lone_literal_at t ≡ None
unfolding lone_literal_at
calls_no_literal t h = rw h refl

pub sided : (t u : Text) (x : tree.Literal) → calls t ≡ false → literal_at t ≡ Some (x, u)
    → is_none (operator_at (skip u)) ≡ false → lone_literal_at t ≡ None
unfolding lone_literal_at
sided t u x h e k = rw (h, e, k) refl

pub lone_literal_whole : (t u : Text) (x : tree.Literal) → calls t ≡ false → literal_at t ≡ Some (x, u)
    → operator_at (skip u) ≡ None → lone_literal_at t ≡ Some (x, u)
unfolding lone_literal_at
lone_literal_whole t u x h e k = rw (h, e, k) refl

-- no literal begins with these
parenthesis : (t : Text) → lone_literal_at (40 ∷ t) ≡ None
unfolding lone_literal_at literal_at number_at whole_at int_at run_at
parenthesis t = refl

exclamation : (t : Text) → lone_literal_at (33 ∷ t) ≡ None
unfolding lone_literal_at literal_at number_at whole_at int_at run_at
exclamation t = refl

dollar : (t : Text) → lone_literal_at (36 ∷ t) ≡ None
unfolding lone_literal_at literal_at number_at whole_at int_at run_at
dollar t = refl

at_sign : (t : Text) → lone_literal_at (64 ∷ t) ≡ None
unfolding lone_literal_at literal_at number_at whole_at int_at run_at
at_sign t = refl

operator_there : (o : Operator) (u : Text) → is_none (operator_at (operator_text o ++ u)) ≡ false
unfolding operator_at mark_at
operator_there op.Eq u = refl
operator_there op.Ne u = refl
operator_there op.Le u = refl
operator_there op.Ge u = refl
operator_there op.Lt u = refl
operator_there op.Gt u = refl

module _ (Inner : Text → tree.Logical → Type 0) where
  query_alone : (s : Text) (q : tree.Query) (u : Text) → QueryIs Inner s q → lone_literal_at (s ++ u) ≡ None
  query_alone s q u (is.query w t start ss is.root ps) = dollar (t ++ u)
  query_alone s q u (is.query w t start ss is.current ps) = at_sign (t ++ u)

  side_alone : (s : Text) (x : tree.Comparable) (r : Text) (o : Operator) (u : Text) → ComparableIs Inner s x
      → IsBlank r → lone_literal_at (s ++ (r ++ (operator_text o ++ u))) ≡ None
  side_alone s x r o u (is.literal_side t y p) hr =
      let w : Text = r ++ (operator_text o ++ u) in
      let m : Meets after_side w = meets_behind after_side r (operator_text o ++ u) hr (operator_meets o u) in
      let e : is_none (operator_at (skip w)) ≡ false = ap (λ (v : Text). is_none (operator_at v))
      (past_each is_blank r (operator_text o ++ u) hr ∙ operator_skip o u) ∙ operator_there o u in
      sided (t ++ w) w y (literal_calls_none t y w p m) (literal_whole t y w p m) e
  side_alone s x r o u (is.single_side t q p h) hr = query_alone t q (r ++ (operator_text o ++ u)) p
  side_alone s x r o u (is.call_side t c p) hr = calls_no_literal (t ++ (r ++ (operator_text o ++ u)))
      (call_calls Inner t c (r ++ (operator_text o ++ u)) p)

  compared_alone : (s t : Text) (left right : tree.Comparable) (o : Operator) (u : Text)
      → ComparableIs Inner s left → After (operator_text o) (ComparableIs Inner) t right
      → lone_literal_at ((s ++ t) ++ u) ≡ None
  compared_alone s w left right o u p (after a b v x ha hb q) =
      let shape : (s ++ (a ++ (operator_text o ++ (b ++ v)))) ++ u
      ≡ s ++ (a ++ (operator_text o ++ ((b ++ v) ++ u))) = simp append_assoc in
      ap lone_literal_at shape ∙ side_alone s left a o ((b ++ v) ++ u) p ha

  basic_alone : (s : Text) (x : tree.Logical) (u : Text) → BasicIs Inner s x → lone_literal_at (s ++ u) ≡ None
  basic_alone s x u (is.plain w l (is.grouped a t b k ha p hb)) =
      parenthesis ((a ++ (t ++ (b ++ 41 ∷ []))) ++ u)
  basic_alone s x u (is.plain w l (is.tested t q p)) = query_alone t q u p
  basic_alone s x u (is.plain w l (is.called t c p)) = calls_no_literal (t ++ u) (call_calls Inner t c u p)
  basic_alone s x u (is.negated b t l h p) = exclamation ((b ++ t) ++ u)
  basic_alone s x u (is.compared t w left right o p a) = compared_alone t w left right o u p a

  separated_alone : (mark : Text) (Part : Text → tree.Logical → Type 0)
      → ((s : Text) (x : tree.Logical) (u : Text) → Part s x → lone_literal_at (s ++ u) ≡ None)
      → (s : Text) (xs : List tree.Logical) (u : Text) → Separated mark Part s xs → lone_literal_at (s ++ u)
      ≡ None
  separated_alone mark Part h w ys u (separated s t x xs p ps) = ap lone_literal_at (append_assoc s t u)
      ∙ h s x (t ++ u) p

  and_alone : (s : Text) (x : tree.Logical) (u : Text) → AndIs Inner s x → lone_literal_at (s ++ u) ≡ None
  and_alone s x u (is.and t xs p) = separated_alone (38 ∷ 38 ∷ []) (BasicIs Inner) basic_alone t xs u p

  or_alone : (s : Text) (x : tree.Logical) (u : Text) → OrIs Inner s x → lone_literal_at (s ++ u) ≡ None
  or_alone s x u (is.or t xs p) = separated_alone (124 ∷ 124 ∷ []) (AndIs Inner) and_alone t xs u p

pub logical_alone : (n : ℕ) (s : Text) (x : tree.Logical) (u : Text) → LogicalIs n s x
    → lone_literal_at (s ++ u) ≡ None
logical_alone zero s x u p = absurd p
logical_alone (suc n) s x u p = or_alone (LogicalIs n) s x u p
