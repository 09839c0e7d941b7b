-- An argument that a literal begins, where the literal is read once.
use Rattle.std.proofs.Common.{◌≡◌, ℕ, zero, suc, Bool, true, false, not, ◌||◌, ◌&&◌, eqb, [], ◌∷◌, Option}
use Rattle.std.proofs.Common.{Some, None, refl, ap, inl, inr, arith}
use Rattle.std.specs.Prelude.{is_none}
use Rattle.std.proofs.lemmas.Bool.{cases_Bool}
use Rattle.std.proofs.lemmas.Bool.Decides.{nat_tests}
use Rattle.jp_tree.specs.declared.tree.Operator.{Operator}
use Rattle.jp_tree.specs.Tree.{Text}
use Rattle.jp_tree.specs.Tree as tree
use Rattle.jp_tree.specs.Characters.{is_quote, is_digit, is_positive_digit, is_lower}
use Rattle.jp_tree.specs.Spelling.{begins_with}
use Rattle.jp_tokens.specs.Reading.{Reader, ◌>>=◌, skip, run_at, int_at, whole_at, number_at, literal_at}
use Rattle.jp_tokens.specs.Reading.{operator_at, calls, begins_literal}
use Rattle.jp_syntax.specs.inner.Reading.{lone_literal_at, argument_of, argument_at, operand_at, right_at}
use Rattle.jp_syntax.specs.inner.Reading.{basic_at}
use Rattle.jp_syntax.specs.inner.Reading.{and_at, and_behind, or_at, or_behind, logical_at, compared_behind}
use Rattle.jp_tokens.proofs.Following.{differs}
use Rattle.jp_syntax.proofs.LoneLiterals.{calls_no_literal, sided, lone_literal_whole}

-- ---- where none begins

no_positive : (c : ℕ) → is_digit c ≡ false → is_positive_digit c ≡ false
no_positive c h = grind (arith, nat_tests)

no_zero : (c : ℕ) → is_digit c ≡ false → eqb c 48 ≡ false
no_zero c h = grind (arith, nat_tests)

no_number : (c : ℕ) (t : Text) → eqb c 45 ≡ false → is_digit c ≡ false → number_at (c ∷ t) ≡ None
unfolding number_at whole_at int_at run_at
no_number c t m d = rw (m, no_zero c d, no_positive c d) refl

-- what a class of four parts says where it fails
all_off : (x y z l n : Bool) → (x || (y || z) || (l && not n)) ≡ false → n ≡ false → (x ≡ false) × (y ≡ false)
    × (z ≡ false) × (l ≡ false)
all_off false false false false n h k = (refl, refl, refl, refl)
all_off true y z l n h k = absurd cc
all_off false true z l n h k = absurd cc
all_off false false true l n h k = absurd cc
all_off false false false true true h k = absurd cc
all_off false false false true false h k = absurd cc

no_literal : (c : ℕ) (t : Text) → calls (c ∷ t) ≡ false → begins_literal (c ∷ t) ≡ false
    → literal_at (c ∷ t) ≡ None
unfolding literal_at
no_literal c t k h =
    let off = all_off (is_quote c) (eqb c 45) (is_digit c) (is_lower c) (calls (c ∷ t)) h k in
    rw (off.0, off.3, no_number c t off.1 off.2) refl

none_alone : (t : Text) → begins_literal t ≡ false → lone_literal_at t ≡ None
unfolding lone_literal_at literal_at
none_alone [] h = refl
none_alone (c ∷ t) h =
    elim (cases_Bool (calls (c ∷ t))) [
      | inl k ↦ calls_no_literal (c ∷ t) k
      | inr k ↦ let none = no_literal c t k h in rw (k, none) refl
    ]

-- ---- where one begins

-- what a literal begins with
abbrev is_start : ℕ → Bool
is_start c = is_quote c || (eqb c 45 || is_digit c) || is_lower c

starts : (x y l n : Bool) → (x || y || (l && n)) ≡ true → (x || y || l) ≡ true
starts true y l n h = refl
starts false true l n h = refl
starts false false true n h = refl
starts false false false n h = absurd cc

no_start : (d : ℕ) → is_start d ≡ false → (c : ℕ) (t : Text) → begins_literal (c ∷ t) ≡ true → eqb c d ≡ false
no_start d nd c t h = differs is_start d nd c (starts (is_quote c) (eqb c 45 || is_digit c) (is_lower c)
    (not (calls (c ∷ t))) h)

only_lower : (c : ℕ) → is_lower c ≡ true → (is_quote c || (eqb c 45 || is_digit c)) ≡ false
only_lower c h = grind (arith, nat_tests)

calling : (x l n : Bool) → x ≡ false → (x || (l && not n)) ≡ true → n ≡ false
calling true l n e h = absurd cc
calling false false n e h = absurd cc
calling false true true e h = absurd cc
calling false true false e h = refl

no_call : (t : Text) → begins_literal t ≡ true → calls t ≡ false
no_call [] h = refl
no_call (c ∷ t) h =
    elim (cases_Bool (is_lower c)) [
      | inl l ↦ calling (is_quote c || (eqb c 45 || is_digit c)) (is_lower c) (calls (c ∷ t)) (only_lower c l)
          h
      | inr l ↦ rw l refl
    ]

bind_assoc : {A B C : Type 0} (o : Option A) (f : A → Option B) (g : B → Option C)
    → ((o >>= f) >>= g) ≡ (o >>= λ x. f x >>= g)
bind_assoc None f g = refl
bind_assoc (Some x) f g = refl

module _ (inner : Reader tree.Logical) (c : ℕ) (t : Text) (h : begins_literal (c ∷ t) ≡ true) where
  basic_none : literal_at (c ∷ t) ≡ None → basic_at inner (c ∷ t) ≡ None
  unfolding basic_at operand_at
  basic_none e = rw (
    no_start 33 refl c t h,
    no_start 40 refl c t h,
    no_start 36 refl c t h,
    no_start 64 refl
        c t h,
    no_call (c ∷ t) h,
    e,
  ) refl

  basic_compared : (x : tree.Literal) (u v : Text) (o : Operator) → literal_at (c ∷ t) ≡ Some (x, u)
      → operator_at (skip u) ≡ Some (o, v) → basic_at inner (c ∷ t) ≡ right_at inner (tree.literal x) o v
  unfolding basic_at operand_at
  basic_compared x u v o e k = rw (
    no_start 33 refl c t h,
    no_start 40 refl c t h,
    no_start 36 refl c t h,
    no_start 64 refl c t h,
    no_call (c ∷ t) h,
    e,
    k,
  ) refl

logical_none : (n : ℕ) (c : ℕ) (t : Text) → begins_literal (c ∷ t) ≡ true → literal_at (c ∷ t) ≡ None
    → logical_at n (c ∷ t) ≡ None
unfolding logical_at or_at and_at
logical_none zero c t h e = refl
logical_none (suc n) c t h e = rw (basic_none (logical_at n) c t h e) refl

logical_compared : (n : ℕ) (c : ℕ) (t : Text) → begins_literal (c ∷ t) ≡ true
    → (x : tree.Literal) (u v : Text) (o : Operator) → literal_at (c ∷ t) ≡ Some (x, u)
    → operator_at (skip u) ≡ Some (o, v)
    → logical_at n (c ∷ t) ≡ compared_behind n (tree.literal x) o v
unfolding logical_at or_at and_at compared_behind
logical_compared zero c t h x u v o e k = refl
logical_compared (suc n) c t h x u v o e k =
    rw (basic_compared (logical_at n) c t h x u v o e k)
    (bind_assoc (right_at (logical_at n) (tree.literal x) o v) (λ b. and_behind (logical_at n) b.0 b.1)
    (λ a. or_behind (logical_at n) a.0 a.1))

-- ---- the argument

module _ (n : ℕ) where
  pub argument_other : (t : Text) → begins_literal t ≡ false → argument_at (logical_at n) t
      ≡ (logical_at n t >>= λ r. Some (argument_of (begins_with 40 t) r.0, r.1))
  unfolding argument_at
  argument_other t h = rw (none_alone t h) refl

  pub argument_alone : (t : Text) → begins_literal t ≡ true → (x : tree.Literal) (u : Text)
      → literal_at t ≡ Some (x, u) → operator_at (skip u) ≡ None → argument_at (logical_at n) t
      ≡ Some (tree.literal_argument x, u)
  unfolding argument_at
  argument_alone t h x u e k = rw (lone_literal_whole t u x (no_call t h) e k) refl

  no_lone : (t : Text) → begins_literal t ≡ true → literal_at t ≡ None → lone_literal_at t ≡ None
  unfolding lone_literal_at
  no_lone t h e = rw (no_call t h, e) refl

  pub argument_none : (t : Text) → begins_literal t ≡ true → literal_at t ≡ None
      → argument_at (logical_at n) t ≡ None
  unfolding argument_at
  argument_none [] h e = absurd cc
  argument_none (c ∷ t) h e = rw (no_lone (c ∷ t) h e, logical_none n c t h e) refl

  pub argument_compared : (t : Text) → begins_literal t ≡ true
      → (x : tree.Literal) (u v : Text) (o : Operator) → literal_at t ≡ Some (x, u)
      → operator_at (skip u) ≡ Some (o, v)
      → argument_at (logical_at n) t
      ≡ (compared_behind n (tree.literal x) o v >>= λ r. Some (argument_of false r.0, r.1))
  unfolding argument_at
  argument_compared [] h x u v o e k = absurd cc
  argument_compared (c ∷ t) h x u v o e k =
      rw (
        sided (c ∷ t) u x (no_call (c ∷ t) h) e (ap is_none k),
        logical_compared n c t h x u v o e k,
        no_start 40 refl c t h,
      ) refl
