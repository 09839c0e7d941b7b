-- What is read is spelled so: arguments, calls and logical expressions, and the whole text.
use Rattle.std.proofs.Common.{◌≡◌, ℕ, zero, suc, Bool, true, false, cond, ◌||◌, ◌&&◌, eqb, List, [], ◌∷◌}
use Rattle.std.proofs.Common.{◌++◌, length, Option, Some, None, refl, sym, ap, subst, ◌∙◌, append_assoc, inl}
use Rattle.std.proofs.Common.{inr}
use Rattle.std.specs.Prelude.{is_none}
use Rattle.std.proofs.lemmas.List.{append-nil, nil_from_length}
use Rattle.std.proofs.lemmas.Bool.{eqb-true, and_parts}
use Rattle.std.proofs.lemmas.Option.{some_pair_parts, cond_some, option_and_then_some}
use Rattle.jp_tree.specs.declared.tree.Start.TheVariants.{Root}
use Rattle.jp_tree.specs.declared.tree.Operator.{Operator}
use Rattle.jp_tree.specs.Tree.{Text}
use Rattle.jp_tree.specs.Tree as tree
use Rattle.jp_tree.specs.Characters.{is_blank}
use Rattle.jp_tree.specs.Parts.{IsBlank, Behind, behind, After, after, Separated, separated}
use Rattle.jp_tree.specs.Spelling as is
use Rattle.jp_tree.specs.Spelling.{begins_with, operator_text, joined, IsFunctionName, LiteralIs, QueryIs}
use Rattle.jp_tree.specs.Spelling.{CallIs, ArgumentIs, ComparableIs, PlainIs, BasicIs, AndIs, OrIs}
use Rattle.jp_tree.specs.Spelling.{LogicalIs, Spells}
use Rattle.jp_tokens.specs.Reading.{Reader, Outcome, Turn, ◌>>=◌, taken, skip, all_of, function_name_at}
use Rattle.jp_tokens.specs.Reading.{literal_at, mark_at, operator_at, calls}
use Rattle.jp_syntax.specs.inner.Reading.{items_at, lone_literal_at, as_test, is_side, argument_of, next_part}
use Rattle.jp_syntax.specs.inner.Reading.{segments_at, query_at, argument_at, arguments_at, call_at}
use Rattle.jp_syntax.specs.inner.Reading.{operand_at}
use Rattle.jp_syntax.specs.inner.Reading.{grouped_at, tested_at, plain_at, right_at, compared_at, basic_at}
use Rattle.jp_syntax.specs.inner.Reading.{and_at}
use Rattle.jp_syntax.specs.inner.Reading.{or_at, logical_at, read}
use Rattle.jp_tokens.proofs.Fronts.{given, chosen, Front, run_whole, run_each, IsTurn, all_sound}
use Rattle.jp_tokens.proofs.Following.{firm}
use Rattle.jp_tokens.proofs.LeavesRead.{carried, function_sound, literal_sound, mark_sound}
use Rattle.jp_syntax.proofs.Operands.{begins_front, OperandIs, literal_operand, query_operand, call_operand}
use Rattle.jp_syntax.proofs.Operands.{side_of, test_of, logical_firm}
use Rattle.jp_syntax.proofs.PartsSound.{front_behind, led_whole, Led, led, after_behind, turned, Nothing}
use Rattle.jp_syntax.proofs.PartsSound.{Closing, closing, operator_sound, items_sound, segments_sound}
use Rattle.jp_syntax.proofs.PartsSound.{query_sound}

lone_sound : (t : Text) (x : tree.Literal) (rest : Text) → lone_literal_at t ≡ Some (x, rest)
    → Front LiteralIs t x rest
unfolding lone_literal_at
lone_sound t x rest e =
    elim (chosen (calls t) None _ (Some (x, rest)) e) [
      | inl h ↦ absurd cc
      | inr h ↦
          option_and_then_some (λ r. cond (is_none (operator_at (skip r.1))) (Some r) None) (literal_at t)
          (x, rest) h.1 (λ r er kr.
          let g = cond_some (is_none (operator_at (skip r.1))) r (x, rest) kr in
          subst (λ (p : tree.Literal × Text). Front LiteralIs t p.0 p.1) g.1 (literal_sound t r.0 r.1 er))
    ]

module _ (inner : Reader tree.Logical) (Inner : Text → tree.Logical → Type 0)
    (inner_sound : (t : Text) (x : tree.Logical) (rest : Text) → inner t ≡ Some (x, rest)
    → Front Inner t x rest)
    (inner_firm : (s : Text) (x : tree.Logical) → Inner s x → firm s ≡ true) where
  -- ---- arguments and calls

  argument_made : (b : Bool) (s : Text) (l : tree.Logical) → Inner s l → begins_with 40 s ≡ b
      → ArgumentIs Inner s (argument_of b l)
  argument_made true s l p e = is.logical_argument s l p (rw e refl)
  argument_made false s (tree.any ls) p e = is.logical_argument s (tree.any ls) p (rw e refl)
  argument_made false s (tree.all ls) p e = is.logical_argument s (tree.all ls) p (rw e refl)
  argument_made false s (tree.negation l) p e = is.logical_argument s (tree.negation l) p (rw e refl)
  argument_made false s (tree.comparing c) p e = is.logical_argument s (tree.comparing c) p (rw e refl)
  argument_made false s (tree.test q) p e = is.query_argument s q p (rw e refl)
  argument_made false s (tree.test_call c) p e = is.call_argument s c p (rw e refl)

  pub argument_sound : (t : Text) (x : tree.Argument) (rest : Text) → argument_at inner t ≡ Some (x, rest)
      → Front (ArgumentIs Inner) t x rest
  unfolding argument_at
  argument_sound t x rest e =
      elim (chosen (is_none (lone_literal_at t)) _ _ (Some (x, rest)) e) [
        | inl h ↦
            option_and_then_some (given (λ l. argument_of (begins_with 40 t) l)) (inner t) (x, rest) h.1
            (λ r er kr.
            let f = inner_sound t r.0 r.1 er in
            let b : begins_with 40 f.front ≡ begins_with 40 t =
            sym (begins_front 40 f.front r.1 (inner_firm f.front r.0 f.part))
            ∙ ap (begins_with 40) (sym f.whole) in
            carried (ArgumentIs Inner) t (argument_of (begins_with 40 t) r.0, r.1) (x, rest) kr
            (record {
              front = f.front;
              part = argument_made (begins_with 40 t) f.front r.0 f.part b;
              whole =
                  f.whole;
            }))
        | inr h ↦
            option_and_then_some (given (λ y. tree.literal_argument y)) (lone_literal_at t) (x, rest) h.1
            (λ r er kr.
            let f = lone_sound t r.0 r.1 er in
            carried (ArgumentIs Inner) t (tree.literal_argument r.0, r.1) (x, rest) kr
            (record { front = f.front; part = is.literal_argument f.front r.0 f.part; whole = f.whole }))
      ]

  -- the arguments and the parenthesis that closes
  data ArgumentsIn : Text → List tree.Argument → Type 0 where
    none_in : ArgumentsIn (41 ∷ []) []
    some_in : (s last : Text) (xs : List tree.Argument) → Separated (44 ∷ []) (ArgumentIs Inner) s xs
        → Closing 41 last → ArgumentsIn (s ++ last) xs

  arguments_sound : (t : Text) (xs : List tree.Argument) (rest : Text)
      → arguments_at inner t ≡ Some (xs, rest) → Front ArgumentsIn t xs rest
  unfolding arguments_at
  arguments_sound [] xs rest e = absurd cc
  arguments_sound (c ∷ t) xs rest e =
      elim (chosen (eqb c 41) (Some ([], t)) (items_at 41 (argument_at inner) (c ∷ t)) (Some (xs, rest)) e) [
        | inl h ↦
            let m : c ≡ 41 = eqb-true c 41 h.0 in
            carried ArgumentsIn (c ∷ t) ([], t) (xs, rest) h.1
            (record { front = 41 ∷ []; part = none_in; whole = rw m refl })
        | inr h ↦
            let m = items_sound 41 (argument_at inner) (ArgumentIs Inner) argument_sound (c ∷ t) xs rest
            h.1 in
            record {
              front = m.front ++ m.last;
              part = some_in m.front m.last xs m.items m.ends;
              whole =
                  m.whole ∙ sym (append_assoc m.front m.last rest);
            }
      ]

  call_made : (f r s : Text) (xs : List tree.Argument) → IsFunctionName f → IsBlank r → ArgumentsIn s xs
      → CallIs Inner (f ++ (40 ∷ (r ++ s))) (tree.call f (tree.arguments xs))
  call_made f r s xs n b none_in = is.call_of_none f r n b
  call_made f r w xs n b (some_in s z ys p (closing t h)) = is.call f r s t ys n b p h

  call_shape : (t f u v b w s rest : Text) → t ≡ f ++ u → u ≡ 40 ∷ v → v ≡ b ++ w → w ≡ s ++ rest
      → t ≡ (f ++ (40 ∷ (b ++ s))) ++ rest
  call_shape t f u v b w s rest a c d e = rw (a, c, d, e) (simp append_assoc)

  abbrev call_given : Text → List tree.Argument × Text → Outcome tree.Call
  call_given f = given (λ xs. tree.call f (tree.arguments xs))

  call_sound : (t : Text) (x : tree.Call) (rest : Text) → call_at inner t ≡ Some (x, rest)
      → Front (CallIs Inner) t x rest
  unfolding call_at
  call_sound t x rest e =
      option_and_then_some (λ name. mark_at 40 name.1 >>= λ u. arguments_at inner (skip u) >>= call_given
      name.0) (function_name_at t) (x, rest) e (λ name en kn.
      option_and_then_some (λ u. arguments_at inner (skip u) >>= call_given name.0) (mark_at 40 name.1)
      (x, rest) kn (λ u eu ku.
      option_and_then_some (call_given name.0) (arguments_at inner (skip u)) (x, rest) ku (λ r er kr.
      let f = function_sound t name.0 name.1 en in
      let g = arguments_sound (skip u) r.0 r.1 er in
      carried (CallIs Inner) t (tree.call name.0 (tree.arguments r.0), r.1) (x, rest) kr (record {
        front = f.front ++ (40 ∷ (taken is_blank u ++ g.front));
        part = subst (λ (w : Text). CallIs Inner (f.front ++ (40 ∷ (taken is_blank u ++ g.front)))
            (tree.call w (tree.arguments r.0))) f.part.1 (call_made f.front (taken is_blank u) g.front r.0
            f.part.0 (run_each is_blank u) g.part);
        whole = call_shape t f.front name.1 u (taken is_blank u) (skip u) g.front r.1 f.whole
            (mark_sound 40 name.1 u eu) (run_whole is_blank u) g.whole;
      }))))

  -- ---- sides

  operand_sound : (t : Text) (x : tree.Comparable) (rest : Text) → operand_at inner t ≡ Some (x, rest)
      → Front (OperandIs Inner) t x rest
  unfolding operand_at
  operand_sound [] x rest e = absurd cc
  operand_sound (c ∷ t) x rest e =
      elim (chosen (eqb c 36 || eqb c 64) _ _ (Some (x, rest)) e) [
        | inl h ↦
            option_and_then_some (given (λ q. tree.single q)) (query_at inner (c ∷ t)) (x, rest) h.1
            (λ r er kr.
            carried (OperandIs Inner) (c ∷ t) (tree.single r.0, r.1) (x, rest) kr
            (turned (QueryIs Inner) (OperandIs Inner) (c ∷ t) r.0 (tree.single r.0) r.1
            (λ s p. query_operand s r.0 p) (query_sound inner Inner inner_sound (c ∷ t) r.0 r.1 er)))
        | inr h ↦ elim (chosen (calls (c ∷ t)) _ _ (Some (x, rest)) h.1) [
          | inl k ↦
              option_and_then_some (given (λ y. tree.value_call y)) (call_at inner (c ∷ t)) (x, rest) k.1
              (λ r er kr.
              carried (OperandIs Inner) (c ∷ t) (tree.value_call r.0, r.1) (x, rest) kr
              (turned (CallIs Inner) (OperandIs Inner) (c ∷ t) r.0 (tree.value_call r.0) r.1
              (λ s p. call_operand s r.0 p) (call_sound (c ∷ t) r.0 r.1 er)))
          | inr k ↦
              option_and_then_some (given (λ y. tree.literal y)) (literal_at (c ∷ t)) (x, rest) k.1
              (λ r er kr.
              carried (OperandIs Inner) (c ∷ t) (tree.literal r.0, r.1) (x, rest) kr
              (turned LiteralIs (OperandIs Inner) (c ∷ t) r.0 (tree.literal r.0) r.1
              (λ s p. literal_operand s r.0 p) (literal_sound (c ∷ t) r.0 r.1 er)))
        ]
      ]

  -- ---- logical expressions

  spaced_closed : (b s d rest t u : Text) → t ≡ b ++ (s ++ u) → u ≡ d ++ 41 ∷ rest
      → t ≡ (b ++ (s ++ (d ++ 41 ∷ []))) ++ rest
  spaced_closed b s d rest t u e h = e ∙ ap (λ (w : Text). b ++ (s ++ w)) h ∙ simp append_assoc

  grouped_sound : (t : Text) (x : tree.Logical) (rest : Text) → grouped_at inner t ≡ Some (x, rest)
      → Front (Led 40 (PlainIs Inner)) t x rest
  unfolding grouped_at
  grouped_sound t x rest e =
      option_and_then_some (λ inside. mark_at 41 (skip inside.1) >>= λ u. Some (inside.0, u)) (inner (skip t))
      (x, rest) e (λ a h k.
      option_and_then_some (λ u. Some (a.0, u)) (mark_at 41 (skip a.1)) (x, rest) k (λ u h2 k2.
      let f = inner_sound (skip t) a.0 a.1 h in
      let m = mark_sound 41 (skip a.1) u h2 in
      carried (Led 40 (PlainIs Inner)) t (a.0, u) (x, rest) k2 (record {
        front = taken is_blank t ++ (f.front ++ (taken is_blank a.1 ++ 41 ∷ []));
        part = is.grouped (taken is_blank t) f.front (taken is_blank a.1) a.0 (run_each is_blank t) f.part
            (run_each is_blank a.1);
        whole = spaced_closed (taken is_blank t) f.front (taken is_blank a.1) u t a.1 (run_whole is_blank t
            ∙ ap (λ (w : Text). taken is_blank t ++ w) f.whole) (run_whole is_blank a.1
            ∙ ap (λ (w : Text). taken is_blank a.1 ++ w) m);
      })))

  tested_sound : (t : Text) (y : tree.Comparable) (u : Text) (x : tree.Logical) (rest : Text)
      → Front (OperandIs Inner) t y u → tested_at y u ≡ Some (x, rest) → Front (PlainIs Inner) t x rest
  unfolding tested_at
  tested_sound t y u x rest f e =
      option_and_then_some (λ l. Some (l, u)) (as_test y) (x, rest) e (λ l el kl.
      carried (PlainIs Inner) t (l, u) (x, rest) kl
      (record { front = f.front; part = test_of Inner f.front y l f.part el; whole = f.whole }))

  plain_sound : (t : Text) (x : tree.Logical) (rest : Text) → plain_at inner t ≡ Some (x, rest)
      → Front (PlainIs Inner) t x rest
  unfolding plain_at
  plain_sound [] x rest e = absurd cc
  plain_sound (c ∷ t) x rest e =
      elim (chosen (eqb c 40) (grouped_at inner t) (operand_at inner (c ∷ t) >>= λ r. tested_at r.0 r.1)
      (Some (x, rest)) e) [
        | inl h ↦ led (PlainIs Inner) c 40 t x rest (eqb-true c 40 h.0) (grouped_sound t x rest h.1)
        | inr h ↦
            option_and_then_some (λ r. tested_at r.0 r.1) (operand_at inner (c ∷ t)) (x, rest) h.1 (λ r er kr.
            tested_sound (c ∷ t) r.0 r.1 x rest (operand_sound (c ∷ t) r.0 r.1 er) kr)
      ]

  abbrev right_given : tree.Comparable → Operator → tree.Comparable × Text → Outcome tree.Logical
  right_given left o right = cond (is_side left && is_side right.0)
      (Some (tree.comparing (tree.comparison left o right.0), right.1)) None

  right_sound : (left : tree.Comparable) (o : Operator) (t : Text) (x : tree.Logical) (rest : Text)
      → right_at inner left o t ≡ Some (x, rest)
      → (right : tree.Comparable) × Front (Behind (OperandIs Inner)) t right rest × (is_side left ≡ true)
      × (is_side right ≡ true) × (tree.comparing (tree.comparison left o right) ≡ x)
  unfolding right_at
  right_sound left o t x rest e =
      option_and_then_some (right_given left o) (operand_at inner (skip t)) (x, rest) e (λ a h k.
      let g = cond_some (is_side left && is_side a.0) (tree.comparing (tree.comparison left o a.0), a.1)
      (x, rest) k in
      let both = and_parts (is_side left) (is_side a.0) g.0 in
      let f = front_behind (OperandIs Inner) t a.0 a.1 (operand_sound (skip t) a.0 a.1 h) in
      let r : a.1 ≡ rest = ap (λ (p : tree.Logical × Text). p.1) g.1 in (
        a.0,
        subst (λ (w : Text). Front (Behind (OperandIs Inner)) t a.0 w) r f,
        both.0,
        both.1,
        ap
            (λ (p : tree.Logical × Text). p.0) g.1,
      ))

  compared_shape : (t f u b w o v g rest : Text) → t ≡ f ++ u → u ≡ b ++ w → w ≡ o ++ v → v ≡ g ++ rest
      → t ≡ (f ++ (b ++ (o ++ g))) ++ rest
  compared_shape t f u b w o v g rest e h k l = rw (e, h, k, l) (simp append_assoc)

  right_side : (mark : Text) (r s : Text) (x : tree.Comparable) → IsBlank r → is_side x ≡ true
      → Behind (OperandIs Inner) s x → After mark (ComparableIs Inner) (r ++ (mark ++ s)) x
  right_side mark r w y h fits (behind s t x b p) = after r s t x h b (side_of Inner t x p fits)

  compared_sound : (t : Text) (y : tree.Comparable) (u : Text) → Front (OperandIs Inner) t y u
      → (found : Outcome Operator) → operator_at (skip u) ≡ found → (x : tree.Logical) (rest : Text)
      → compared_at inner y u found ≡ Some (x, rest) → Front (BasicIs Inner) t x rest
  compared_sound t y u f None at x rest e = turned (PlainIs Inner) (BasicIs Inner) t x x rest
      (λ s p. is.plain s x p) (tested_sound t y u x rest f e)
  compared_sound t y u f (Some p) at x rest e =
      let r = right_sound y p.0 p.1 x rest e in
      let g = r.1 in
      subst (λ (l : tree.Logical). Front (BasicIs Inner) t l rest) r.4 (record {
        front = f.front ++ (taken is_blank u ++ (operator_text p.0 ++ g.front));
        part = is.compared f.front (taken is_blank u ++ (operator_text p.0 ++ g.front)) y r.0 p.0
            (side_of Inner f.front y f.part r.2) (right_side (operator_text p.0) (taken is_blank u)
            g.front r.0
            (run_each is_blank u) r.3 g.part);
        whole = compared_shape t f.front u (taken is_blank u) (skip u) (operator_text p.0) p.1 g.front rest
            f.whole (run_whole is_blank u) (operator_sound (skip u) p.0 p.1 at) g.whole;
      })

  negated_of : (s : Text) (x : tree.Logical) → Behind (PlainIs Inner) s x
      → BasicIs Inner (33 ∷ s) (tree.negation x)
  negated_of w y (behind s t x b p) = is.negated s t x b p

  as_plain : (t : Text) (x : tree.Logical) (rest : Text) → Front (PlainIs Inner) t x rest
      → Front (BasicIs Inner) t x rest
  as_plain t x rest f = record { front = f.front; part = is.plain f.front x f.part; whole = f.whole }

  pub basic_sound : (t : Text) (x : tree.Logical) (rest : Text) → basic_at inner t ≡ Some (x, rest)
      → Front (BasicIs Inner) t x rest
  unfolding basic_at
  basic_sound [] x rest e = absurd cc
  basic_sound (c ∷ t) x rest e =
      elim (chosen (eqb c 33) _ _ (Some (x, rest)) e) [
        | inl h ↦
            let m : c ≡ 33 = eqb-true c 33 h.0 in
            option_and_then_some (given (λ l. tree.negation l)) (plain_at inner (skip t)) (x, rest) h.1
            (λ a k l.
            let f = front_behind (PlainIs Inner) t a.0 a.1 (plain_sound (skip t) a.0 a.1 k) in
            carried (BasicIs Inner) (c ∷ t) (tree.negation a.0, a.1) (x, rest) l
            (record {
              front = 33 ∷ f.front;
              part = negated_of f.front a.0 f.part;
              whole =
                  rw m (ap (λ (w : Text). 33 ∷ w) f.whole);
            }))
        | inr h ↦ elim (chosen (eqb c 40) (grouped_at inner t) (operand_at inner (c ∷ t) >>= λ r. compared_at
            inner r.0 r.1 (operator_at (skip r.1))) (Some (x, rest)) h.1) [
              | inl k ↦ as_plain (c ∷ t) x rest (led (PlainIs Inner) c 40 t x rest (eqb-true c 40 k.0)
                  (grouped_sound t x rest k.1))
              | inr k ↦
                  option_and_then_some (λ r. compared_at inner r.0 r.1 (operator_at (skip r.1)))
                  (operand_at inner (c ∷ t)) (x, rest) k.1 (λ a l m.
                  compared_sound (c ∷ t) a.0 a.1 (operand_sound (c ∷ t) a.0 a.1 l)
                  (operator_at (skip a.1)) refl x
                  rest m)
            ]
      ]

  -- ---- parts with a mark between, which is a character twice
  module _ (mark : ℕ) (part : Reader tree.Logical) (Part : Text → tree.Logical
      → Type 0) (part_sound : (t : Text) (x : tree.Logical) (rest : Text) → part t ≡ Some (x, rest)
      → Front Part t x rest) where
    abbrev part_turn : Text → Turn tree.Logical
    part_turn u = next_part mark part u (skip u)

    abbrev NextPart : Text → Option tree.Logical → Type 0
    NextPart = IsTurn part_turn (After (mark ∷ mark ∷ []) Part) Nothing

    part_at : (b s : Text) (o : Option tree.Logical) (rest : Text) → IsBlank b
        → next_part mark part (b ++ s) s ≡ Some (o, rest) → Front NextPart (b ++ s) o rest
    unfolding next_part
    part_at b [] o rest h e = carried NextPart (b ++ []) (None, b ++ []) (o, rest) e
        (record { front = []; part = refl; whole = refl })
    part_at b (c ∷ t) o rest h e =
        elim (chosen (eqb c mark) (mark_at mark t >>= λ u. part (skip u) >>= λ r. Some (Some r.0, r.1))
        (Some (None, b ++ c ∷ t)) (Some (o, rest)) e) [
          | inl k ↦
              let m : c ≡ mark = eqb-true c mark k.0 in
              option_and_then_some (λ u. part (skip u) >>= λ r. Some (Some r.0, r.1)) (mark_at mark t)
              (o, rest) k.1 (λ u g l.
              option_and_then_some (λ r. Some (Some r.0, r.1)) (part (skip u)) (o, rest) l (λ a n p.
              let f = front_behind Part u a.0 a.1 (part_sound (skip u) a.0 a.1 n) in
              carried NextPart (b ++ c ∷ t) (Some a.0, a.1) (o, rest) p (record {
                front = b ++ (mark ∷ mark ∷ f.front);
                part = after_behind (mark ∷ mark ∷ []) Part b f.front a.0 h f.part;
                whole = led_whole b t (mark ∷ f.front) a.1 c mark m (mark_sound mark t u g
                    ∙ ap (λ (w : Text). mark ∷ w) f.whole);
              })))
          | inr k ↦ carried NextPart (b ++ c ∷ t) (None, b ++ c ∷ t) (o, rest) k.1
              (record { front = []; part = refl; whole = refl })
        ]

    pub turn_sound : (u : Text) (o : Option tree.Logical) (rest : Text) → part_turn u ≡ Some (o, rest)
        → Front NextPart u o rest
    turn_sound u o rest e =
        let f = part_at (taken is_blank u) (skip u) o rest (run_each is_blank u)
        (ap (λ (w : Text). next_part mark part w (skip u)) (sym (run_whole is_blank u)) ∙ e) in
        record { front = f.front; part = f.part; whole = run_whole is_blank u ∙ f.whole }

    parts_whole : (t f u m l rest : Text) → t ≡ f ++ u → u ≡ m ++ (l ++ rest) → l ≡ [] → t ≡ (f ++ m) ++ rest
    parts_whole t f u m l rest e h k = rw (e, h, k) (sym (append_assoc f m rest))

    abbrev made_of : (List tree.Logical → tree.Logical) → List tree.Logical × Text → Outcome tree.Logical
    made_of make others = Some (make others.0, others.1)

    abbrev others_of : (List tree.Logical → tree.Logical) → tree.Logical × Text → Outcome tree.Logical
    others_of make first = all_of part_turn (first.0 ∷ []) first.1 >>= made_of make

    -- the list of the parts, and what is made of it
    parts_sound : (make : List tree.Logical → tree.Logical) (t : Text) (x : tree.Logical) (rest : Text)
        → (part t >>= others_of make) ≡ Some (x, rest)
        → (xs : List tree.Logical) × Front (Separated (mark ∷ mark ∷ []) Part) t xs rest × (make xs ≡ x)
    parts_sound make t x rest e =
        option_and_then_some (others_of make) (part t) (x, rest) e (λ a h k.
        option_and_then_some (made_of make) (all_of part_turn (a.0 ∷ []) a.1) (x, rest) k (λ d l n.
        let f = part_sound t a.0 a.1 h in
        let m = all_sound part_turn (After (mark ∷ mark ∷ []) Part) Nothing turn_sound (a.0 ∷ []) d.0 a.1 d.1
        l in
        let p = some_pair_parts (make d.0) x d.1 rest n in
        let made : Front (Separated (mark ∷ mark ∷ []) Part) t (a.0 ∷ m.more) d.1 = record {
          front = f.front ++ m.front;
          part = separated f.front m.front a.0 m.more f.part m.parts;
          whole = parts_whole t f.front a.1 m.front m.last d.1 f.whole m.whole m.ends;
        } in (
          d.0,
          subst (λ (w : Text). Front (Separated (mark ∷ mark ∷ []) Part) t d.0 w) p.1
              (subst (λ (ys : List tree.Logical). Front (Separated (mark ∷ mark ∷ []) Part) t ys d.1)
              (sym m.list)
              made),
          p.0,
        )))

  pub and_sound : (t : Text) (x : tree.Logical) (rest : Text) → and_at inner t ≡ Some (x, rest)
      → Front (AndIs Inner) t x rest
  unfolding and_at
  and_sound t x rest e =
      let r = parts_sound 38 (basic_at inner) (BasicIs Inner) basic_sound (joined tree.all) t x rest e in
      subst (λ (l : tree.Logical). Front (AndIs Inner) t l rest) r.2
      (record { front = r.1.front; part = is.and r.1.front r.0 r.1.part; whole = r.1.whole })

  pub or_sound : (t : Text) (x : tree.Logical) (rest : Text) → or_at inner t ≡ Some (x, rest)
      → Front (OrIs Inner) t x rest
  unfolding or_at
  or_sound t x rest e =
      let r = parts_sound 124 (and_at inner) (AndIs Inner) and_sound (joined tree.any) t x rest e in
      subst (λ (l : tree.Logical). Front (OrIs Inner) t l rest) r.2
      (record { front = r.1.front; part = is.or r.1.front r.0 r.1.part; whole = r.1.whole })

pub logical_sound : (n : ℕ) (t : Text) (x : tree.Logical) (rest : Text) → logical_at n t ≡ Some (x, rest)
    → Front (LogicalIs n) t x rest
unfolding logical_at
logical_sound zero t x rest e = absurd cc
logical_sound (suc n) t x rest e = or_sound (logical_at n) (LogicalIs n) (logical_sound n) (logical_firm n) t
    x rest e

abbrev whole_given : List tree.Segment × Text → Option tree.Query
whole_given r = cond (eqb (length r.1) 0) (Some (tree.query_from Root r.0)) None

pub read_sound : (n : ℕ) (t : Text) (q : tree.Query) → read n t ≡ Some q → Spells t q
unfolding read
read_sound n [] q e = absurd cc
read_sound n (c ∷ t) q e =
    elim (chosen (eqb c 36) (segments_at (logical_at n) t >>= whole_given) None (Some q) e) [
      | inl h ↦
          let m : c ≡ 36 = eqb-true c 36 h.0 in
          option_and_then_some whole_given (segments_at (logical_at n) t) q h.1 (λ a k l.
          let g = cond_some (eqb (length a.1) 0) (tree.query_from Root a.0) q l in
          let f = segments_sound (logical_at n) (LogicalIs n) (logical_sound n) t a.0 a.1 k in
          let none : a.1 ≡ [] = nil_from_length a.1 (eqb-true (length a.1) 0 g.0) in
          let w : t ≡ f.front = f.whole ∙ ap (λ (v : Text). f.front ++ v) none ∙ append-nil f.front in
          let made : Spells (36 ∷ f.front) (tree.query_from Root a.0) = is.spells n f.front a.0 f.part in
          subst (λ (p : tree.Query). Spells (c ∷ t) p) g.1 (rw (m, w) made))
      | inr h ↦ absurd cc
    ]
