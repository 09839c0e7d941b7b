-- What is spelled so is read: arguments, calls and logical expressions, and the whole text.
use Rattle.std.proofs.Common.{◌≡◌, ℕ, zero, suc, ◌<◌, ◌≤◌, Bool, true, false, ◌||◌, eqb, List, [], ◌∷◌, ◌++◌}
use Rattle.std.proofs.Common.{length, Some, None, refl, sym, ap, subst, ◌∙◌, append_assoc, length-append}
use Rattle.std.proofs.Common.{arith}
use Rattle.std.proofs.lemmas.List.{append-nil}
use Rattle.std.proofs.lemmas.Bool.{eq-eqb, not-true}
use Rattle.jp_tree.specs.declared.tree.Start.TheVariants.{Root}
use Rattle.jp_tree.specs.declared.tree.Operator.{Operator}
use Rattle.jp_tree.specs.Tree.{Text}
use Rattle.jp_tree.specs.Tree as tree
use Rattle.jp_tree.specs.Characters.{is_blank, is_lower}
use Rattle.jp_tree.specs.Parts.{run, IsBlank, After, after, Separated, separated}
use Rattle.jp_tree.specs.Spelling as is
use Rattle.jp_tree.specs.Spelling.{begins_with, is_composite, operator_text, joined, IsFunctionName}
use Rattle.jp_tree.specs.Spelling.{LiteralIs, QueryIs, CallIs, ArgumentIs, ComparableIs}
use Rattle.jp_tree.specs.Spelling.{PlainIs, BasicIs, AndIs, OrIs, LogicalIs, Spells}
use Rattle.jp_tokens.specs.Reading.{Reader, Outcome, Turn, ◌>>=◌, skip, all_of, function_name_at, literal_at}
use Rattle.jp_tokens.specs.Reading.{mark_at, operator_at, calls}
use Rattle.jp_syntax.specs.inner.Reading.{items_at, lone_literal_at, as_test, is_side, argument_of, next_part}
use Rattle.jp_syntax.specs.inner.Reading.{segments_at, query_at, argument_at, arguments_at, call_at}
use Rattle.jp_syntax.specs.inner.Reading.{operand_at}
use Rattle.jp_syntax.specs.inner.Reading.{grouped_at, tested_at, plain_at, right_at, compared_at, basic_at}
use Rattle.jp_syntax.specs.inner.Reading.{and_at}
use Rattle.jp_syntax.specs.inner.Reading.{or_at, logical_at, read}
use Rattle.jp_tokens.proofs.Fronts.{past_each, starts, Steps, all_whole, star_good}
use Rattle.jp_tokens.proofs.Following.{differs, firm, firm_some, skip_behind, Meets, meets_behind, meets_firm}
use Rattle.jp_tokens.proofs.Following.{among_all, starts_wider, after_side}
use Rattle.jp_syntax.proofs.Following.{after_argument, after_logical, after_and, after_basic, basic_in_side}
use Rattle.jp_syntax.proofs.Following.{argument_in_side, argument_in_basic, argument_in_logical}
use Rattle.jp_syntax.proofs.NotEmpty.{after_some}
use Rattle.jp_tokens.proofs.LeavesRead.{function_whole, literal_whole, mark_whole}
use Rattle.jp_syntax.proofs.Operands.{is_lead, leads, leads_firm, begins_front, literal_leads, literal_begins}
use Rattle.jp_syntax.proofs.Operands.{operand_begins, leads_append, OperandIs, literal_operand, query_operand}
use Rattle.jp_syntax.proofs.Operands.{call_operand, operand_of, side_fits, operand_leads, plain_leads}
use Rattle.jp_syntax.proofs.Operands.{basic_leads, and_leads, or_leads, logical_leads}
use Rattle.jp_syntax.proofs.LoneLiterals.{literal_calls_none, call_calls, lone_literal_whole, logical_alone}
use Rattle.jp_syntax.proofs.PartsWhole.{Rest, operator_end, operator_whole, operator_skip, operator_meets}
use Rattle.jp_syntax.proofs.PartsWhole.{items_whole, segments_whole, query_whole}

-- what is at the end begins no operator
blank_no_equal : (b s u : Text) → IsBlank b → leads s ≡ true → begins_with 61 (b ++ (s ++ u)) ≡ false
blank_no_equal [] [] u h l = absurd cc
blank_no_equal [] (c ∷ s) u h l = differs is_lead 61 refl c l
blank_no_equal (c ∷ b) s u h l = differs is_blank 61 refl c h.0

begins_lead : (d : ℕ) (s u : Text) → is_lead d ≡ false → leads s ≡ true → begins_with d (s ++ u) ≡ false
begins_lead d [] u n h = absurd cc
begins_lead d (c ∷ s) u n h = differs is_lead d n c h

module _ (inner : Reader tree.Logical) (Inner : Text → tree.Logical → Type 0) (limit : ℕ)
    (inner_leads : (s : Text) (x : tree.Logical) → Inner s x → leads s ≡ true)
    (inner_alone : (s : Text) (x : tree.Logical) (u : Text) → Inner s x → lone_literal_at (s ++ u) ≡ None)
    (inner_whole : (s : Text) (x : tree.Logical) (u : Text) → Inner s x → length s ≤ limit
    → Meets after_logical u → inner (s ++ u) ≡ Some (x, u)) where
  inner_firm : (s : Text) (x : tree.Logical) → Inner s x → firm s ≡ true
  inner_firm s x p = leads_firm s (inner_leads s x p)

  -- ---- arguments and calls

  argument_literal : (t u : Text) (x : tree.Literal) → lone_literal_at t ≡ Some (x, u)
      → argument_at inner t ≡ Some (tree.literal_argument x, u)
  unfolding argument_at
  argument_literal t u x e = rw e refl

  argument_logical : (t u : Text) (l : tree.Logical) (b : Bool) → lone_literal_at t ≡ None
      → begins_with 40 t ≡ b → inner t ≡ Some (l, u) → argument_at inner t ≡ Some (argument_of b l, u)
  unfolding argument_at
  argument_logical t u l b e h k = rw (e, h, k) refl

  argument_leads : (s : Text) (x : tree.Argument) → ArgumentIs Inner s x → leads s ≡ true
  argument_leads s x (is.literal_argument t y p) = literal_leads t y p
  argument_leads s x (is.query_argument t q p h) = inner_leads t (tree.test q) p
  argument_leads s x (is.call_argument t c p h) = inner_leads t (tree.test_call c) p
  argument_leads s x (is.logical_argument t l p h) = inner_leads t l p

  argument_firm : (s : Text) (x : tree.Argument) → ArgumentIs Inner s x → firm s ≡ true
  argument_firm s x p = leads_firm s (argument_leads s x p)

  composite : (b : Bool) (l : tree.Logical) → (b || is_composite l) ≡ true
      → argument_of b l ≡ tree.logical_argument l
  composite true l h = refl
  composite false (tree.any ls) h = refl
  composite false (tree.all ls) h = refl
  composite false (tree.negation l) h = refl
  composite false (tree.comparing c) h = refl
  composite false (tree.test q) h = absurd cc
  composite false (tree.test_call c) h = absurd cc

  argument_as : (s : Text) (l : tree.Logical) (u : Text) → Inner s l → length s ≤ limit
      → Meets after_argument u → argument_at inner (s ++ u) ≡ Some (argument_of (begins_with 40 s) l, u)
  argument_as s l u p le m =
      argument_logical (s ++ u) u l (begins_with 40 s) (inner_alone s l u p)
      (begins_front 40 s u (inner_firm s l p)) (inner_whole s l u p le (argument_in_logical u m))

  argument_is : (s : Text) (x : tree.Argument) (u : Text) → ArgumentIs Inner s x → length s ≤ limit
      → Meets after_argument u → argument_at inner (s ++ u) ≡ Some (x, u)
  argument_is s x u (is.literal_argument t y p) le m =
      let side = argument_in_side u m in
      argument_literal (t ++ u) u y (lone_literal_whole (t ++ u) u y (literal_calls_none t y u p side)
      (literal_whole t y u p side) (operator_end (skip u) (argument_in_basic u m)))
  argument_is s x u (is.query_argument t q p h) le m = argument_as t (tree.test q) u p le m
      ∙ rw (not-true (begins_with 40 t) h) refl
  argument_is s x u (is.call_argument t c p h) le m = argument_as t (tree.test_call c) u p le m
      ∙ rw (not-true (begins_with 40 t) h) refl
  argument_is s x u (is.logical_argument t l p h) le m = argument_as t l u p le m
      ∙ ap (λ (a : tree.Argument). Some (a, u)) (composite (begins_with 40 t) l h)

  argument_whole : (s : Text) (x : tree.Argument) (u : Text) → ArgumentIs Inner s x → length s ≤ limit
      → Meets after_argument u → Rest (argument_at inner (s ++ u)) x u
  argument_whole s x u p le m = record { blanks = []; are = tt; read = argument_is s x u p le m }

  arguments_items : (s : Text) → begins_with 41 s ≡ false → leads s ≡ true → (u : Text)
      → arguments_at inner (s ++ u) ≡ items_at 41 (argument_at inner) (s ++ u)
  unfolding arguments_at
  arguments_items [] h l u = absurd cc
  arguments_items (c ∷ s) h l u = rw h refl

  arguments_none : (u : Text) → arguments_at inner (41 ∷ u) ≡ Some ([], u)
  unfolding arguments_at
  arguments_none u = refl

  list_leads : (s : Text) (xs : List tree.Argument) → Separated (44 ∷ []) (ArgumentIs Inner) s xs
      → leads s ≡ true
  list_leads w ys (separated s t x xs p ps) = leads_append s t (argument_leads s x p)

  arguments_whole : (s t u : Text) (xs : List tree.Argument) → Separated (44 ∷ []) (ArgumentIs Inner) s xs
      → IsBlank t → length s ≤ limit → arguments_at inner (s ++ (t ++ 41 ∷ u)) ≡ Some (xs, u)
  arguments_whole s t u xs p h le =
      let l = list_leads s xs p in
      let n : begins_with 41 s ≡ false = ap (begins_with 41) (sym (append-nil s))
      ∙ begins_lead 41 s [] refl l in
      arguments_items s n l (t ++ 41 ∷ u)
      ∙ items_whole 41 (argument_at inner) (ArgumentIs Inner) after_argument limit argument_firm
      argument_whole refl refl refl refl s t u xs p h le

  call_is : (f t w u : Text) (xs : List tree.Argument) → function_name_at (f ++ (40 ∷ t)) ≡ Some (f, 40 ∷ t)
      → skip t ≡ w → arguments_at inner w ≡ Some (xs, u) → call_at inner (f ++ (40 ∷ t))
      ≡ Some (tree.call f (tree.arguments xs), u)
  unfolding call_at mark_at
  call_is f t w u xs e h k = rw (e, h, k) refl

  some_name : (f : Text) → IsFunctionName f → 0 < length f
  some_name f (run c t h k) = omega arith

  call_whole : (s : Text) (c : tree.Call) (u : Text) → CallIs Inner s c → length s ≤ suc limit
      → call_at inner (s ++ u) ≡ Some (c, u)
  call_whole s c u (is.call_of_none f b n h) le =
      let shape : (f ++ (40 ∷ (b ++ 41 ∷ []))) ++ u ≡ f ++ (40 ∷ (b ++ 41 ∷ u)) = simp append_assoc in
      ap (call_at inner) shape
      ∙ call_is f (b ++ 41 ∷ u) (41 ∷ u) u [] (function_whole f (40 ∷ (b ++ 41 ∷ u)) n refl)
      (past_each is_blank b (41 ∷ u) h) (arguments_none u)
  call_whole s c u (is.call f r t b xs n h p k) le =
      let last : Text = b ++ 41 ∷ u in
      let W : Text = r ++ (t ++ last) in
      let shape : (f ++ (40 ∷ (r ++ (t ++ (b ++ 41 ∷ []))))) ++ u ≡ f ++ (40 ∷ (r ++ (t ++ (b ++ 41 ∷ u)))) =
      simp append_assoc in
      let pos = some_name f n in
      let len : length t ≤ limit =
      omega (
        arith,
        length-append f (40 ∷ (r ++ (t ++ (b ++ 41 ∷ [])))),
        length-append r
            (t ++ (b ++ 41 ∷ [])),
        length-append t (b ++ 41 ∷ []),
      ) in
      ap (call_at inner) shape
      ∙ call_is f W (t ++ last) u xs (function_whole f (40 ∷ W) n refl)
      (skip_behind r t last h (leads_firm t (list_leads t xs p))) (arguments_whole t b u xs p k len)

  -- ---- sides

  operand_literal : (s u : Text) (x : tree.Literal) → leads s ≡ true → begins_with 36 s ≡ false
      → begins_with 64 s ≡ false → calls (s ++ u) ≡ false → literal_at (s ++ u) ≡ Some (x, u)
      → operand_at inner (s ++ u) ≡ Some (tree.literal x, u)
  unfolding operand_at
  operand_literal [] u x l a b h e = absurd cc
  operand_literal (c ∷ s) u x l a b h e = rw (a, b, h, e) refl

  operand_call : (s u : Text) (x : tree.Call) → CallIs Inner s x → calls (s ++ u) ≡ true
      → call_at inner (s ++ u) ≡ Some (x, u) → operand_at inner (s ++ u) ≡ Some (tree.value_call x, u)
  unfolding operand_at
  operand_call s u x (is.call_of_none w b (run c t h k) hb) a e =
      rw (differs is_lower 36 refl c h, differs is_lower 64 refl c h, a, e) refl
  operand_call s u x (is.call w r v b xs (run c t h k) hr p hb) a e =
      rw (differs is_lower 36 refl c h, differs is_lower 64 refl c h, a, e) refl

  operand_query : (s u : Text) (q : tree.Query) → QueryIs Inner s q → query_at inner (s ++ u) ≡ Some (q, u)
      → operand_at inner (s ++ u) ≡ Some (tree.single q, u)
  unfolding operand_at
  operand_query s u q (is.query w t start ss is.root ps) e = rw e refl
  operand_query s u q (is.query w t start ss is.current ps) e = rw e refl

  operand_whole : (s : Text) (x : tree.Comparable) (u : Text) → OperandIs Inner s x → length s ≤ suc limit
      → Meets after_side u → operand_at inner (s ++ u) ≡ Some (x, u)
  operand_whole s x u (literal_operand t y p) le m =
      operand_literal t u y (literal_leads t y p) (literal_begins 36 t y p refl)
      (literal_begins 64 t y p refl) (literal_calls_none t y u p m) (literal_whole t y u p m)
  operand_whole s x u (query_operand t q p) le m =
      operand_query t u q p (query_whole inner Inner limit inner_firm inner_whole t q u p (omega arith) m)
  operand_whole s x u (call_operand t c p) le m = operand_call t u c p (call_calls Inner t c u p)
      (call_whole t c u p le)

  -- ---- logical expressions

  grouped_at_is : (b t w u : Text) (l : tree.Logical) → skip (b ++ (t ++ w)) ≡ t ++ w
      → inner (t ++ w) ≡ Some (l, w) → skip w ≡ 41 ∷ u → grouped_at inner (b ++ (t ++ w)) ≡ Some (l, u)
  unfolding grouped_at mark_at
  grouped_at_is b t w u l e h k = rw (e, h, k) refl

  grouped_whole : (a t b u : Text) (l : tree.Logical) → IsBlank a → Inner t l → IsBlank b → length t ≤ limit
      → grouped_at inner ((a ++ (t ++ (b ++ 41 ∷ []))) ++ u) ≡ Some (l, u)
  grouped_whole a t b u l ha p hb le =
      let w : Text = b ++ 41 ∷ u in
      let shape : (a ++ (t ++ (b ++ 41 ∷ []))) ++ u ≡ a ++ (t ++ (b ++ 41 ∷ u)) = simp append_assoc in
      let end : Meets after_logical w = meets_behind after_logical b (41 ∷ u) hb refl in
      ap (grouped_at inner) shape ∙ grouped_at_is a t w u l (skip_behind a t w ha (inner_firm t l p))
      (inner_whole t l w p le end) (past_each is_blank b (41 ∷ u) hb)

  plain_group : (k : Text) → plain_at inner (40 ∷ k) ≡ grouped_at inner k
  unfolding plain_at
  plain_group k = refl

  -- a query or a call begins with no `(` and no `!`
  plain_operand : (s u : Text) (x : tree.Comparable) (l : tree.Logical) → leads s ≡ true
      → begins_with 40 s ≡ false → operand_at inner (s ++ u) ≡ Some (x, u) → as_test x ≡ Some l
      → plain_at inner (s ++ u) ≡ Some (l, u)
  unfolding plain_at tested_at
  plain_operand [] u x l h n e k = absurd cc
  plain_operand (c ∷ s) u x l h n e k = rw (n, e, k) refl

  plain_whole : (s : Text) (x : tree.Logical) (u : Text) → PlainIs Inner s x → length s ≤ suc limit
      → Meets after_side u → plain_at inner (s ++ u) ≡ Some (x, u)
  plain_whole s x u (is.grouped a t b l ha p hb) le m =
      let len : length t ≤ limit =
      omega (arith, length-append a (t ++ (b ++ 41 ∷ [])), length-append t (b ++ 41 ∷ [])) in
      plain_group ((a ++ (t ++ (b ++ 41 ∷ []))) ++ u) ∙ grouped_whole a t b u l ha p hb len
  plain_whole s x u (is.tested t q p) le m =
      let o = query_operand t q p in
      plain_operand t u (tree.single q) (tree.test q) (operand_leads Inner t (tree.single q) o)
      (operand_begins Inner 40 t (tree.single q) o refl) (operand_whole t (tree.single q) u o le m) refl
  plain_whole s x u (is.called t c p) le m =
      let o = call_operand t c p in
      plain_operand t u (tree.value_call c) (tree.test_call c) (operand_leads Inner t (tree.value_call c) o)
      (operand_begins Inner 40 t (tree.value_call c) o refl) (operand_whole t (tree.value_call c) u o le m)
      refl

  basic_operand : (s u : Text) (x : tree.Comparable) → leads s ≡ true → begins_with 33 s ≡ false
      → begins_with 40 s ≡ false → operand_at inner (s ++ u) ≡ Some (x, u) → basic_at inner (s ++ u)
      ≡ compared_at inner x u (operator_at (skip u))
  unfolding basic_at
  basic_operand [] u x h a b e = absurd cc
  basic_operand (c ∷ s) u x h a b e = rw (a, b, e) refl

  basic_side : (s : Text) (x : tree.Comparable) (u : Text) → OperandIs Inner s x → length s ≤ suc limit
      → Meets after_side u → basic_at inner (s ++ u) ≡ compared_at inner x u (operator_at (skip u))
  basic_side s x u o le m =
      basic_operand s u x (operand_leads Inner s x o) (operand_begins Inner 33 s x o refl)
      (operand_begins Inner 40 s x o refl) (operand_whole s x u o le m)

  basic_group : (k : Text) → basic_at inner (40 ∷ k) ≡ grouped_at inner k
  unfolding basic_at
  basic_group k = refl

  basic_not : (b t u : Text) (l : tree.Logical) → skip (b ++ (t ++ u)) ≡ t ++ u → plain_at inner (t ++ u)
      ≡ Some (l, u) → basic_at inner (33 ∷ (b ++ (t ++ u))) ≡ Some (tree.negation l, u)
  unfolding basic_at
  basic_not b t u l e h = rw (e, h) refl

  right_is : (left right : tree.Comparable) (o : Operator) (s v u : Text) → skip (s ++ (v ++ u)) ≡ v ++ u
      → operand_at inner (v ++ u) ≡ Some (right, u) → is_side left ≡ true → is_side right ≡ true
      → right_at inner left o (s ++ (v ++ u)) ≡ Some (tree.comparing (tree.comparison left o right), u)
  unfolding right_at
  right_is left right o s v u e h a b = rw (e, h, a, b) refl

  compared_whole : (t w : Text) (left right : tree.Comparable) (o : Operator) (u : Text)
      → ComparableIs Inner t left → After (operator_text o) (ComparableIs Inner) w right
      → length (t ++ w) ≤ suc limit → Meets after_side u
      → basic_at inner ((t ++ w) ++ u) ≡ Some (tree.comparing (tree.comparison left o right), u)
  compared_whole t w left right o u p (after r s v x hr hs q) le m =
      let X : Text = s ++ (v ++ u) in
      let W : Text = r ++ (operator_text o ++ X) in
      let shape : (t ++ (r ++ (operator_text o ++ (s ++ v)))) ++ u
      ≡ t ++ (r ++ (operator_text o ++ (s ++ (v ++ u)))) = simp append_assoc in
      let l1 : length t ≤ suc limit = omega (arith, length-append t (r ++ (operator_text o ++ (s ++ v)))) in
      let l2 : length v ≤ suc limit =
      omega (
        arith,
        length-append t (r ++ (operator_text o ++ (s ++ v))),
        length-append r
            (operator_text o ++ (s ++ v)),
        length-append (operator_text o) (s ++ v),
        length-append s v,
      ) in
      let mw : Meets after_side W = meets_behind after_side r (operator_text o ++ X) hr
      (operator_meets o X) in
      let a = operand_of Inner t left p in
      let b = operand_of Inner v right q in
      let lead = operand_leads Inner v right b in
      let at : operator_at (skip W) ≡ Some (o, X) =
      ap operator_at (past_each is_blank r (operator_text o ++ X) hr ∙ operator_skip o X)
      ∙ operator_whole o X (blank_no_equal s v u hs lead) in
      ap (basic_at inner) shape
      ∙ basic_side t left W a l1 mw
      ∙ ap (compared_at inner left W) at
      ∙ right_is left right o s v u (skip_behind s v u hs (leads_firm v lead))
      (operand_whole v right u b l2 m) (side_fits Inner t left p) (side_fits Inner v right q)

  tested_is : (x : tree.Comparable) (l : tree.Logical) (u : Text) → as_test x ≡ Some l
      → tested_at x u ≡ Some (l, u)
  unfolding tested_at
  tested_is x l u e = rw e refl

  basic_test : (t : Text) (x : tree.Comparable) (l : tree.Logical) (u : Text) → OperandIs Inner t x
      → as_test x ≡ Some l → length t ≤ suc limit → Meets after_basic u → basic_at inner (t ++ u)
      ≡ Some (l, u)
  basic_test t x l u o e le m = basic_side t x u o le (basic_in_side u m)
      ∙ ap (compared_at inner x u) (operator_end (skip u) m) ∙ tested_is x l u e

  basic_whole : (s : Text) (x : tree.Logical) (u : Text) → BasicIs Inner s x → length s ≤ suc limit
      → Meets after_basic u → basic_at inner (s ++ u) ≡ Some (x, u)
  basic_whole s x u (is.plain w l (is.grouped a t b k ha p hb)) le m =
      let len : length t ≤ limit =
      omega (arith, length-append a (t ++ (b ++ 41 ∷ [])), length-append t (b ++ 41 ∷ [])) in
      basic_group ((a ++ (t ++ (b ++ 41 ∷ []))) ++ u) ∙ grouped_whole a t b u k ha p hb len
  basic_whole s x u (is.plain w l (is.tested t q p)) le m = basic_test t (tree.single q) (tree.test q) u
      (query_operand t q p) refl le m
  basic_whole s x u (is.plain w l (is.called t c p)) le m =
      basic_test t (tree.value_call c) (tree.test_call c) u (call_operand t c p) refl le m
  basic_whole s x u (is.negated b t l h p) le m =
      ap (λ (k : Text). basic_at inner (33 ∷ k)) (append_assoc b t u)
      ∙ basic_not b t u l (skip_behind b t u h (leads_firm t (plain_leads Inner t l p)))
      (plain_whole t l u p (omega (arith, length-append b t)) (basic_in_side u m))
  basic_whole s x u (is.compared t w left right o p a) le m = compared_whole t w left right o u p a le
      (basic_in_side u m)

  -- ---- parts with a mark between
  module _ (mark : ℕ) (part : Reader tree.Logical) (Part : Text → tree.Logical
      → Type 0) (after_part after_list : ℕ → Bool)
      (part_leads : (s : Text) (x : tree.Logical) → Part s x → leads s ≡ true)
      (part_whole : (s : Text) (x : tree.Logical) (u : Text) → Part s x → length s ≤ suc limit
      → Meets after_part u → part (s ++ u) ≡ Some (x, u))
      (no_blank : is_blank mark ≡ false) (goes_on : after_part mark ≡ true) (apart : (c : ℕ)
      → after_list c ≡ true → eqb c mark ≡ false) (wider : (c : ℕ) → after_list c ≡ true
      → after_part c ≡ true) where
    abbrev part_turn : Text → Turn tree.Logical
    part_turn u = next_part mark part u (skip u)

    abbrev made_of : (List tree.Logical → tree.Logical) → List tree.Logical × Text → Outcome tree.Logical
    made_of make others = Some (make others.0, others.1)

    abbrev others_of : (List tree.Logical → tree.Logical) → tree.Logical × Text → Outcome tree.Logical
    others_of make first = all_of part_turn (first.0 ∷ []) first.1 >>= made_of make

    part_next : (w b t u : Text) (x : tree.Logical) → skip (b ++ (t ++ u)) ≡ t ++ u
        → part (t ++ u) ≡ Some (x, u) → next_part mark part w (mark ∷ mark ∷ (b ++ (t ++ u)))
        ≡ Some (Some x, u)
    unfolding next_part
    part_next w b t u x e h = rw (eq-eqb mark mark refl, mark_whole mark (b ++ (t ++ u)), e, h) refl

    part_end : (w s : Text) → starts after_list s ≡ true → next_part mark part w s ≡ Some (None, w)
    unfolding next_part
    part_end w [] h = refl
    part_end w (c ∷ s) h = rw (apart c h) refl

    part_meets : (s : Text) (x : tree.Logical) (u : Text) → After (mark ∷ mark ∷ []) Part s x
        → Meets after_part (s ++ u)
    part_meets w y u (after r s t x hr hs q) =
        subst (Meets after_part) (sym (append_assoc r (mark ∷ mark ∷ (s ++ t)) u))
        (meets_behind after_part r (mark ∷ mark ∷ ((s ++ t) ++ u)) hr
        (meets_firm after_part mark (mark ∷ ((s ++ t) ++ u)) no_blank goes_on))

    part_step : (s : Text) (x : tree.Logical) (u : Text) → After (mark ∷ mark ∷ []) Part s x
        → length s ≤ suc limit → Meets after_part u → part_turn (s ++ u) ≡ Some (Some x, u)
    part_step w y u (after r s t x hr hs p) le m =
        let shape : (r ++ (mark ∷ mark ∷ (s ++ t))) ++ u ≡ r ++ (mark ∷ mark ∷ (s ++ (t ++ u))) =
        simp append_assoc in
        let len : length t ≤ suc limit =
        omega (arith, length-append r (mark ∷ mark ∷ (s ++ t)), length-append s t) in
        let X : Text = s ++ (t ++ u) in
        let e : skip (r ++ (mark ∷ mark ∷ X)) ≡ mark ∷ mark ∷ X = past_each is_blank r (mark ∷ mark ∷ X) hr
        ∙ rw no_blank refl in
        ap part_turn shape ∙ ap (next_part mark part (r ++ (mark ∷ mark ∷ X))) e
        ∙ part_next (r ++ (mark ∷ mark ∷ X)) s t u x (skip_behind s t u hs (leads_firm t (part_leads t x p)))
        (part_whole t x u p len m)

    part_steps : Steps part_turn (After (mark ∷ mark ∷ []) Part) (Meets after_part) (suc limit)
    part_steps = record {
      some = λ s x p. after_some mark (mark ∷ []) Part s x p;
      good = λ s x u p g. part_meets s x u p;
      step = λ s x u p le g. (u, part_step s x u p le g, refl);
    }

    parts_are : (make : List tree.Logical → tree.Logical) (f w u : Text) (x : tree.Logical)
        (xs : List tree.Logical) → part (f ++ w) ≡ Some (x, w) → all_of part_turn (x ∷ []) w
        ≡ Some (x ∷ xs, u)
        → (part (f ++ w) >>= others_of make) ≡ Some (make (x ∷ xs), u)
    parts_are make f w u x xs e h = rw (e, h) refl

    parts_whole : (make : List tree.Logical → tree.Logical) (s : Text) (xs : List tree.Logical) (u : Text)
        → Separated (mark ∷ mark ∷ []) Part s xs → length s ≤ suc limit → Meets after_list u
        → (part (s ++ u) >>= others_of make) ≡ Some (make xs, u)
    parts_whole make w ys u (separated f m x xs p ps) le g =
        let lens = length-append f m in
        let end : Meets after_part u = starts_wider after_list after_part wider (skip u) g in
        let mid : Meets after_part (m ++ u) = star_good part_turn (After (mark ∷ mark ∷ []) Part)
        (Meets after_part) (suc limit) part_steps m xs u ps end in
        let rest = all_whole part_turn (After (mark ∷ mark ∷ []) Part) (Meets after_part) (suc limit)
        part_steps (x ∷ []) (m ++ u) m xs u u refl (omega (arith, length-append m u)) ps (omega arith)
        end (part_end u (skip u) g) in
        ap (λ (k : Text). part k >>= others_of make) (append_assoc f m u)
        ∙ parts_are make f (m ++ u) u x xs (part_whole f x (m ++ u) p (omega arith) mid) rest

  and_whole : (s : Text) (x : tree.Logical) (u : Text) → AndIs Inner s x → length s ≤ suc limit
      → Meets after_and u → and_at inner (s ++ u) ≡ Some (x, u)
  unfolding and_at
  and_whole s x u (is.and t xs p) le m =
      parts_whole 38 (basic_at inner) (BasicIs Inner) after_basic after_and (basic_leads Inner) basic_whole
      refl refl
      (among_all (λ c. eqb c 38 ≡ false) (124 ∷ 41 ∷ 44 ∷ 93 ∷ []) (refl, (refl, (refl, (refl, tt)))))
      (among_all (λ c. after_basic c ≡ true) (124 ∷ 41 ∷ 44 ∷ 93 ∷ []) (refl, (refl, (refl, (refl, tt)))))
      (joined tree.all) t xs u p le m

  or_whole : (s : Text) (x : tree.Logical) (u : Text) → OrIs Inner s x → length s ≤ suc limit
      → Meets after_logical u → or_at inner (s ++ u) ≡ Some (x, u)
  unfolding or_at
  or_whole s x u (is.or t xs p) le m =
      parts_whole 124 (and_at inner) (AndIs Inner) after_and after_logical (and_leads Inner) and_whole refl
      refl
      (among_all (λ c. eqb c 124 ≡ false) (41 ∷ 44 ∷ 93 ∷ []) (refl, (refl, (refl, tt))))
      (among_all (λ c. after_and c ≡ true) (41 ∷ 44 ∷ 93 ∷ []) (refl, (refl, (refl, tt))))
      (joined tree.any) t xs u p le m

logical_whole : (n k : ℕ) (s : Text) (x : tree.Logical) (u : Text) → LogicalIs k s x → length s ≤ n
    → Meets after_logical u → logical_at n (s ++ u) ≡ Some (x, u)
unfolding logical_at
logical_whole n zero s x u p le m = absurd p
logical_whole zero (suc k) s x u p le m = let pos = firm_some s (leads_firm s (or_leads (LogicalIs k) s x p))
    in absurd (omega arith)
logical_whole (suc n) (suc k) s x u p le m = or_whole (logical_at n) (LogicalIs k) n (logical_leads k)
    (logical_alone k) (λ s x u p le m. logical_whole n k s x u p le m) s x u p le m

read_is : (n : ℕ) (t : Text) (ss : List tree.Segment) → segments_at (logical_at n) t ≡ Some (ss, [])
    → read n (36 ∷ t) ≡ Some (tree.query_from Root ss)
unfolding read
read_is n t ss e = rw e refl

pub read_whole : (n : ℕ) (t : Text) (q : tree.Query) → length t ≤ n → Spells t q → read n t ≡ Some q
read_whole n w q le (is.spells k t ss ps) =
    let firm_inside : (s : Text) (x : tree.Logical) → LogicalIs k s x → firm s ≡ true =
    λ s x p. leads_firm s (logical_leads k s x p) in
    let e = segments_whole (logical_at n) (LogicalIs k) n firm_inside (λ s x u p le m. logical_whole n k s x u
    p le m) t ss [] ps (omega arith) refl in
    read_is n t ss (ap (segments_at (logical_at n)) (sym (append-nil t)) ∙ e)
