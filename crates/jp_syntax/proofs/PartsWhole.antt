-- What is spelled so is read: slices, operators, lists and segments.
use Rattle.std.proofs.Common.{◌≡◌, ℕ, suc, ◌≤◌, Bool, true, false, not, ◌||◌, ◌==◌, eqb, List, [], ◌∷◌, ◌++◌}
use Rattle.std.proofs.Common.{length, Option, Some, None, refl, sym, ap, subst, ◌∙◌, append_assoc}
use Rattle.std.proofs.Common.{length-append, arith}
use Rattle.std.proofs.lemmas.Bool.{eq-eqb}
use Rattle.jp_tree.specs.declared.tree.Operator.{Operator}
use Rattle.jp_tree.specs.declared.tree.Operator.TheVariants as op
use Rattle.jp_tree.specs.Tree.{Text}
use Rattle.jp_tree.specs.Tree as tree
use Rattle.jp_tree.specs.Characters.{is_blank, is_digit, is_positive_digit, is_first, is_name_character}
use Rattle.jp_tree.specs.Characters.{is_quote}
use Rattle.jp_tree.specs.Parts.{run, IsBlank, Star, Behind, behind, After, after, Separated, separated}
use Rattle.jp_tree.specs.Strings.{quoted}
use Rattle.jp_tree.specs.Numbers.{IsInt, zero_int, positive_int, negative_int}
use Rattle.jp_tree.specs.Spelling as is
use Rattle.jp_tree.specs.Spelling.{begins_with, operator_text, IsShorthand, BoundIs, StepIs}
use Rattle.jp_tree.specs.Spelling.{SelectorIs, BracketedIs, SegmentIs, QueryIs}
use Rattle.jp_tokens.specs.Reading.{Reader, Outcome, Turn, skip, all_of, int_at, string_at, mark_at}
use Rattle.jp_tokens.specs.Reading.{begins_int, bound_at, step_at, slice_at, index_or_slice, numbers_at}
use Rattle.jp_tokens.specs.Reading.{or_equal, operator_at, named_at}
use Rattle.jp_syntax.specs.inner.Reading.{next_item, items_at, selector_at, bracketed_at, descendant_at}
use Rattle.jp_syntax.specs.inner.Reading.{dotted_at}
use Rattle.jp_syntax.specs.inner.Reading.{segment_behind, segments_at, query_at}
use Rattle.jp_syntax.proofs.NotEmpty.{after_some, segment_some}
use Rattle.jp_syntax.proofs.Endings.{positive_is_digit}
use Rattle.jp_tokens.proofs.Fronts.{past_each, starts, Steps, all_whole, star_good}
use Rattle.jp_tokens.proofs.Following.{differs, firm, firm_append, skip_behind, Meets, Leaves, meets_behind}
use Rattle.jp_tokens.proofs.Following.{meets_firm, among_all, after_side}
use Rattle.jp_syntax.proofs.Following.{after_selector, after_logical, after_basic, begins_segment}
use Rattle.jp_syntax.proofs.Following.{after_bound, side_before_name, side_before_segment}
use Rattle.jp_syntax.proofs.Following.{segment_before_name, bound_before_digit, selector_in_logical}
use Rattle.jp_syntax.proofs.Following.{selector_in_bound}
use Rattle.jp_tokens.proofs.LeavesRead.{name_whole, int_whole, string_whole, int_firm, quote_firm}

-- ---- operators

pub operator_end : (s : Text) → starts after_basic s ≡ true → operator_at s ≡ None
unfolding operator_at
operator_end [] h = refl
operator_end (c ∷ s) h =
    let n = among_all (λ c. (eqb c 61 ≡ false) × (eqb c 33 ≡ false) × (eqb c 60 ≡ false) × (eqb c 62 ≡ false))
    (38 ∷ 124 ∷ 41 ∷ 44 ∷ 93 ∷ []) (
      (refl, refl, refl, refl),
      (
        (refl, refl, refl, refl),
        ((refl, refl, refl, refl), ((refl, refl, refl, refl), ((refl, refl, refl, refl), tt))),
      ),
    ) c h in
    rw (n.0, n.1, n.2, n.3) refl

without_equal : (with without : Operator) (u : Text) → begins_with 61 u ≡ false → or_equal with without u
    ≡ (without, u)
without_equal with without [] h = refl
without_equal with without (c ∷ u) h = rw h refl

pub operator_whole : (o : Operator) (u : Text) → begins_with 61 u ≡ false → operator_at (operator_text o ++ u)
    ≡ Some (o, u)
unfolding operator_at mark_at
operator_whole op.Eq u h = refl
operator_whole op.Ne u h = refl
operator_whole op.Le u h = refl
operator_whole op.Ge u h = refl
operator_whole op.Lt u h = ap (λ (p : Operator × Text). Some p) (without_equal op.Le op.Lt u h)
operator_whole op.Gt u h = ap (λ (p : Operator × Text). Some p) (without_equal op.Ge op.Gt u h)

pub operator_skip : (o : Operator) (u : Text) → skip (operator_text o ++ u) ≡ operator_text o ++ u
operator_skip op.Eq u = refl
operator_skip op.Ne u = refl
operator_skip op.Le u = refl
operator_skip op.Ge u = refl
operator_skip op.Lt u = refl
operator_skip op.Gt u = refl

pub operator_meets : (o : Operator) (u : Text) → Meets after_side (operator_text o ++ u)
operator_meets op.Eq u = refl
operator_meets op.Ne u = refl
operator_meets op.Le u = refl
operator_meets op.Ge u = refl
operator_meets op.Lt u = refl
operator_meets op.Gt u = refl

-- ---- slices

no_int : (w : Text) → starts after_bound w ≡ true → begins_int w ≡ false
no_int [] h = refl
no_int (c ∷ w) h = among_all (λ c. (c == 45 || is_digit c) ≡ false) (58 ∷ 44 ∷ 93 ∷ [])
    (refl, (refl, (refl, tt))) c h

no_colon : (w : Text) → starts after_selector w ≡ true → begins_with 58 w ≡ false
no_colon [] h = refl
no_colon (c ∷ w) h = among_all (λ c. (c == 58) ≡ false) (44 ∷ 93 ∷ []) (refl, (refl, tt)) c h

or_second : (x y : Bool) → y ≡ true → (x || y) ≡ true
or_second true y h = refl
or_second false y h = h

positive_digit : (c : ℕ) → is_positive_digit c ≡ true → is_digit c ≡ true
positive_digit c h = positive_is_digit c h

int_begins : (s u : Text) → IsInt s → begins_int (s ++ u) ≡ true
int_begins s u zero_int = refl
int_begins s u (positive_int c t d h) = or_second (c == 45) (is_digit c) (positive_digit c d)
int_begins s u (negative_int c t d h) = refl

int_no_colon : (s u : Text) → IsInt s → begins_with 58 (s ++ u) ≡ false
int_no_colon s u zero_int = refl
int_no_colon s u (positive_int c t d h) = differs is_positive_digit 58 refl c d
int_no_colon s u (negative_int c t d h) = refl

no_bound_at : (t : Text) → begins_int (skip t) ≡ false → bound_at t ≡ Some (None, t)
unfolding bound_at
no_bound_at t h = rw h refl

int_bound_at : (t n u : Text) → skip t ≡ n ++ u → begins_int (n ++ u) ≡ true → int_at (n ++ u) ≡ Some (n, u)
    → bound_at t ≡ Some (Some n, u)
unfolding bound_at
int_bound_at t n u e h k = rw (e, h, k) refl

bound_int : (s n u : Text) → IsBlank s → IsInt n → Leaves is_digit u → bound_at (s ++ (n ++ u))
    ≡ Some (Some n, u)
bound_int s n u hs i l = int_bound_at (s ++ (n ++ u)) n u (skip_behind s n u hs (int_firm n i))
    (int_begins n u i) (int_whole n u i l)

-- blanks at the end of a part may be left to what follows
pub record Rest {A : Type 0} (o : Outcome A) (x : A) (u : Text) : Type 0 where
  pub blanks : Text
  pub are : IsBlank blanks
  pub read : o ≡ Some (x, blanks ++ u)

bound_whole : (s t : Text) (x : Option Text) (u : Text) → IsBlank s → BoundIs t x → Meets after_bound u
    → Rest (bound_at (s ++ (t ++ u))) x u
bound_whole s t x u hs is.no_bound m = record {
  blanks = s;
  are = hs;
  read = no_bound_at (s ++ u) (ap begins_int (past_each is_blank s u hs) ∙ no_int (skip u) m);
}
bound_whole s t x u hs (is.bound n b i hb) m = record {
  blanks = b;
  are = hb;
  read = ap (λ (w : Text). bound_at (s ++ w)) (append_assoc n b u)
      ∙ bound_int s n (b ++ u) hs i (bound_before_digit (b ++ u) (meets_behind after_bound b u hb m));
}

no_step_at : (t : Text) → begins_with 58 (skip t) ≡ false → step_at t ≡ Some (None, t)
unfolding step_at
no_step_at t h = rw h refl

step_bound_at : (t u : Text) → skip t ≡ 58 ∷ u → step_at t ≡ bound_at u
unfolding step_at mark_at
step_bound_at t u e = rw e refl

step_whole : (b w : Text) (x : Option Text) (u : Text) → IsBlank b → StepIs w x → Meets after_selector u
    → Rest (step_at (b ++ (w ++ u))) x u
step_whole b w x u hb is.no_step m = record {
  blanks = b;
  are = hb;
  read = no_step_at (b ++ u) (ap (begins_with 58) (past_each is_blank b u hb) ∙ no_colon (skip u) m);
}
step_whole b w x u hb is.empty_step m = record {
  blanks = [];
  are = tt;
  read = step_bound_at (b ++ 58 ∷ u) u (past_each is_blank b (58 ∷ u) hb)
      ∙ no_bound_at u (no_int (skip u) (selector_in_bound u m));
}
step_whole b w x u hb (is.step s n hs i) m = record {
  blanks = [];
  are = tt;
  read =
      step_bound_at (b ++ 58 ∷ ((s ++ n) ++ u)) ((s ++ n) ++ u) (past_each is_blank b (58 ∷ ((s ++ n) ++ u))
      hb)
      ∙ ap bound_at (append_assoc s n u)
      ∙ bound_int s n u hs i (bound_before_digit u (selector_in_bound u m));
}

step_meets : (w : Text) (x : Option Text) (u : Text) → StepIs w x → Meets after_selector u
    → Meets after_bound (w ++ u)
step_meets w x u is.no_step m = selector_in_bound u m
step_meets w x u is.empty_step m = refl
step_meets w x u (is.step s n hs i) m = refl

slice_at_is : (first past last : Option Text) (t u v : Text) → bound_at t ≡ Some (past, u)
    → step_at u ≡ Some (last, v) → slice_at first (58 ∷ t) ≡ Some (tree.slice first past last, v)
unfolding slice_at mark_at
slice_at_is first past last t u v e h = rw (e, h) refl

slice_whole : (first : Option Text) (s t w : Text) (past last : Option Text) (u : Text) → IsBlank s
    → BoundIs t past → StepIs w last → Meets after_selector u
    → Rest (slice_at first (58 ∷ (s ++ (t ++ (w ++ u))))) (tree.slice first past last) u
slice_whole first s t w past last u hs h k m =
    let a = bound_whole s t past (w ++ u) hs h (step_meets w last u k m) in
    let b = step_whole a.blanks w last u a.are k m in
    record {
      blanks = b.blanks;
      are = b.are;
      read = slice_at_is first past last (s ++ (t ++ (w ++ u)))
          (a.blanks ++ (w ++ u)) (b.blanks ++ u) a.read b.read;
    }

numbers_colon : (t : Text) → numbers_at (58 ∷ t) ≡ slice_at None (58 ∷ t)
unfolding numbers_at
numbers_colon t = refl

numbers_int : (n u : Text) → begins_with 58 (n ++ u) ≡ false → int_at (n ++ u) ≡ Some (n, u)
    → numbers_at (n ++ u) ≡ index_or_slice n u
unfolding numbers_at
numbers_int n u h e = rw (h, e) refl

index_alone : (n u : Text) → begins_with 58 (skip u) ≡ false → index_or_slice n u ≡ Some (tree.index n, u)
unfolding index_or_slice
index_alone n u h = rw h refl

slice_behind : (n t u : Text) → skip t ≡ 58 ∷ u → index_or_slice n t ≡ slice_at (Some n) (58 ∷ u)
unfolding index_or_slice
slice_behind n t u e = rw e refl

-- ---- lists with commas between

module _ {A : Type 0} (close : ℕ) (item : Reader A) (Item : Text → A → Type 0) (after_item : ℕ
    → Bool) (limit : ℕ)
    (item_firm : (s : Text) (x : A) → Item s x → firm s ≡ true)
    (item_whole : (s : Text) (x : A) (u : Text) → Item s x → length s ≤ limit → Meets after_item u
    → Rest (item (s ++ u)) x u)
    (comma : after_item 44 ≡ true) (ends : after_item close ≡ true) (close_firm : is_blank close ≡ false)
    (close_apart : eqb close 44 ≡ false) where
  abbrev item_turn : Text → Turn A
  item_turn u = next_item close item (skip u)

  item_next : (r b t u v : Text) (x : A) → IsBlank r → skip (b ++ (t ++ u)) ≡ t ++ u
      → item (t ++ u) ≡ Some (x, v) → item_turn (r ++ (44 ∷ (b ++ (t ++ u)))) ≡ Some (Some x, v)
  unfolding next_item
  item_next r b t u v x h e k = rw (past_each is_blank r (44 ∷ (b ++ (t ++ u))) h, e, k) refl

  item_end : (r u : Text) → IsBlank r → item_turn (r ++ close ∷ u) ≡ Some (None, u)
  unfolding next_item
  item_end r u h = rw (past_each is_blank r (close ∷ u) h, close_firm, close_apart, eq-eqb close close refl)
      refl

  after_meets : (s : Text) (x : A) (u : Text) → After (44 ∷ []) Item s x → Meets after_item (s ++ u)
  after_meets w y u (after r s t x hr hs q) =
      subst (Meets after_item) (sym (append_assoc r (44 ∷ (s ++ t)) u))
      (meets_behind after_item r (44 ∷ ((s ++ t) ++ u)) hr (meets_firm after_item 44 ((s ++ t) ++ u) refl
      comma))

  same_turn : (b u : Text) → IsBlank b → item_turn (b ++ u) ≡ item_turn u
  same_turn b u h = ap (next_item close item) (past_each is_blank b u h)

  item_step : (s : Text) (x : A) (u : Text) → After (44 ∷ []) Item s x → length s ≤ limit → Meets after_item u
      → (v : Text) × (item_turn (s ++ u) ≡ Some (Some x, v)) × (item_turn v ≡ item_turn u)
  item_step w y u (after r s t x hr hs p) le m =
      let shape : (r ++ 44 ∷ (s ++ t)) ++ u ≡ r ++ 44 ∷ (s ++ (t ++ u)) = simp append_assoc in
      let len : length t ≤ limit = omega (arith, length-append r (44 ∷ (s ++ t)), length-append s t) in
      let i = item_whole t x u p len m in (
        i.blanks ++ u,
        ap item_turn shape
            ∙ item_next r s t u (i.blanks ++ u) x hr (skip_behind s t u hs (item_firm t x p)) i.read,
        same_turn
            i.blanks u i.are,
      )

  item_steps : Steps item_turn (After (44 ∷ []) Item) (Meets after_item) limit
  item_steps = record {
    some = λ s x p. after_some 44 [] Item s x p;
    good = λ s x u p g. after_meets s x u p;
    step = λ s x u p le g. item_step s x u p le g;
  }

  items_at_is : (t v u : Text) (x : A) (xs : List A) → item t ≡ Some (x, v) → all_of item_turn (x ∷ []) v
      ≡ Some (x ∷ xs, u) → items_at close item t ≡ Some (x ∷ xs, u)
  unfolding items_at
  items_at_is t v u x xs e h = rw (e, h) refl

  pub items_whole : (s t u : Text) (xs : List A) → Separated (44 ∷ []) Item s xs → IsBlank t
      → length s ≤ limit → items_at close item (s ++ (t ++ close ∷ u)) ≡ Some (xs, u)
  items_whole w t u ys (separated f m x xs p ps) ht le =
      let last : Text = t ++ close ∷ u in
      let lens = length-append f m in
      let end : Meets after_item last = meets_behind after_item t (close ∷ u) ht
      (meets_firm after_item close u close_firm ends) in
      let mid : Meets after_item (m ++ last) = star_good item_turn (After (44 ∷ []) Item) (Meets after_item)
      limit item_steps m xs last ps end in
      let i = item_whole f x (m ++ last) p (omega arith) mid in
      let v : Text = i.blanks ++ (m ++ last) in
      let rest = all_whole item_turn (After (44 ∷ []) Item) (Meets after_item) limit item_steps (x ∷ []) v m
      xs last u (same_turn i.blanks (m ++ last) i.are)
      (omega (arith, length-append i.blanks (m ++ last), length-append m last)) ps (omega arith) end
      (item_end t u ht) in
      ap (items_at close item) (append_assoc f m last) ∙ items_at_is (f ++ (m ++ last)) v u x xs i.read rest

  pub separated_firm : (s : Text) (xs : List A) → Separated (44 ∷ []) Item s xs → firm s ≡ true
  separated_firm w ys (separated s t x xs p ps) = firm_append s t (item_firm s x p)

-- ---- selectors, segments and queries

module _ (inner : Reader tree.Logical) (Inner : Text → tree.Logical → Type 0) (limit : ℕ)
    (inner_firm : (s : Text) (x : tree.Logical) → Inner s x → firm s ≡ true)
    (inner_whole : (s : Text) (x : tree.Logical) (u : Text) → Inner s x → length s ≤ limit
    → Meets after_logical u → inner (s ++ u) ≡ Some (x, u)) where
  selector_firm : (s : Text) (x : tree.Selector) → SelectorIs Inner s x → firm s ≡ true
  selector_firm s x (is.name t v (quoted quote w value q ps)) = ap not (quote_firm quote q)
  selector_firm s x is.wildcard = refl
  selector_firm s x (is.index t i) = int_firm t i
  selector_firm s x (is.slice r t u v first past last is.no_bound hs h k) = refl
  selector_firm s x (is.slice w t u v first past last (is.bound n b i hb) hs h k) =
      firm_append (n ++ b) (58 ∷ (t ++ (u ++ v))) (firm_append n b (int_firm n i))
  selector_firm s x (is.filter b t l h p) = refl

  selector_int : (t u : Text) → IsInt t → selector_at inner (t ++ u) ≡ numbers_at (t ++ u)
  unfolding selector_at
  selector_int t u zero_int = refl
  selector_int t u (positive_int c w d h) =
      rw (
        differs is_positive_digit 34 refl c d,
        differs is_positive_digit 39 refl c d,
        differs
            is_positive_digit 42 refl c d,
        differs is_positive_digit 63 refl c d,
      ) refl
  selector_int t u (negative_int c w d h) = refl

  selector_colon : (t : Text) → selector_at inner (58 ∷ t) ≡ numbers_at (58 ∷ t)
  unfolding selector_at
  selector_colon t = refl

  string_selector : (quote : ℕ) (w value u : Text) → is_quote quote ≡ true → string_at quote (w ++ quote ∷ u)
      ≡ Some (value, u) → selector_at inner (quote ∷ (w ++ quote ∷ u)) ≡ Some (tree.name value, u)
  unfolding selector_at
  string_selector quote w value u q e = rw (q, e) refl

  filter_selector : (b t u : Text) (l : tree.Logical) → skip (b ++ (t ++ u)) ≡ t ++ u
      → inner (t ++ u) ≡ Some (l, u) → selector_at inner (63 ∷ (b ++ (t ++ u))) ≡ Some (tree.filter l, u)
  unfolding selector_at
  filter_selector b t u l e h = rw (e, h) refl

  wildcard_selector : (u : Text) → selector_at inner (42 ∷ u) ≡ Some (tree.wildcard, u)
  unfolding selector_at
  wildcard_selector u = refl

  int_numbers : (n u : Text) → IsInt n → Leaves is_digit u → selector_at inner (n ++ u) ≡ index_or_slice n u
  int_numbers n u i l = selector_int n u i ∙ numbers_int n u (int_no_colon n u i) (int_whole n u i l)

  slice_shape : (r s t w u : Text) → (r ++ (58 ∷ (s ++ (t ++ w)))) ++ u ≡ r ++ (58 ∷ (s ++ (t ++ (w ++ u))))
  slice_shape r s t w u = simp append_assoc

  exactly : {A : Type 0} (o : Outcome A) (x : A) (u : Text) → o ≡ Some (x, u) → Rest o x u
  exactly o x u e = record { blanks = []; are = tt; read = e }

  selector_whole : (s : Text) (x : tree.Selector) (u : Text) → SelectorIs Inner s x → length s ≤ suc limit
      → Meets after_selector u → Rest (selector_at inner (s ++ u)) x u
  selector_whole s x u (is.name t v (quoted quote w value q ps)) le m =
      exactly _ x u (ap (λ (k : Text). selector_at inner (quote ∷ k)) (append_assoc w (quote ∷ []) u)
      ∙ string_selector quote w value u q (string_whole quote w value u q ps))
  selector_whole s x u is.wildcard le m = exactly _ x u (wildcard_selector u)
  selector_whole s x u (is.index t i) le m =
      exactly _ x u (int_numbers t u i (bound_before_digit u (selector_in_bound u m))
      ∙ index_alone t u (no_colon (skip u) m))
  selector_whole s x u (is.slice r t v w first past last is.no_bound hs h k) le m =
      let e = slice_whole None t v w past last u hs h k m in
      record {
        blanks = e.blanks;
        are = e.are;
        read = ap (selector_at inner) (slice_shape [] t v w u) ∙ selector_colon (t ++ (v ++ (w ++ u)))
            ∙ numbers_colon (t ++ (v ++ (w ++ u))) ∙ e.read;
      }
  selector_whole s x u (is.slice r t v w first past last (is.bound n b i hb) hs h k) le m =
      let e = slice_whole (Some n) t v w past last u hs h k m in
      let W : Text = t ++ (v ++ (w ++ u)) in
      record {
        blanks = e.blanks;
        are = e.are;
        read =
            ap (selector_at inner) (slice_shape (n ++ b) t v w u ∙ append_assoc n b (58 ∷ W))
            ∙ int_numbers n (b ++ 58 ∷ W) i
            (bound_before_digit (b ++ 58 ∷ W) (meets_behind after_bound b (58 ∷ W) hb refl))
            ∙ slice_behind n (b ++ 58 ∷ W) W (past_each is_blank b (58 ∷ W) hb) ∙ e.read;
      }
  selector_whole s x u (is.filter b t l h p) le m =
      exactly _ x u (ap (λ (k : Text). selector_at inner (63 ∷ k)) (append_assoc b t u)
      ∙ filter_selector b t u l (skip_behind b t u h (inner_firm t l p))
      (inner_whole t l u p (omega (arith, length-append b t)) (selector_in_logical u m)))

  bracketed_whole : (r s t u : Text) (xs : List tree.Selector) → IsBlank r
      → Separated (44 ∷ []) (SelectorIs Inner) s xs → IsBlank t → length s ≤ suc limit
      → bracketed_at inner (r ++ (s ++ (t ++ 93 ∷ u))) ≡ Some (xs, u)
  bracketed_whole r s t u xs hr p ht le =
      let first = separated_firm 93 (selector_at inner) (SelectorIs Inner) after_selector (suc limit)
      selector_firm selector_whole refl refl refl refl s xs p in
      ap (items_at 93 (selector_at inner)) (skip_behind r s (t ++ 93 ∷ u) hr first)
      ∙ items_whole 93 (selector_at inner) (SelectorIs Inner) after_selector (suc limit) selector_firm
      selector_whole refl refl refl refl s t u xs p ht le

  bracket_whole : (s u : Text) (xs : List tree.Selector) (R : Type 0) → BracketedIs Inner s xs
      → length s ≤ suc (suc limit) → ((t : Text) → s ++ u ≡ 91 ∷ t → bracketed_at inner t ≡ Some (xs, u) → R)
      → R
  bracket_whole w u xs R (is.bracketed r s t ys hr p ht) le f =
      let shape : (91 ∷ (r ++ (s ++ (t ++ 93 ∷ [])))) ++ u ≡ 91 ∷ (r ++ (s ++ (t ++ 93 ∷ u))) =
      simp append_assoc in
      let len : length s ≤ suc limit =
      omega (arith, length-append r (s ++ (t ++ 93 ∷ [])), length-append s (t ++ 93 ∷ [])) in
      f (r ++ (s ++ (t ++ 93 ∷ u))) shape (bracketed_whole r s t u xs hr p ht len)

  -- ---- segments and queries

  abbrev segment_turn : Text → Turn tree.Segment
  segment_turn u = segment_behind inner u (skip u)

  segment_firm : (s : Text) (x : tree.Segment) → SegmentIs Inner s x → firm s ≡ true
  segment_firm s x (is.child_bracketed t xs (is.bracketed a b d ys ha p hb)) = refl
  segment_firm s x is.child_wildcard = refl
  segment_firm s x (is.child_name t h) = refl
  segment_firm s x (is.descendant_bracketed t xs h) = refl
  segment_firm s x is.descendant_wildcard = refl
  segment_firm s x (is.descendant_name t h) = refl

  named_whole : (make : List tree.Selector → tree.Segment) (t u : Text) → IsShorthand t
      → Leaves is_name_character u → named_at make (t ++ u) ≡ Some (make (tree.name t ∷ []), u)
  unfolding named_at
  named_whole make w u (run c t f h) stop =
      rw (differs is_first 42 refl c f, name_whole (c ∷ t) u (run c t f h) stop) refl

  named_wildcard : (make : List tree.Selector → tree.Segment) (u : Text)
      → named_at make (42 ∷ u) ≡ Some (make (tree.wildcard ∷ []), u)
  unfolding named_at
  named_wildcard make u = refl

  bracket_at : (whole t u : Text) (xs : List tree.Selector) → bracketed_at inner t ≡ Some (xs, u)
      → segment_behind inner whole (91 ∷ t) ≡ Some (Some (tree.child xs), u)
  unfolding segment_behind
  bracket_at whole t u xs e = rw e refl

  point_at : (whole t u : Text) (x : tree.Segment) → dotted_at inner t ≡ Some (x, u)
      → segment_behind inner whole (46 ∷ t) ≡ Some (Some x, u)
  unfolding segment_behind
  point_at whole t u x e = rw e refl

  child_whole : (t u : Text) → IsShorthand t → Leaves is_name_character u → dotted_at inner (t ++ u)
      ≡ Some (tree.child (tree.name t ∷ []), u)
  unfolding dotted_at
  child_whole w u (run c t f h) stop =
      rw (differs is_first 46 refl c f) (named_whole tree.child (c ∷ t) u (run c t f h) stop)

  child_star : (u : Text) → dotted_at inner (42 ∷ u) ≡ Some (tree.child (tree.wildcard ∷ []), u)
  unfolding dotted_at
  child_star u = named_wildcard tree.child u

  two_points : (t : Text) → dotted_at inner (46 ∷ t) ≡ descendant_at inner t
  unfolding dotted_at
  two_points t = refl

  descendant_whole : (t u : Text) → IsShorthand t → Leaves is_name_character u → descendant_at inner (t ++ u)
      ≡ Some (tree.descendant (tree.name t ∷ []), u)
  unfolding descendant_at
  descendant_whole w u (run c t f h) stop =
      rw (differs is_first 91 refl c f) (named_whole tree.descendant (c ∷ t) u (run c t f h) stop)

  descendant_star : (u : Text) → descendant_at inner (42 ∷ u) ≡ Some (tree.descendant (tree.wildcard ∷ []), u)
  unfolding descendant_at
  descendant_star u = named_wildcard tree.descendant u

  descendant_bracket : (t u : Text) (xs : List tree.Selector) → bracketed_at inner t ≡ Some (xs, u)
      → descendant_at inner (91 ∷ t) ≡ Some (tree.descendant xs, u)
  unfolding descendant_at
  descendant_bracket t u xs e = rw e refl

  segment_whole : (whole s : Text) (x : tree.Segment) (u : Text) → SegmentIs Inner s x
      → length s ≤ suc (suc limit) → Leaves is_name_character u → segment_behind inner whole (s ++ u)
      ≡ Some (Some x, u)
  segment_whole whole s x u (is.child_bracketed t xs p) le g =
      bracket_whole t u xs _ p le (λ w shape e. ap (segment_behind inner whole) shape
      ∙ bracket_at whole w u xs e)
  segment_whole whole s x u is.child_wildcard le g = point_at whole (42 ∷ u) u x (child_star u)
  segment_whole whole s x u (is.child_name t h) le g = point_at whole (t ++ u) u x (child_whole t u h g)
  segment_whole whole s x u (is.descendant_bracketed t xs p) le g =
      bracket_whole t u xs _ p (omega arith)
      (λ w shape e. ap (λ (k : Text). segment_behind inner whole (46 ∷ 46 ∷ k)) shape
      ∙ point_at whole (46 ∷ 91 ∷ w) u x (two_points (91 ∷ w) ∙ descendant_bracket w u xs e))
  segment_whole whole s x u is.descendant_wildcard le g =
      point_at whole (46 ∷ 42 ∷ u) u x (two_points (42 ∷ u) ∙ descendant_star u)
  segment_whole whole s x u (is.descendant_name t h) le g = point_at whole (46 ∷ (t ++ u)) u x
      (two_points (t ++ u) ∙ descendant_whole t u h g)

  neither : (x y : Bool) → not (x || (y || false)) ≡ true → (x ≡ false) × (y ≡ false)
  neither true y h = absurd cc
  neither false true h = absurd cc
  neither false false h = (refl, refl)

  segment_end : (whole s : Text) → Leaves begins_segment s → segment_behind inner whole s ≡ Some (None, whole)
  unfolding segment_behind
  segment_end whole [] h = refl
  segment_end whole (c ∷ s) h = let n = neither (eqb c 46) (eqb c 91) h in rw (n.0, n.1) refl

  segment_meets : (s : Text) (x : tree.Segment) (u : Text) → SegmentIs Inner s x
      → Meets begins_segment (s ++ u)
  segment_meets s x u (is.child_bracketed t xs (is.bracketed a b d ys ha p hb)) = refl
  segment_meets s x u is.child_wildcard = refl
  segment_meets s x u (is.child_name t h) = refl
  segment_meets s x u (is.descendant_bracketed t xs h) = refl
  segment_meets s x u is.descendant_wildcard = refl
  segment_meets s x u (is.descendant_name t h) = refl

  segment_good : (s : Text) (x : tree.Segment) (u : Text) → Behind (SegmentIs Inner) s x
      → Leaves is_name_character (s ++ u)
  segment_good w y u (behind b s x h p) =
      segment_before_name ((b ++ s) ++ u) (subst (Meets begins_segment) (sym (append_assoc b s u))
      (meets_behind begins_segment b (s ++ u) h (segment_meets s x u p)))

  segment_step : (s : Text) (x : tree.Segment) (u : Text) → Behind (SegmentIs Inner) s x
      → length s ≤ suc (suc limit) → Leaves is_name_character u → segment_turn (s ++ u) ≡ Some (Some x, u)
  segment_step w y u (behind b s x h p) le g =
      let e : skip ((b ++ s) ++ u) ≡ s ++ u = ap skip (append_assoc b s u)
      ∙ skip_behind b s u h (segment_firm s x p) in
      ap (segment_behind inner ((b ++ s) ++ u)) e
      ∙ segment_whole ((b ++ s) ++ u) s x u p (omega (arith, length-append b s)) g

  segment_steps : Steps segment_turn (Behind (SegmentIs Inner)) (Leaves is_name_character) (suc (suc limit))
  segment_steps = record {
    some = λ s x p. segment_some Inner s x p;
    good = λ s x u p g. segment_good s x u p;
    step = λ s x u p le g. (u, segment_step s x u p le g, refl);
  }

  pub segments_whole : (s : Text) (xs : List tree.Segment) (u : Text) → Star (Behind (SegmentIs Inner)) s xs
      → length s ≤ suc (suc limit) → Meets after_side u → segments_at inner (s ++ u) ≡ Some (xs, u)
  segments_whole s xs u ps le m = all_whole segment_turn (Behind (SegmentIs Inner)) (Leaves is_name_character)
      (suc (suc limit)) segment_steps [] (s ++ u) s xs u u refl (omega (arith, length-append s u)) ps le
      (side_before_name u m) (segment_end u (skip u) (side_before_segment u m))

  pub query_whole : (s : Text) (q : tree.Query) (u : Text) → QueryIs Inner s q → length s ≤ suc (suc limit)
      → Meets after_side u → query_at inner (s ++ u) ≡ Some (q, u)
  unfolding query_at
  query_whole s q u (is.query w t start ss is.root ps) le m = rw (segments_whole t ss u ps (omega arith) m)
      refl
  query_whole s q u (is.query w t start ss is.current ps) le m = rw (segments_whole t ss u ps (omega arith) m)
      refl
