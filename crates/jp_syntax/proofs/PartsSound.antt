-- What is read is spelled so: slices, operators, lists and segments.
use Rattle.std.proofs.Common.{◌≡◌, ℕ, Bool, true, false, cond, eqb, List, [], ◌∷◌, ◌++◌, Option, Some, None}
use Rattle.std.proofs.Common.{refl, sym, ap, subst, ◌∙◌, append_assoc, inl, inr}
use Rattle.std.proofs.lemmas.Bool.{eqb-true}
use Rattle.std.proofs.lemmas.Option.{cond_some, same_Some, option_and_then_some}
use Rattle.jp_tree.specs.declared.tree.Start.{Start}
use Rattle.jp_tree.specs.declared.tree.Start.TheVariants.{Root, Current}
use Rattle.jp_tree.specs.declared.tree.Operator.{Operator}
use Rattle.jp_tree.specs.declared.tree.Operator.TheVariants as op
use Rattle.jp_tree.specs.Tree.{Text}
use Rattle.jp_tree.specs.Tree as tree
use Rattle.jp_tree.specs.Characters.{is_blank, is_quote}
use Rattle.jp_tree.specs.Parts.{Each, IsBlank, Star, Behind, behind, After, after, Separated, separated}
use Rattle.jp_tree.specs.Numbers.{IsInt}
use Rattle.jp_tree.specs.Spelling as is
use Rattle.jp_tree.specs.Spelling.{begins_with, operator_text, IsShorthand, BoundIs, StepIs, SelectorIs}
use Rattle.jp_tree.specs.Spelling.{BracketedIs, SegmentIs, QueryIs}
use Rattle.jp_tokens.specs.Reading.{Reader, Outcome, Turn, ◌>>=◌, taken, past, skip, all_of, name_at, int_at}
use Rattle.jp_tokens.specs.Reading.{string_at, mark_at, begins_int, bound_at, step_at, slice_at}
use Rattle.jp_tokens.specs.Reading.{index_or_slice, numbers_at, or_equal, operator_at, named_at}
use Rattle.jp_syntax.specs.inner.Reading.{next_item, items_at, selector_at, bracketed_at, descendant_at}
use Rattle.jp_syntax.specs.inner.Reading.{dotted_at}
use Rattle.jp_syntax.specs.inner.Reading.{segment_behind, segments_at, query_at}
use Rattle.jp_tokens.proofs.Fronts.{given, bind_some, chosen, Front, run_whole, run_each, IsTurn, all_sound}
use Rattle.jp_tokens.proofs.LeavesRead.{Itself, carried, name_sound, int_sound, string_sound, mark_sound}

pub front_behind : {A : Type 0} (Part : Text → A → Type 0) (t : Text) (x : A) (rest : Text)
    → Front Part (skip t) x rest → Front (Behind Part) t x rest
front_behind Part t x rest f = record {
  front = taken is_blank t ++ f.front;
  part = behind (taken is_blank t) f.front x (run_each is_blank t) f.part;
  whole = run_whole is_blank t ∙ ap (λ (u : Text). taken is_blank t ++ u) f.whole
      ∙ sym (append_assoc (taken is_blank t) f.front rest);
}

pub led_whole : (b t f rest : Text) (c m : ℕ) → c ≡ m → t ≡ f ++ rest → b ++ c ∷ t ≡ (b ++ m ∷ f) ++ rest
led_whole b t f rest c m e h = rw (e, h) (sym (append_assoc b (m ∷ f) rest))

-- behind a first character
abbrev pub Led : {A : Type 0} → ℕ → (Text → A → Type 0) → Text → A → Type 0
Led c Part s x = Part (c ∷ s) x

pub led : {A : Type 0} (Part : Text → A → Type 0) (c d : ℕ) (t : Text) (x : A) (rest : Text) → c ≡ d
    → Front (Led d Part) t x rest → Front Part (c ∷ t) x rest
led Part c d t x rest e f = record {
  front = d ∷ f.front;
  part = f.part;
  whole =
      rw e (ap (λ (w : Text). d ∷ w) f.whole);
}

pub after_behind : {A : Type 0} (mark : Text) (Part : Text → A → Type 0) (r s : Text) (x : A) → IsBlank r
    → Behind Part s x → After mark Part (r ++ (mark ++ s)) x
after_behind mark Part r w y h (behind s t x b p) = after r s t x h b p

-- another part, of what was a part
pub turned : {A B : Type 0} (P : Text → A → Type 0) (R : Text → B → Type 0) (t : Text) (x : A) (y : B)
    (rest : Text) → ((s : Text) → P s x → R s y) → Front P t x rest → Front R t y rest
turned P R t x y rest h f = record { front = f.front; part = h f.front f.part; whole = f.whole }

-- a list ends before what follows it
abbrev pub Nothing : Text → Type 0
Nothing s = s ≡ []

-- the blanks and the character that closes
pub data Closing (close : ℕ) : Text → Type 0 where
  closing : (s : Text) → IsBlank s → Closing close (s ++ close ∷ [])

-- ---- operators

or_equal_sound : (with without : Operator) (lead : ℕ) (t : Text) → operator_text with ≡ lead ∷ 61 ∷ []
    → operator_text without ≡ lead ∷ [] → lead ∷ t ≡ operator_text (or_equal with without t).0
    ++ (or_equal with without t).1
or_equal_sound with without lead [] a b = rw b refl
or_equal_sound with without lead (c ∷ t) a b =
    let pick : Bool → Operator × Text = λ x. cond x (with, t) (without, c ∷ t) in
    let P : Bool → Type 0 = λ x. lead ∷ c ∷ t ≡ operator_text (pick x).0 ++ (pick x).1 in
    (elim (eqb c 61) as (λ x. eqb c 61 ≡ x → P x) [
      | true ↦ λ h. let m : c ≡ 61 = eqb-true c 61 h in rw (a, m) refl
      | false ↦ λ h. rw b refl
    ]) refl

pub operator_sound : (t : Text) (o : Operator) (rest : Text) → operator_at t ≡ Some (o, rest)
    → t ≡ operator_text o ++ rest
unfolding operator_at
operator_sound [] o rest e = absurd cc
operator_sound (c ∷ t) o rest e =
    let P : Operator × Text → Type 0 = λ p. c ∷ t ≡ operator_text p.0 ++ p.1 in
    elim (chosen (eqb c 61) (mark_at 61 t >>= λ u. Some (op.Eq, u)) _ (Some (o, rest)) e) [
      | inl h ↦
          let m : c ≡ 61 = eqb-true c 61 h.0 in
          option_and_then_some (λ u. Some (op.Eq, u)) (mark_at 61 t) (o, rest) h.1 (λ u g l.
          subst P (same_Some (op.Eq, u) (o, rest) l) (rw m (ap (λ (w : Text). 61 ∷ w) (mark_sound 61 t u g))))
      | inr h ↦ elim (chosen (eqb c 33) (mark_at 61 t >>= λ u. Some (op.Ne, u)) _ (Some (o, rest)) h.1) [
        | inl k ↦
            let m : c ≡ 33 = eqb-true c 33 k.0 in
            option_and_then_some (λ u. Some (op.Ne, u)) (mark_at 61 t) (o, rest) k.1 (λ u g l.
            subst P (same_Some (op.Ne, u) (o, rest) l)
            (rw m (ap (λ (w : Text). 33 ∷ w) (mark_sound 61 t u g))))
        | inr k ↦ elim (chosen (eqb c 60) (Some (or_equal op.Le op.Lt t)) _ (Some (o, rest)) k.1) [
          | inl l ↦
              let m : c ≡ 60 = eqb-true c 60 l.0 in
              subst P (same_Some (or_equal op.Le op.Lt t) (o, rest) l.1) (ap (λ (d : ℕ). d ∷ t) m
              ∙ or_equal_sound op.Le op.Lt 60 t refl refl)
          | inr l ↦
              let g = cond_some (eqb c 62) (or_equal op.Ge op.Gt t) (o, rest) l.1 in
              let m : c ≡ 62 = eqb-true c 62 g.0 in
              subst P g.1 (ap (λ (d : ℕ). d ∷ t) m ∙ or_equal_sound op.Ge op.Gt 62 t refl refl)
        ]
      ]
    ]

-- ---- slices

-- blanks and a bound
pub data SpacedBound : Text → Option Text → Type 0 where
  spaced : (s t : Text) (x : Option Text) → IsBlank s → BoundIs t x → SpacedBound (s ++ t) x

int_as_bound : (t x rest : Text) → Front (Itself IsInt) (skip t) x rest → Front SpacedBound t (Some x) rest
int_as_bound t x rest f = record {
  front = taken is_blank t ++ (f.front ++ []);
  part = subst (λ (w : Text). SpacedBound (taken is_blank t ++ (f.front ++ [])) (Some w)) f.part.1
      (spaced (taken is_blank t) (f.front ++ []) (Some f.front) (run_each is_blank t)
      (is.bound f.front [] f.part.0 tt));
  whole = run_whole is_blank t ∙ ap (λ (u : Text). taken is_blank t ++ u) f.whole ∙ simp append_assoc;
}

no_bound_read : (t : Text) (x : Option Text) (rest : Text)
    → ◌≡◌ {A = Outcome (Option Text)} (Some (None, t)) (Some (x, rest)) → Front SpacedBound t x rest
no_bound_read t x rest e = carried SpacedBound t (None, t) (x, rest) e
    (record { front = []; part = spaced [] [] None tt is.no_bound; whole = refl })

bound_sound : (t : Text) (x : Option Text) (rest : Text) → bound_at t ≡ Some (x, rest)
    → Front SpacedBound t x rest
unfolding bound_at
bound_sound t x rest e =
    elim (chosen (begins_int (skip t)) _ (Some (None, t)) (Some (x, rest)) e) [
      | inl h ↦
          option_and_then_some (given (λ v. Some v)) (int_at (skip t)) (x, rest) h.1 (λ r er kr.
          carried SpacedBound t (Some r.0, r.1) (x, rest) kr
          (int_as_bound t r.0 r.1 (int_sound (skip t) r.0 r.1 er)))
      | inr h ↦ no_bound_read t x rest h.1
    ]

-- blanks, which stand behind the bound before, and a step
pub data SpacedStep : Text → Option Text → Type 0 where
  spaced_step : (s t : Text) (x : Option Text) → IsBlank s → StepIs t x → SpacedStep (s ++ t) x

-- behind `:` an integer needs blanks before it only; other blanks are not read
step_of : (t : Text) (x : Option Text) (rest : Text) → bound_at t ≡ Some (x, rest)
    → Front (Led 58 StepIs) t x rest
unfolding bound_at
step_of t x rest e =
    elim (chosen (begins_int (skip t)) _ (Some (None, t)) (Some (x, rest)) e) [
      | inl h ↦
          option_and_then_some (given (λ v. Some v)) (int_at (skip t)) (x, rest) h.1 (λ r er kr.
          let f = int_sound (skip t) r.0 r.1 er in
          carried (Led 58 StepIs) t (Some r.0, r.1) (x, rest) kr (record {
            front = taken is_blank t ++ f.front;
            part = subst (λ (w : Text). StepIs (58 ∷ taken is_blank t ++ f.front) (Some w)) f.part.1
                (is.step (taken is_blank t) f.front (run_each is_blank t) f.part.0);
            whole = run_whole is_blank t ∙ ap (λ (u : Text). taken is_blank t ++ u) f.whole
                ∙ sym (append_assoc (taken is_blank t) f.front r.1);
          }))
      | inr h ↦ carried (Led 58 StepIs) t (None, t) (x, rest) h.1
          (record { front = []; part = is.empty_step; whole = refl })
    ]

step_sound : (t : Text) (x : Option Text) (rest : Text) → step_at t ≡ Some (x, rest)
    → Front SpacedStep t x rest
unfolding step_at
step_sound t x rest e =
    elim (chosen (begins_with 58 (skip t)) (mark_at 58 (skip t) >>= bound_at) (Some (None, t))
    (Some (x, rest)) e) [
      | inl h ↦
          option_and_then_some bound_at (mark_at 58 (skip t)) (x, rest) h.1 (λ u eu ku.
          let f = step_of u x rest ku in
          record {
            front = taken is_blank t ++ 58 ∷ f.front;
            part = spaced_step (taken is_blank t) (58 ∷ f.front) x (run_each is_blank t) f.part;
            whole = run_whole is_blank t ∙ ap (λ (w : Text). taken is_blank t ++ w)
                (mark_sound 58 (skip t) u eu ∙ ap (λ (w : Text). 58 ∷ w) f.whole)
                ∙ sym (append_assoc (taken is_blank t) (58 ∷ f.front) rest);
          })
      | inr h ↦ carried SpacedStep t (None, t) (x, rest) h.1
          (record { front = []; part = spaced_step [] [] None tt is.no_step; whole = refl })
    ]

each_append : (p : ℕ → Bool) (s t : Text) → Each p s → Each p t → Each p (s ++ t)
each_append p [] t h k = k
each_append p (c ∷ s) t h k = (h.0, each_append p s t h.1 k)

-- `:`, a bound and a step, behind the first bound
pub data SliceTail : Text → Option Text → Option Text → Type 0 where
  slice_tail : (s t u : Text) (past last : Option Text) → IsBlank s → BoundIs t past → StepIs u last
      → SliceTail (58 ∷ (s ++ (t ++ u))) past last

bound_and_step : (s t u v : Text) (x y : Option Text) → IsBlank s → BoundIs t x → IsBlank u → StepIs v y
    → SliceTail (58 ∷ ((s ++ t) ++ (u ++ v))) x y
bound_and_step s t u v x y hs is.no_bound hu st =
    subst (λ (w : Text). SliceTail (58 ∷ w) None y) (simp append_assoc)
    (slice_tail (s ++ u) [] v None y (each_append is_blank s u hs hu) is.no_bound st)
bound_and_step s w u v x y hs (is.bound a b i hb) hu st =
    subst (λ (z : Text). SliceTail (58 ∷ z) (Some a) y) (simp append_assoc)
    (slice_tail s (a ++ (b ++ u)) v (Some a) y hs (is.bound a (b ++ u) i (each_append is_blank b u hb hu))
    st)

tail_of : (f g : Text) (x y : Option Text) → SpacedBound f x → SpacedStep g y → SliceTail (58 ∷ (f ++ g)) x y
tail_of f g x y (spaced s t a hs b) (spaced_step u v c hu d) = bound_and_step s t u v x y hs b hu d

-- what is read from the first `:` on
abbrev pub SliceFrom : Option Text → Text → tree.Selector → Type 0
SliceFrom first s x = (past : Option Text) × (last : Option Text) × SliceTail s past last
    × (tree.slice first past last ≡ x)

abbrev with_last : Option Text → Option Text → Option Text × Text → Outcome tree.Selector
with_last first past = given (λ last. tree.slice first past last)

slice_sound : (first : Option Text) (t : Text) (x : tree.Selector) (rest : Text)
    → slice_at first t ≡ Some (x, rest) → Front (SliceFrom first) t x rest
unfolding slice_at
slice_sound first t x rest e =
    option_and_then_some (λ u. bound_at u >>= λ past. step_at past.1 >>= with_last first past.0)
    (mark_at 58 t) (x, rest) e (λ u eu ku.
    option_and_then_some (λ past. step_at past.1 >>= with_last first past.0) (bound_at u) (x, rest) ku
    (λ a ea ka.
    option_and_then_some (with_last first a.0) (step_at a.1) (x, rest) ka (λ b eb kb.
    let f = bound_sound u a.0 a.1 ea in
    let g = step_sound a.1 b.0 b.1 eb in
    carried (SliceFrom first) t (tree.slice first a.0 b.0, b.1) (x, rest) kb (record {
      front = 58 ∷ (f.front ++ g.front);
      part = (a.0, b.0, tail_of f.front g.front a.0 b.0 f.part g.part, refl);
      whole = mark_sound 58 t u eu
          ∙ ap (λ (w : Text). 58 ∷ w) (f.whole ∙ ap (λ (w : Text). f.front ++ w) g.whole
          ∙ sym (append_assoc f.front g.front b.1));
    }))))

module _ (Inner : Text → tree.Logical → Type 0) where
  sliced : (r s : Text) (first past last : Option Text) → BoundIs r first → SliceTail s past last
      → SelectorIs Inner (r ++ s) (tree.slice first past last)
  sliced r w first past last b (slice_tail s t u x y hs h k) = is.slice r s t u first past last b hs h k

  sliced_as : (r s : Text) (first : Option Text) (x : tree.Selector) → BoundIs r first → SliceFrom first s x
      → SelectorIs Inner (r ++ s) x
  sliced_as r s first x b h = subst (λ (y : tree.Selector). SelectorIs Inner (r ++ s) y) h.3
      (sliced r s first h.0 h.1 b h.2)

  index_as : (s v : Text) → Itself IsInt s v → SelectorIs Inner s (tree.index v)
  index_as s v p = subst (λ (w : Text). SelectorIs Inner s (tree.index w)) p.1 (is.index s p.0)

  after_int : (t n u : Text) (x : tree.Selector) (rest : Text) → Front (Itself IsInt) t n u
      → index_or_slice n u ≡ Some (x, rest) → Front (SelectorIs Inner) t x rest
  unfolding index_or_slice
  after_int t n u x rest f e =
      elim (chosen (begins_with 58 (skip u)) (slice_at (Some n) (skip u)) (Some (tree.index n, u))
      (Some (x, rest)) e) [
        | inl h ↦
            let g = slice_sound (Some n) (skip u) x rest h.1 in
            let b : BoundIs (f.front ++ taken is_blank u) (Some n) =
            subst (λ (w : Text). BoundIs (f.front ++ taken is_blank u) (Some w)) f.part.1
            (is.bound f.front (taken is_blank u) f.part.0 (run_each is_blank u)) in
            record {
              front = (f.front ++ taken is_blank u) ++ g.front;
              part = sliced_as (f.front ++ taken is_blank u) g.front (Some n) x b g.part;
              whole = f.whole ∙ ap (λ (w : Text). f.front ++ w) (run_whole is_blank u
                  ∙ ap (λ (w : Text). taken is_blank u ++ w) g.whole) ∙ simp append_assoc;
            }
        | inr h ↦ carried (SelectorIs Inner) t (tree.index n, u) (x, rest) h.1
            (record { front = f.front; part = index_as f.front n f.part; whole = f.whole })
      ]

  numbers_sound : (t : Text) (x : tree.Selector) (rest : Text) → numbers_at t ≡ Some (x, rest)
      → Front (SelectorIs Inner) t x rest
  unfolding numbers_at
  numbers_sound t x rest e =
      elim (chosen (begins_with 58 t) (slice_at None t) (int_at t >>= λ r. index_or_slice r.0 r.1)
      (Some (x, rest)) e) [
        | inl h ↦
            let g = slice_sound None t x rest h.1 in
            record { front = g.front; part = sliced_as [] g.front None x is.no_bound g.part; whole = g.whole }
        | inr h ↦
            option_and_then_some (λ r. index_or_slice r.0 r.1) (int_at t) (x, rest) h.1 (λ r er kr.
            after_int t r.0 r.1 x rest (int_sound t r.0 r.1 er) kr)
      ]

-- ---- lists with commas between

module _ {A : Type 0} (close : ℕ) (item : Reader A) (Item : Text → A
    → Type 0) (item_sound : (t : Text) (x : A) (rest : Text) → item t ≡ Some (x, rest) → Front Item t x rest)
  where
    abbrev item_turn : Text → Turn A
    item_turn u = next_item close item (skip u)

    abbrev IsNext : Text → Option A → Type 0
    IsNext = IsTurn item_turn (After (44 ∷ []) Item) (Closing close)

    next_at : (b s : Text) (o : Option A) (rest : Text) → IsBlank b → next_item close item s ≡ Some (o, rest)
        → Front IsNext (b ++ s) o rest
    unfolding next_item
    next_at b [] o rest h e = absurd cc
    next_at b (c ∷ t) o rest h e =
        elim (chosen (eqb c 44) (item (skip t) >>= λ r. Some (Some r.0, r.1)) _ (Some (o, rest)) e) [
          | inl k ↦
              let m : c ≡ 44 = eqb-true c 44 k.0 in
              let q = bind_some (item (skip t)) (λ r. Some (Some r.0, r.1)) (o, rest) k.1 in
              let f = front_behind Item t q.0.0 q.0.1 (item_sound (skip t) q.0.0 q.0.1 q.1) in
              carried IsNext (b ++ c ∷ t) (Some q.0.0, q.0.1) (o, rest) q.2 (record {
                front = b ++ 44 ∷ f.front;
                part = after_behind (44 ∷ []) Item b f.front q.0.0 h f.part;
                whole = led_whole b t f.front q.0.1 c 44 m f.whole;
              })
          | inr k ↦
              let g = cond_some (eqb c close) (None, t) (o, rest) k.1 in
              let m : c ≡ close = eqb-true c close g.0 in
              subst (λ (p : Option A × Text). Front IsNext (b ++ c ∷ t) p.0 p.1) g.1 (record {
                front = b ++ close ∷ [];
                part = closing b h;
                whole = rw m (sym (append_assoc b (close ∷ []) t));
              })
        ]

    pub next_sound : (u : Text) (o : Option A) (rest : Text) → item_turn u ≡ Some (o, rest)
        → Front IsNext u o rest
    next_sound u o rest e =
        let f = next_at (taken is_blank u) (skip u) o rest (run_each is_blank u) e in
        record { front = f.front; part = f.part; whole = run_whole is_blank u ∙ f.whole }

    -- the items, the blanks and what closes them
    pub record Listed (t : Text) (xs : List A) (rest : Text) : Type 0 where
      pub front : Text
      pub last : Text
      pub items : Separated (44 ∷ []) Item front xs
      pub ends : Closing close last
      pub whole : t ≡ front ++ (last ++ rest)

    listed_shape : (t f u m l rest : Text) → t ≡ f ++ u → u ≡ m ++ (l ++ rest) → t ≡ (f ++ m) ++ (l ++ rest)
    listed_shape t f u m l rest e h = rw (e, h) (sym (append_assoc f m (l ++ rest)))

    pub items_sound : (t : Text) (xs : List A) (rest : Text) → items_at close item t ≡ Some (xs, rest)
        → Listed t xs rest
    unfolding items_at
    items_sound t xs rest e =
        option_and_then_some (λ first. all_of item_turn (first.0 ∷ []) first.1) (item t) (xs, rest) e
        (λ a h k.
        let f = item_sound t a.0 a.1 h in
        let m = all_sound item_turn (After (44 ∷ []) Item) (Closing close) next_sound (a.0 ∷ []) xs a.1 rest
        k in
        record {
          front = f.front ++ m.front;
          last = m.last;
          items = subst (λ (ys : List A). Separated (44 ∷ []) Item (f.front ++ m.front) ys) (sym m.list)
              (separated f.front m.front a.0 m.more f.part m.parts);
          ends = m.ends;
          whole = listed_shape t f.front a.1 m.front m.last rest f.whole m.whole;
        })

-- ---- selectors, segments and queries

module _ (inner : Reader tree.Logical) (Inner : Text → tree.Logical
    → Type 0) (inner_sound : (t : Text) (x : tree.Logical) (rest : Text) → inner t ≡ Some (x, rest)
    → Front Inner t x rest) where
  filtered : (s : Text) (l : tree.Logical) → Behind Inner s l → SelectorIs Inner (63 ∷ s) (tree.filter l)
  filtered w y (behind s t l b p) = is.filter s t l b p

  pub selector_sound : (t : Text) (x : tree.Selector) (rest : Text) → selector_at inner t ≡ Some (x, rest)
      → Front (SelectorIs Inner) t x rest
  unfolding selector_at
  selector_sound [] x rest e = absurd cc
  selector_sound (c ∷ t) x rest e =
      elim (chosen (is_quote c) _ _ (Some (x, rest)) e) [
        | inl h ↦
            option_and_then_some (given (λ v. tree.name v)) (string_at c t) (x, rest) h.1 (λ r er kr.
            let f = string_sound c t r.0 r.1 h.0 er in
            carried (SelectorIs Inner) (c ∷ t) (tree.name r.0, r.1) (x, rest) kr
            (record { front = f.front; part = is.name f.front r.0 f.part; whole = f.whole }))
        | inr h ↦ elim (chosen (eqb c 42) (Some (tree.wildcard, t)) _ (Some (x, rest)) h.1) [
          | inl k ↦
              let m : c ≡ 42 = eqb-true c 42 k.0 in
              carried (SelectorIs Inner) (c ∷ t) (tree.wildcard, t) (x, rest) k.1
              (record { front = 42 ∷ []; part = is.wildcard; whole = rw m refl })
          | inr k ↦ elim (chosen (eqb c 63) _ (numbers_at (c ∷ t)) (Some (x, rest)) k.1) [
            | inl l ↦
                let m : c ≡ 63 = eqb-true c 63 l.0 in
                option_and_then_some (given (λ v. tree.filter v)) (inner (skip t)) (x, rest) l.1 (λ r er kr.
                let f = front_behind Inner t r.0 r.1 (inner_sound (skip t) r.0 r.1 er) in
                carried (SelectorIs Inner) (c ∷ t) (tree.filter r.0, r.1) (x, rest) kr
                (record {
                  front = 63 ∷ f.front;
                  part = filtered f.front r.0 f.part;
                  whole =
                      rw m (ap (λ (u : Text). 63 ∷ u) f.whole);
                }))
            | inr l ↦ numbers_sound Inner (c ∷ t) x rest l.1
          ]
        ]
      ]

  bracket_made : (r s last : Text) (xs : List tree.Selector) → IsBlank r
      → Separated (44 ∷ []) (SelectorIs Inner) s xs → Closing 93 last
      → BracketedIs Inner (91 ∷ (r ++ (s ++ last))) xs
  bracket_made r s w xs h p (closing t b) = is.bracketed r s t xs h p b

  bracketed_sound : (t : Text) (xs : List tree.Selector) (rest : Text)
      → bracketed_at inner t ≡ Some (xs, rest) → Front (Led 91 (BracketedIs Inner)) t xs rest
  bracketed_sound t xs rest e =
      let m = items_sound 93 (selector_at inner) (SelectorIs Inner) selector_sound (skip t) xs rest e in
      record {
        front = taken is_blank t ++ (m.front ++ m.last);
        part = bracket_made (taken is_blank t) m.front m.last xs (run_each is_blank t) m.items m.ends;
        whole = run_whole is_blank t ∙ ap (λ (u : Text). taken is_blank t ++ u) m.whole ∙ simp append_assoc;
      }

  -- behind the marks a name or `*`
  named_sound : (make : List tree.Selector → tree.Segment) (lead : Text)
      → SegmentIs Inner (lead ++ 42 ∷ []) (make (tree.wildcard ∷ []))
      → ((s : Text) → IsShorthand s → SegmentIs Inner (lead ++ s) (make (tree.name s ∷ [])))
      → (t : Text) (x : tree.Segment) (rest : Text) → named_at make t ≡ Some (x, rest)
      → Front (λ s y. SegmentIs Inner (lead ++ s) y) t x rest
  unfolding named_at
  named_sound make lead star name [] x rest e = absurd cc
  named_sound make lead star name (c ∷ t) x rest e =
      elim (chosen (eqb c 42) (Some (make (tree.wildcard ∷ []), t)) _ (Some (x, rest)) e) [
        | inl h ↦
            let m : c ≡ 42 = eqb-true c 42 h.0 in
            carried (λ s y. SegmentIs Inner (lead ++ s) y) (c ∷ t) (make (tree.wildcard ∷ []), t) (x, rest)
            h.1 (record { front = 42 ∷ []; part = star; whole = rw m refl })
        | inr h ↦
            option_and_then_some (given (λ v. make (tree.name v ∷ []))) (name_at (c ∷ t)) (x, rest) h.1
            (λ r er kr.
            let f = name_sound (c ∷ t) r.0 r.1 er in
            carried (λ s y. SegmentIs Inner (lead ++ s) y) (c ∷ t) (make (tree.name r.0 ∷ []), r.1) (x, rest)
            kr (record {
              front = f.front;
              part = subst (λ (w : Text). SegmentIs Inner (lead ++ f.front) (make (tree.name w ∷ [])))
                  f.part.1 (name f.front f.part.0);
              whole = f.whole;
            }))
      ]

  descendant_sound : (t : Text) (x : tree.Segment) (rest : Text) → descendant_at inner t ≡ Some (x, rest)
      → Front (λ s y. SegmentIs Inner (46 ∷ 46 ∷ s) y) t x rest
  unfolding descendant_at
  descendant_sound [] x rest e = absurd cc
  descendant_sound (c ∷ t) x rest e =
      elim (chosen (eqb c 91) _ (named_at tree.descendant (c ∷ t)) (Some (x, rest)) e) [
        | inl h ↦
            let m : c ≡ 91 = eqb-true c 91 h.0 in
            option_and_then_some (given (λ v. tree.descendant v)) (bracketed_at inner t) (x, rest) h.1
            (λ r er kr.
            let f = bracketed_sound t r.0 r.1 er in
            carried (λ s y. SegmentIs Inner (46 ∷ 46 ∷ s) y) (c ∷ t) (tree.descendant r.0, r.1) (x, rest) kr
            (record {
              front = 91 ∷ f.front;
              part = is.descendant_bracketed (91 ∷ f.front) r.0 f.part;
              whole = rw m (ap (λ (u : Text). 91 ∷ u) f.whole);
            }))
        | inr h ↦ named_sound tree.descendant (46 ∷ 46 ∷ []) is.descendant_wildcard
            (λ s p. is.descendant_name s p) (c ∷ t) x rest h.1
      ]

  dotted_sound : (t : Text) (x : tree.Segment) (rest : Text) → dotted_at inner t ≡ Some (x, rest)
      → Front (Led 46 (SegmentIs Inner)) t x rest
  unfolding dotted_at
  dotted_sound [] x rest e = absurd cc
  dotted_sound (c ∷ t) x rest e =
      elim (chosen (eqb c 46) (descendant_at inner t) (named_at tree.child (c ∷ t)) (Some (x, rest)) e) [
        | inl h ↦
            let m : c ≡ 46 = eqb-true c 46 h.0 in
            let f = descendant_sound t x rest h.1 in
            record { front = 46 ∷ f.front; part = f.part; whole = rw m (ap (λ (u : Text). 46 ∷ u) f.whole) }
        | inr h ↦
            let f = named_sound tree.child (46 ∷ []) is.child_wildcard (λ s p. is.child_name s p) (c ∷ t) x
            rest h.1 in
            record { front = f.front; part = f.part; whole = f.whole }
      ]

  abbrev segment_turn : Text → Turn tree.Segment
  segment_turn u = segment_behind inner u (skip u)

  abbrev NextSegment : Text → Option tree.Segment → Type 0
  NextSegment = IsTurn segment_turn (Behind (SegmentIs Inner)) Nothing

  segment_at : (b s : Text) (o : Option tree.Segment) (rest : Text) → IsBlank b
      → segment_behind inner (b ++ s) s ≡ Some (o, rest) → Front NextSegment (b ++ s) o rest
  unfolding segment_behind
  segment_at b [] o rest h e = carried NextSegment (b ++ []) (None, b ++ []) (o, rest) e
      (record { front = []; part = refl; whole = refl })
  segment_at b (c ∷ t) o rest h e =
      elim (chosen (eqb c 46) (dotted_at inner t >>= λ r. Some (Some r.0, r.1)) _ (Some (o, rest)) e) [
        | inl k ↦
            let m : c ≡ 46 = eqb-true c 46 k.0 in
            let q = bind_some (dotted_at inner t) (λ r. Some (Some r.0, r.1)) (o, rest) k.1 in
            let f = dotted_sound t q.0.0 q.0.1 q.1 in
            carried NextSegment (b ++ c ∷ t) (Some q.0.0, q.0.1) (o, rest) q.2 (record {
              front = b ++ 46 ∷ f.front;
              part = behind b (46 ∷ f.front) q.0.0 h f.part;
              whole = led_whole b t f.front q.0.1 c 46 m f.whole;
            })
        | inr k ↦ elim (chosen (eqb c 91) (bracketed_at inner t >>= λ r. Some (Some (tree.child r.0), r.1))
            (Some (None, b ++ c ∷ t)) (Some (o, rest)) k.1) [
              | inl l ↦
                  let m : c ≡ 91 = eqb-true c 91 l.0 in
                  let q = bind_some (bracketed_at inner t) (λ r. Some (Some (tree.child r.0), r.1)) (o, rest)
                  l.1 in
                  let f = bracketed_sound t q.0.0 q.0.1 q.1 in
                  carried NextSegment (b ++ c ∷ t) (Some (tree.child q.0.0), q.0.1) (o, rest) q.2 (record {
                    front = b ++ 91 ∷ f.front;
                    part = behind b (91 ∷ f.front) (tree.child q.0.0) h
                        (is.child_bracketed (91 ∷ f.front) q.0.0
                        f.part);
                    whole = led_whole b t f.front q.0.1 c 91 m f.whole;
                  })
              | inr l ↦ carried NextSegment (b ++ c ∷ t) (None, b ++ c ∷ t) (o, rest) l.1
                  (record { front = []; part = refl; whole = refl })
            ]
      ]

  pub segment_sound : (u : Text) (o : Option tree.Segment) (rest : Text) → segment_turn u ≡ Some (o, rest)
      → Front NextSegment u o rest
  segment_sound u o rest e =
      let f = segment_at (taken is_blank u) (skip u) o rest (run_each is_blank u)
      (ap (λ (w : Text). segment_behind inner w (skip u)) (sym (run_whole is_blank u)) ∙ e) in
      record { front = f.front; part = f.part; whole = run_whole is_blank u ∙ f.whole }

  pub segments_sound : (t : Text) (xs : List tree.Segment) (rest : Text)
      → segments_at inner t ≡ Some (xs, rest) → Front (Star (Behind (SegmentIs Inner))) t xs rest
  segments_sound t xs rest e =
      let m = all_sound segment_turn (Behind (SegmentIs Inner)) Nothing segment_sound [] xs t rest e in
      record {
        front = m.front;
        part =
            subst (λ (ys : List tree.Segment). Star (Behind (SegmentIs Inner)) m.front ys) (sym m.list)
            m.parts;
        whole = m.whole ∙ ap (λ (u : Text). m.front ++ (u ++ rest)) m.ends;
      }

  query_made : (c : ℕ) (start : Start) (t : Text) (q : tree.Query) (rest : Text) → is.StartIs (c ∷ []) start
      → (segments_at inner t >>= given (λ ss. tree.query_from start ss)) ≡ Some (q, rest)
      → Front (QueryIs Inner) (c ∷ t) q rest
  query_made c start t q rest h e =
      option_and_then_some (given (λ ss. tree.query_from start ss)) (segments_at inner t) (q, rest) e
      (λ r er kr.
      let f = segments_sound t r.0 r.1 er in
      carried (QueryIs Inner) (c ∷ t) (tree.query_from start r.0, r.1) (q, rest) kr
      (record {
        front = c ∷ f.front;
        part = is.query (c ∷ []) f.front start r.0 h f.part;
        whole =
            ap (λ (u : Text). c ∷ u) f.whole;
      }))

  pub query_sound : (t : Text) (q : tree.Query) (rest : Text) → query_at inner t ≡ Some (q, rest)
      → Front (QueryIs Inner) t q rest
  unfolding query_at
  query_sound [] q rest e = absurd cc
  query_sound (c ∷ t) q rest e =
      elim (chosen (eqb c 36) _ _ (Some (q, rest)) e) [
        | inl k ↦ let m : c ≡ 36 = eqb-true c 36 k.0 in rw m (query_made 36 Root t q rest is.root k.1)
        | inr k ↦ elim (chosen (eqb c 64) _ None (Some (q, rest)) k.1) [
          | inl l ↦ let m : c ≡ 64 = eqb-true c 64 l.0 in rw m (query_made 64 Current t q rest is.current l.1)
          | inr l ↦ absurd cc
        ]
      ]
