-- What serves each rule: a part at the front, runs of characters, and lists of parts.
use Rattle.std.proofs.Common.{◌≡◌, ℕ, zero, suc, ◌+◌, ◌<◌, ◌≤◌, Bool, true, false, not, cond, List, [], ◌∷◌}
use Rattle.std.proofs.Common.{◌++◌, length, Option, Some, None, refl, sym, ap, subst, ◌∙◌, append_assoc}
use Rattle.std.proofs.Common.{length-append, arith, inl, inr, ◌⊎◌}
use Rattle.std.proofs.lemmas.List.{append-nil}
use Rattle.std.proofs.lemmas.Option.{some_pair_parts}
use Rattle.jp_tree.specs.Tree.{Text}
use Rattle.jp_tree.specs.Parts.{Each, Star, none, more}
use Rattle.jp_tokens.specs.Reading.{Outcome, Turn, ◌>>=◌, taken, past, goes_on, many, all_of}

-- ---- outcomes

pub bind_some : {A B : Type 0} (o : Option A) (f : A → Option B) (y : B) → (o >>= f) ≡ Some y
    → (x : A) × (o ≡ Some x) × (f x ≡ Some y)
bind_some (Some x) f y e = (x, refl, e)
bind_some None f y e = absurd cc

pub chosen : {A : Type 0} (b : Bool) (x y z : A) → cond b x y ≡ z → ((b ≡ true) × (x ≡ z))
    ⊎ ((b ≡ false) × (y ≡ z))
chosen true x y z e = inl (refl, e)
chosen false x y z e = inr (refl, e)

-- what is made of what is read
abbrev pub given : {A B : Type 0} → (A → B) → A × Text → Outcome B
given f r = Some (f r.0, r.1)

-- ---- a part at the front

pub record Front {A : Type 0} (Part : Text → A → Type 0) (t : Text) (x : A) (rest : Text) : Type 0 where
  pub front : Text
  pub part : Part front x
  pub whole : t ≡ front ++ rest

-- ---- runs

pub run_whole : (p : ℕ → Bool) (t : Text) → t ≡ taken p t ++ past p t
run_whole p [] = refl
run_whole p (c ∷ t) = elim (p c) as (λ b. c ∷ t ≡ cond b (c ∷ taken p t) [] ++ cond b (past p t) (c ∷ t))
    [ true ↦ ap (λ (u : Text). c ∷ u) (run_whole p t) | false ↦ refl ]

pub run_each : (p : ℕ → Bool) (t : Text) → Each p (taken p t)
run_each p [] = tt
run_each p (c ∷ t) = (elim (p c) as (λ b. p c ≡ b → Each p (cond b (c ∷ taken p t) []))
    [ true ↦ λ e. (e, run_each p t) | false ↦ λ e. tt ]) refl

-- a text of those that pass is passed over
pub past_each : (p : ℕ → Bool) (s u : Text) → Each p s → past p (s ++ u) ≡ past p u
past_each p [] u h = refl
past_each p (c ∷ s) u h = rw h.0 (past_each p s u h.1)

pub taken_each : (p : ℕ → Bool) (s u : Text) → Each p s → taken p (s ++ u) ≡ s ++ taken p u
taken_each p [] u h = refl
taken_each p (c ∷ s) u h = rw h.0 (ap (λ (x : Text). c ∷ x) (taken_each p s u h.1))

-- the text is at its end, or its first character passes
abbrev pub starts : (ℕ → Bool) → Text → Bool
starts p [] = true
starts p (c ∷ t) = p c

pub past_none : (p : ℕ → Bool) (u : Text) → starts (λ c. not (p c)) u ≡ true → past p u ≡ u
past_none p [] h = refl
past_none p (c ∷ u) h =
    (elim (p c) as (λ b. not b ≡ true → cond b (past p u) (c ∷ u) ≡ c ∷ u)
    [ true ↦ λ e. absurd cc | false ↦ λ e. refl ]) h

pub taken_none : (p : ℕ → Bool) (u : Text) → starts (λ c. not (p c)) u ≡ true → taken p u ≡ []
taken_none p [] h = refl
taken_none p (c ∷ u) h =
    (elim (p c) as (λ b. not b ≡ true → cond b (c ∷ taken p u) [] ≡ [])
    [ true ↦ λ e. absurd cc | false ↦ λ e. refl ]) h

pub run_at_whole : (p : ℕ → Bool) (s u : Text) → Each p s → starts (λ c. not (p c)) u ≡ true
    → (taken p (s ++ u) ≡ s) × (past p (s ++ u) ≡ u)
run_at_whole p s u h stop = (
  taken_each p s u h ∙ ap (λ (x : Text). s ++ x) (taken_none p u stop)
      ∙ append-nil s,
  past_each p s u h ∙ past_none p u stop,
)

-- ---- lists of parts

module _ {A : Type 0} (turn : Text → Turn A) (Part : Text → A → Type 0) (End : Text → Type 0) where
  abbrev pub IsTurn : Text → Option A → Type 0
  IsTurn s (Some x) = Part s x
  IsTurn s None = End s

  pub record Many (t : Text) (found xs : List A) (rest : Text) : Type 0 where
    pub more : List A
    pub front : Text
    pub last : Text
    pub parts : Star Part front more
    pub ends : End last
    pub whole : t ≡ front ++ (last ++ rest)
    pub list : xs ≡ found ++ more

  many_turn : (go : List A → Text → Outcome (List A))
      → ((found xs : List A) (t rest : Text) → go found t ≡ Some (xs, rest) → Many t found xs rest)
      → (found xs : List A) (t rest : Text) (o : Option A) (u : Text) → Front IsTurn t o u
      → goes_on go found o u ≡ Some (xs, rest) → Many t found xs rest
  many_turn go ih found xs t rest None u f e =
      let p = some_pair_parts found xs u rest e in
      record {
        more = [];
        front = [];
        last = f.front;
        parts = none;
        ends = f.part;
        whole = f.whole
            ∙ ap (λ (r : Text). f.front ++ r) p.1;
        list = sym p.0 ∙ sym (append-nil found);
      }
  many_turn go ih found xs t rest (Some x) u f e =
      let m = ih (found ++ x ∷ []) xs u rest e in
      record {
        more = x ∷ m.more;
        front = f.front ++ m.front;
        last = m.last;
        parts = more f.front m.front x m.more f.part m.parts;
        ends = m.ends;
        whole = f.whole ∙ ap (λ (r : Text). f.front ++ r) m.whole
            ∙ sym (append_assoc f.front m.front (m.last ++ rest));
        list = m.list ∙ append_assoc found (x ∷ []) m.more;
      }

  pub many_sound : ((t : Text) (o : Option A) (rest : Text) → turn t ≡ Some (o, rest) → Front IsTurn t o rest)
      → (n : ℕ) (found xs : List A) (t rest : Text) → many turn n found t ≡ Some (xs, rest)
      → Many t found xs rest
  unfolding many
  many_sound sound zero found xs t rest e = absurd cc
  many_sound sound (suc n) found xs t rest e =
      let b = bind_some (turn t) (λ p. goes_on (many turn n) found p.0 p.1) (xs, rest) e in
      many_turn (many turn n) (many_sound sound n) found xs t rest b.0.0 b.0.1 (sound t b.0.0 b.0.1 b.1) b.2

  pub all_sound : ((t : Text) (o : Option A) (rest : Text) → turn t ≡ Some (o, rest) → Front IsTurn t o rest)
      → (found xs : List A) (t rest : Text) → all_of turn found t ≡ Some (xs, rest) → Many t found xs rest
  unfolding all_of
  all_sound sound found xs t rest e = many_sound sound (length t + 1) found xs t rest e

-- the other way: Good says what may follow a part, and the parts are no longer than the limit
module _ {A : Type 0} (turn : Text → Turn A) (Part : Text → A → Type 0) (Good : Text → Type 0) (limit : ℕ)
  where
    pub record Steps : Type 0 where
      pub some : (s : Text) (x : A) → Part s x → 0 < length s
      pub good : (s : Text) (x : A) (u : Text) → Part s x → Good u → Good (s ++ u)
      pub step : (s : Text) (x : A) (u : Text) → Part s x → length s ≤ limit → Good u → (v : Text)
          × (turn (s ++ u) ≡ Some (Some x, v)) × (turn v ≡ turn u)

    pub star_good : Steps → (s : Text) (xs : List A) (u : Text) → Star Part s xs → Good u → Good (s ++ u)
    star_good k s xs u none g = g
    star_good k w ys u (more s t x xs p ps) g = subst Good (sym (append_assoc s t u))
        (k.good s x (t ++ u) p (star_good k t xs u ps g))

    pub many_whole : Steps → (n : ℕ) (found : List A) (t s : Text) (xs : List A) (u rest : Text)
        → turn t ≡ turn (s ++ u) → Star Part s xs → length s < n → length s ≤ limit → Good u
        → turn u ≡ Some (None, rest) → many turn n found t ≡ Some (found ++ xs, rest)
    unfolding many
    many_whole k zero found t s xs u rest same ps lt le g e = absurd (omega arith)
    many_whole k (suc n) found t s xs u rest same none lt le g e =
        rw (same, e) (ap (λ (ys : List A). Some (ys, rest)) (sym (append-nil found)))
    many_whole k (suc n) found t w ys u rest same (more s r x xs p ps) lt le g e =
        let len = length-append s r in
        let pos = k.some s x p in
        let here = k.step s x (r ++ u) p (omega arith) (star_good k r xs u ps g) in
        let there = many_whole k n (found ++ x ∷ []) here.0 r xs u rest here.2 ps (omega arith)
        (omega arith) g
        e in
        rw (same, append_assoc s r u, here.1) (there
        ∙ ap (λ (zs : List A). Some (zs, rest)) (append_assoc found (x ∷ []) xs))

    pub all_whole : Steps → (found : List A) (t s : Text) (xs : List A) (u rest : Text)
        → turn t ≡ turn (s ++ u)
        → length s ≤ length t → Star Part s xs → length s ≤ limit → Good u → turn u ≡ Some (None, rest)
        → all_of turn found t ≡ Some (found ++ xs, rest)
    unfolding all_of
    all_whole k found t s xs u rest same fits ps le g e = many_whole k (length t + 1) found t s xs u rest same
        ps (omega arith) le g e
