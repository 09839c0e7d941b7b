-- Parts of a pattern that have the empty text alone may be left out.
use Rattle.std.proofs.Common.{◌≡◌, ℕ, ◌+◌, ◌*◌, ◌≤◌, ◌⊎◌, Bool, true, IsTrue, List, [], ◌∷◌, ◌++◌}
use Rattle.std.proofs.Common.{Option, None, refl, sym, ap, ap₂, ◌∙◌, subst, inl, inr, arith, append_assoc}
use Rattle.std.proofs.Common.{append-nil}
use Rattle.std.specs.List.{AllByRecursion}
use Rattle.jp_pattern.specs.Language.{Repeated, Member}
use Rattle.jp_pattern.specs.Pattern.{CharSet, Text, Pattern, letter, group, seq, either, repeat, plus}
use Rattle.jp_pattern.specs.Profile.{HasCounts, copies, depth, size}
use Rattle.jp_pattern.specs.Tree.{in_turn, before_last}
use Rattle.jp_pattern.proofs.EmptyLemmas.{only_empty, has_empty}
use Rattle.jp_automaton.specs.inner.Spans.{SameSet}
use Rattle.jp_automaton.specs.inner.Simpler.{StandsFor, StandInTurn, StandBefore, HasEmpty}

all_weaker : (P Q : Text → Type 0) (ts : List Text) → ((t : Text) → P t → Q t) → AllByRecursion P ts
    → AllByRecursion Q ts
all_weaker P Q [] f all = tt
all_weaker P Q (t ∷ ts) f all = (f t all.0, all_weaker P Q ts f all.1)

repeated_weaker : (P Q : Text → Type 0) (least : ℕ) (most : Option ℕ) (t : Text)
    → ((u : Text) → P u → Q u) → Repeated P least most t → Repeated Q least most t
repeated_weaker P Q least most t f (parts, all, low, high, e) =
    (parts, all_weaker P Q parts f all, low, high, e)

-- ---- what may stand for what

pub stands_itself : (p : Pattern) → StandsFor p p
stands_itself p = λ counts. record {
  counts = counts;
  no_deeper = omega arith;
  language = record { same_size = refl; members = λ t. (λ m. m, λ m. m) };
}

pub stands_letter : (p q : CharSet) → SameSet p q → StandsFor (letter p) (letter q)
stands_letter p q same = λ counts. record {
  counts = tt;
  no_deeper = omega arith;
  language = record {
    same_size = refl;
    members = λ t. (λ (c, e, h). (c, e, sym (same c) ∙ h), λ (c, e, h). (c, e, same c ∙ h));
  };
}

pub stands_through : (p q r : Pattern) → StandsFor p q → StandsFor q r → StandsFor p r
stands_through p q r f g = λ counts.
    let a = f counts in
    let b = g a.counts in
    record {
      counts = b.counts;
      no_deeper = omega (arith, a.no_deeper, b.no_deeper);
      language = record {
        same_size = a.language.same_size ∙ b.language.same_size;
        members = λ t. (
          λ m. (b.language.members t).0 ((a.language.members t).0 m),
          λ m. (a.language.members t).1 ((b.language.members t).1 m),
        );
      };
    }

pub stands_group : (p q : Pattern) → StandsFor p q → StandsFor (group p) (group q)
stands_group p q f = λ counts.
    let a = f counts in
    record {
      counts = a.counts;
      no_deeper = omega (arith, a.no_deeper);
      language = record { same_size = a.language.same_size; members = a.language.members };
    }

pub stands_seq : (p q r s : Pattern) → StandsFor p q → StandsFor r s → StandsFor (seq p r) (seq q s)
stands_seq p q r s f g = λ counts.
    let a = f counts.0 in
    let b = g counts.1 in
    record {
      counts = (a.counts, b.counts);
      no_deeper = omega (arith, a.no_deeper, b.no_deeper);
      language = record {
        same_size = ap₂ (λ m n. m + n) a.language.same_size b.language.same_size;
        members = λ t. (
          λ (u, v, e, m, n). (u, v, e, (a.language.members u).0 m, (b.language.members v).0 n),
          λ (u, v, e, m, n). (u, v, e, (a.language.members u).1 m, (b.language.members v).1 n),
        );
      };
    }

pub stands_either : (p q r s : Pattern) → StandsFor p q → StandsFor r s
    → StandsFor (either p r) (either q s)
stands_either p q r s f g = λ counts.
    let a = f counts.0 in
    let b = g counts.1 in
    record {
      counts = (a.counts, b.counts);
      no_deeper = omega (arith, a.no_deeper, b.no_deeper);
      language = record {
        same_size = ap₂ (λ m n. m + n) a.language.same_size b.language.same_size;
        members = λ t. (
          λ m. elim m [
            | inl h ↦ inl ((a.language.members t).0 h)
            | inr h ↦ inr ((b.language.members t).0 h)
          ],
          λ m. elim m [
            | inl h ↦ inl ((a.language.members t).1 h)
            | inr h ↦ inr ((b.language.members t).1 h)
          ],
        );
      };
    }

pub stands_repeat : (p q : Pattern) (least : ℕ) (most : Option ℕ) → StandsFor p q
    → StandsFor (repeat least most p) (repeat least most q)
stands_repeat p q least most f = λ counts.
    let a = f counts.1 in
    record {
      counts = (counts.0, a.counts);
      no_deeper = a.no_deeper;
      language = record {
        same_size = ap (λ n. copies least most * n) a.language.same_size;
        members = λ t. (
          repeated_weaker (Member p) (Member q) least most t (λ u. (a.language.members u).0),
          repeated_weaker (Member q) (Member p) least most t (λ u. (a.language.members u).1),
        );
      };
    }

pub stands_plus : (p q : Pattern) → StandsFor p q → StandsFor (plus p) (plus q)
stands_plus p q f = λ counts.
    let a = f counts in
    record {
      counts = a.counts;
      no_deeper = a.no_deeper;
      language = record {
        same_size = a.language.same_size;
        members = λ t. (
          repeated_weaker (Member p) (Member q) 1 None t (λ u. (a.language.members u).0),
          repeated_weaker (Member q) (Member p) 1 None t (λ u. (a.language.members u).1),
        );
      };
    }

-- ---- pieces

same_behind : (u v t : Text) → t ≡ u ++ v → u ≡ [] → t ≡ v
same_behind u v t e none = e ∙ ap (λ w. w ++ v) none

-- a piece of size 0 may be left out
pub leave_piece : (p q r : Pattern) → StandsFor p q → size q ≡ 0 → StandsFor (seq p r) r
leave_piece p q r f z = λ counts.
    let a = f counts.0 in
    let none : size p ≡ 0 = a.language.same_size ∙ z in
    record {
      counts = counts.1;
      no_deeper = omega arith;
      language = record {
        same_size = omega (arith, none);
        members = λ t. (
          λ (u, v, e, m, n).
              subst (Member r) (sym (same_behind u v t e (only_empty p u counts.0 none m))) n,
          λ m. ([], t, refl, has_empty p counts.0 none, m),
        );
      };
    }

behind_pieces : (ps : List Pattern) (q r : List Pattern) → StandsFor (in_turn q) (in_turn r)
    → StandsFor (in_turn (ps ++ q)) (in_turn (ps ++ r))
behind_pieces [] q r f = f
behind_pieces (p ∷ ps) q r f = stands_seq p p _ _ (stands_itself p) (behind_pieces ps q r f)

piece_behind : (ps others : List Pattern) (p : Pattern) → (ps ++ p ∷ []) ++ others ≡ ps ++ (p ∷ others)
piece_behind ps others p = append_assoc ps (p ∷ []) others

pub no_pieces : StandInTurn [] []
no_pieces others = stands_itself (in_turn others)

pub piece_more : (ps qs : List Pattern) (p q : Pattern) → StandInTurn ps qs → StandsFor p q
    → StandInTurn (ps ++ p ∷ []) (qs ++ q ∷ [])
piece_more ps qs p q kept f others =
    let whole : StandsFor (in_turn (ps ++ (p ∷ others))) (in_turn (qs ++ (q ∷ others))) =
    stands_through _ _ _ (kept (p ∷ others)) (behind_pieces qs (p ∷ others) (q ∷ others)
    (stands_seq p q _ _ f (stands_itself (in_turn others)))) in
    rw (piece_behind ps others p, piece_behind qs others q) whole

pub piece_left : (ps qs : List Pattern) (p q : Pattern) → StandInTurn ps qs → StandsFor p q → size q ≡ 0
    → StandInTurn (ps ++ p ∷ []) qs
piece_left ps qs p q kept f z others =
    let whole : StandsFor (in_turn (ps ++ (p ∷ others))) (in_turn (qs ++ others)) =
    stands_through _ _ _ (kept (p ∷ others)) (behind_pieces qs (p ∷ others) others
    (leave_piece p q (in_turn others) f z)) in
    rw (piece_behind ps others p) whole

pub all_pieces : (ps qs : List Pattern) → StandInTurn ps qs → StandsFor (in_turn ps) (in_turn qs)
all_pieces ps qs kept = rw (append-nil ps, append-nil qs) at (kept [])

-- ---- branches

-- the branches `whole` are p and `rest`
record IsWith (p whole rest : Pattern) : Type 0 where
  counts : HasCounts whole → HasCounts p × HasCounts rest
  no_deeper : depth rest ≤ depth whole
  sizes : size whole ≡ size p + size rest
  has : (t : Text) → Member whole t → Member p t ⊎ Member rest t
  only : (t : Text) → Member rest t → Member whole t

with_branch : (xs others : List Pattern) (p last : Pattern)
    → IsWith p (before_last (xs ++ (p ∷ others)) last) (before_last (xs ++ others) last)
with_branch [] others p last = record {
  counts = λ h. h;
  no_deeper = omega arith;
  sizes = refl;
  has = λ t m. m;
  only = λ t m. inr m;
}
with_branch (x ∷ xs) others p last =
    let w = with_branch xs others p last in
    record {
      counts = λ h. let r = w.counts h.1 in (r.0, (h.0, r.1));
      no_deeper = omega (arith, w.no_deeper);
      sizes = omega (arith, w.sizes);
      has = λ t m. elim m [
        | inl h ↦ inr (inl h)
        | inr h ↦ elim (w.has t h) [ inl k ↦ inl k | inr k ↦ inr (inr k) ]
      ];
      only = λ t m. elim m [ inl h ↦ inl h | inr h ↦ inr (w.only t h) ];
    }

-- a branch of size 0 may be left out where another has the empty text
leave_branch : (xs others : List Pattern) (p q last : Pattern) → StandsFor p q → size q ≡ 0
    → (HasCounts (before_last (xs ++ others) last) → Member (before_last (xs ++ others) last) [])
    → StandsFor (before_last (xs ++ (p ∷ others)) last) (before_last (xs ++ others) last)
leave_branch xs others p q last f z other = λ counts.
    let w = with_branch xs others p last in
    let both = w.counts counts in
    let none : size p ≡ 0 = (f both.0).language.same_size ∙ z in
    let rest = before_last (xs ++ others) last in
    record {
      counts = both.1;
      no_deeper = w.no_deeper;
      language = record {
        same_size = omega (arith, w.sizes, none);
        members = λ t. (
          λ m. elim (w.has t m) [
            | inl h ↦ subst (Member rest) (sym (only_empty p t both.0 none h)) (other both.1)
            | inr h ↦ h
          ],
          w.only t,
        );
      };
    }

behind_branches : (xs ys others : List Pattern) (l m : Pattern)
    → StandsFor (before_last ys l) (before_last others m)
    → StandsFor (before_last (xs ++ ys) l) (before_last (xs ++ others) m)
behind_branches [] ys others l m f = f
behind_branches (x ∷ xs) ys others l m f =
    stands_either x x _ _ (stands_itself x) (behind_branches xs ys others l m f)

pub stands_last : (xs : List Pattern) (l m : Pattern) → StandsFor l m
    → StandsFor (before_last xs l) (before_last xs m)
stands_last [] l m f = f
stands_last (x ∷ xs) l m f = stands_either x x _ _ (stands_itself x) (stands_last xs l m f)

pub no_branches : (b : Bool) → StandBefore b [] []
no_branches b others last h = stands_itself (before_last others last)

pub branch_more : (b : Bool) (ps qs : List Pattern) (p q : Pattern) → StandBefore b ps qs → StandsFor p q
    → StandBefore b (ps ++ p ∷ []) (qs ++ q ∷ [])
branch_more b ps qs p q kept f others last h =
    let whole : StandsFor (before_last (ps ++ (p ∷ others)) last) (before_last (qs ++ (q ∷ others)) last) =
    stands_through _ _ _ (kept (p ∷ others) last h) (behind_branches qs (p ∷ others) (q ∷ others) last last
    (stands_either p q _ _ f (stands_itself (before_last others last)))) in
    rw (piece_behind ps others p, piece_behind qs others q) whole

pub branch_left : (b : Bool) (ps qs : List Pattern) (p q : Pattern) → StandBefore b ps qs → StandsFor p q
    → size q ≡ 0 → HasEmpty b true qs → StandBefore b (ps ++ p ∷ []) qs
branch_left b ps qs p q kept f z has others last h =
    let whole : StandsFor (before_last (ps ++ (p ∷ others)) last) (before_last (qs ++ others) last) =
    stands_through _ _ _ (kept (p ∷ others) last h)
    (leave_branch qs others p q last f z (has refl others last h)) in
    rw (piece_behind ps others p) whole

pub all_branches : (b : Bool) (ps qs : List Pattern) (last : Pattern) → StandBefore b ps qs
    → (IsTrue b → size last ≡ 0) → StandsFor (before_last ps last) (before_last qs last)
all_branches b ps qs last kept h = rw (append-nil ps, append-nil qs) at (kept [] last h)

-- ---- which branches have the empty text

last_empty : (others : List Pattern) (last : Pattern) → size last ≡ 0 → HasCounts (before_last others last)
    → Member (before_last others last) []
last_empty [] last z counts = has_empty last counts z
last_empty (x ∷ others) last z counts = inr (last_empty others last z counts.1)

branch_empty : (xs others : List Pattern) (q last : Pattern) → size q ≡ 0
    → HasCounts (before_last (xs ++ (q ∷ others)) last) → Member (before_last (xs ++ (q ∷ others)) last) []
branch_empty [] others q last z counts = inl (has_empty q counts.0 z)
branch_empty (x ∷ xs) others q last z counts = inr (branch_empty xs others q last z counts.1)

pub empty_first : (b : Bool) → HasEmpty b b []
empty_first b is others last h counts = last_empty others last (h is) counts

pub empty_more : (b has : Bool) (qs : List Pattern) (q : Pattern) → HasEmpty b has qs
    → HasEmpty b has (qs ++ q ∷ [])
empty_more b has qs q kept is others last h =
    rw (piece_behind qs others q) (kept is (q ∷ others) last h)

pub empty_here : (b has : Bool) (qs : List Pattern) (q : Pattern) → size q ≡ 0
    → HasEmpty b has (qs ++ q ∷ [])
empty_here b has qs q z is others last h =
    rw (piece_behind qs others q) (branch_empty qs others q last z)

-- ---- under other names

pub stands_as : (p p' q q' : Pattern) → p ≡ p' → q ≡ q' → StandsFor p' q' → StandsFor p q
stands_as p p' q q' e f h = rw (e, f) h
