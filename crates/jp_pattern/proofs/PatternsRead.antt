-- The reader reads each pattern that the grammar spells, so a text has at most one tree.
use Rattle.std.proofs.Common.{◌≡◌, ℕ, zero, suc, ◌+◌, ◌-◌, ◌*◌, ◌<◌, ◌≤◌, false, [], ◌∷◌, ◌++◌, length}
use Rattle.std.proofs.Common.{Option, Some, None, IsTrue, refl, ap, subst, ◌∙◌, arith, append_assoc}
use Rattle.std.proofs.Common.{append-nil, length-append}
use Rattle.std.specs.Prelude.{fold}
use Rattle.std.specs.List.{AllByRecursion}
use Rattle.jp_pattern.specs.Pattern.{Text, Pattern, empty, seq, either, repeat}
use Rattle.jp_pattern.specs.Quantity.{is_digit, IsCount, count, IsQuantity, star, question, exactly, at_least}
use Rattle.jp_pattern.specs.Quantity.{between}
use Rattle.jp_pattern.specs.Shape.{IsPattern, last_branch, first_branch, IsBranch, no_piece, first_piece}
use Rattle.jp_pattern.specs.Shape.{IsPiece, once, repeated, once_or_more, IsAtom, character, parentheses}
use Rattle.jp_pattern.specs.Shape.{Shapes}
use Rattle.jp_pattern.specs.Profile.{InProfile}
use Rattle.jp_pattern.specs.Language.{Member, Matches}
use Rattle.jp_pattern.specs.Samples.{IsNoPattern}
use Rattle.jp_pattern.specs.inner.Reading.{digits_at, count_at, after_comma_at, quantity_at, atom_at}
use Rattle.jp_pattern.specs.inner.Reading.{piece_at}
use Rattle.jp_pattern.specs.inner.Reading.{prepend, pattern_at, read}
use Rattle.jp_pattern.proofs.SetsRead.{differs, begins_piece, BeginsPiece, set_begins_piece, atom_set_whole}

-- ---- quantities

digits_whole : (t : Text) (n d : ℕ) (u : Text) → AllByRecursion (λ c. IsTrue (is_digit c)) t
    → is_digit d ≡ false → digits_at n (t ++ (d ∷ u)) ≡ (fold (λ m c. m * 10 + (c - 48)) n t, d ∷ u)
digits_whole [] n d u all h = rw h
digits_whole (c ∷ t) n d u all h = rw all.0 (digits_whole t (n * 10 + (c - 48)) d u all.1 h)

count_whole : {s : Text} {n : ℕ} → IsCount s n → (d : ℕ) (u : Text) → is_digit d ≡ false
    → count_at (s ++ (d ∷ u)) ≡ Some (n, d ∷ u)
count_whole (count c t all) d u h =
    let digits = digits_whole (c ∷ t) 0 d u all h in rw (all.0) (rw all.0 at (ap Some digits))

comma_whole : (n : ℕ) {s : Text} {m : ℕ} → IsCount s m → (u : Text) → after_comma_at n (s ++ (125 ∷ u))
    ≡ Some (repeat n (Some m), u)
comma_whole n (count c t all) u = let e = count_whole (count c t all) 125 u refl in rw
    (differs is_digit c 125 all.0 refl, e)

quantity_whole : {s : Text} {least : ℕ} {most : Option ℕ} → IsQuantity s least most → (u : Text)
    → quantity_at (s ++ u) ≡ Some (repeat least most, u)
quantity_whole star u = refl
quantity_whole question u = refl
quantity_whole (exactly {t = t} {n = n} h) u = rw (append_assoc t (125 ∷ []) u, count_whole h 125 u refl)
quantity_whole (at_least {t = t} {n = n} h) u =
    rw (append_assoc t (44 ∷ 125 ∷ []) u, count_whole h 44 (125 ∷ u) refl)
quantity_whole (between {s = s} {t = t} {n = n} {m = m} h k) u =
    rw (
      append_assoc s (44 ∷ (t ++ (125 ∷ []))) u,
      append_assoc t (125 ∷ []) u,
      count_whole h 44
          (t ++ (125 ∷ u)) refl,
    ) (comma_whole n k u)

-- ---- pieces

quiet : Text → Type 0
quiet u = quantity_at u ≡ Some ((λ p. p), u)

begins_length : (s : Text) → BeginsPiece s → 0 < length s
begins_length [] h = absurd h
begins_length (c ∷ s) h = omega arith

begins_before : (s t : Text) → BeginsPiece s → BeginsPiece (s ++ t)
begins_before [] t h = absurd h
begins_before (c ∷ s) t h = h

quiet_before : (s : Text) → BeginsPiece s → quiet s
unfolding quiet
quiet_before [] h = absurd h
quiet_before (c ∷ s) h = rw (
  differs begins_piece c 42 h refl,
  differs begins_piece c 63 h refl,
  differs
      begins_piece c 43 h refl,
  differs begins_piece c 123 h refl,
)

atom_begins : {s : Text} {p : Pattern} → IsAtom s p → BeginsPiece s
atom_begins (character h) = set_begins_piece h
atom_begins (parentheses h) = refl

piece_begins : {s : Text} {p : Pattern} → IsPiece s p → BeginsPiece s
piece_begins (once h) = atom_begins h
piece_begins (repeated {s = s} h k) = begins_before s _ (atom_begins h)
piece_begins (once_or_more {s = s} h) = begins_before s _ (atom_begins h)

branch_quiet : {s : Text} {p : Pattern} → IsBranch s p → (u : Text) → quiet u → quiet (s ++ u)
branch_quiet no_piece u h = h
branch_quiet (first_piece {s = s} {t = t} h k) u _ =
    quiet_before ((s ++ t) ++ u) (begins_before (s ++ t) u (begins_before s t (piece_begins h)))

-- ---- patterns

-- the first branch goes on with what was read after it
joined : Pattern → Pattern → Pattern
joined (seq p q) r = prepend p (joined q r)
joined p r = r

joined_last : {s : Text} {b : Pattern} → IsBranch s b → joined b empty ≡ b
unfolding joined
joined_last no_piece = refl
joined_last (first_piece {p = p} h no_piece) = refl
joined_last (first_piece {p = p} h (first_piece k l)) = ap (prepend p) (joined_last (first_piece k l))

joined_first : {s : Text} {b : Pattern} (q : Pattern) → IsBranch s b → joined b (either empty q) ≡ either b q
unfolding joined
joined_first q no_piece = refl
joined_first q (first_piece {p = p} h k) = ap (prepend p) (joined_first q k)

-- where a pattern ends
record Ends (u : Text) : Type 0 where
  stops : (n : ℕ) → pattern_at (suc n) u ≡ Some (empty, u)
  is_quiet : quiet u

ends_at_end : Ends []
unfolding quiet
ends_at_end = record { stops = λ n. refl; is_quiet = refl }

ends_at_parenthesis : (u : Text) → Ends (41 ∷ u)
unfolding quiet
ends_at_parenthesis u = record { stops = λ n. refl; is_quiet = refl }

stops_from : (u : Text) → Ends u → (k : ℕ) → 1 ≤ k → pattern_at k u ≡ Some (empty, u)
stops_from u e zero h = absurd (omega arith)
stops_from u e (suc k) h = e.stops k

bar_from : (n : ℕ) (u v : Text) (q : Pattern) → ((k : ℕ) → n ≤ k → pattern_at k u ≡ Some (q, v)) → (k : ℕ)
    → n + 1 ≤ k → pattern_at k (124 ∷ u) ≡ Some (either empty q, v)
bar_from n u v q h zero room = absurd (omega arith)
bar_from n u v q h (suc k) room = rw (h k (omega arith))

one_piece : (n : ℕ) (s w v : Text) (p r : Pattern) → BeginsPiece s → piece_at (pattern_at n) (s ++ w)
    ≡ Some (p, w) → pattern_at n w ≡ Some (r, v) → pattern_at (suc n) (s ++ w) ≡ Some (prepend p r, v)
one_piece n [] w v p r h e f = absurd h
one_piece n (c ∷ s) w v p r h e f =
    rw (differs begins_piece c 41 h refl, differs begins_piece c 124 h refl, e, f)

mutual
  unfolding quiet joined

  pattern_whole : {s : Text} {p : Pattern} → IsPattern s p → (n : ℕ) (u : Text) → Ends u → length s < n
      → pattern_at n (s ++ u) ≡ Some (p, u)
  pattern_whole (last_branch {t = t} h) n u ends room =
      branch_whole h n 1 u empty u ends.is_quiet (stops_from u ends) (omega arith)
      ∙ ap (λ b. Some (b, u)) (joined_last h)
  pattern_whole (first_branch {s = s} {t = t} {p = p} {q = q} h k) n u ends room =
      let rest = bar_from (length t + 1) (t ++ u) u q (λ m r. pattern_whole k m u ends (omega arith)) in
      rw (append_assoc s (124 ∷ t) u) (branch_whole h n (length t + 2) (124 ∷ (t ++ u)) (either empty q) u
      refl (λ m r. rest m (omega arith)) (omega (arith, length-append s (124 ∷ t)))
      ∙ ap (λ b. Some (b, u)) (joined_first q h))

  branch_whole : {s : Text} {b : Pattern} → IsBranch s b → (n m : ℕ) (u : Text) (r : Pattern) (v : Text)
      → quiet u → ((k : ℕ) → m ≤ k → pattern_at k u ≡ Some (r, v)) → length s + m ≤ n
      → pattern_at n (s ++ u) ≡ Some (joined b r, v)
  branch_whole no_piece n m u r v silent after room = after n (omega arith)
  branch_whole (first_piece {s = s} {t = t} h k) zero m u r v silent after room =
      let begins = begins_length s (piece_begins h) in absurd (omega (arith, length-append s t))
  branch_whole (first_piece {s = s} {t = t} {p = p} {q = q} h k) (suc n) m u r v silent after room =
      let begins = begins_length s (piece_begins h) in
      let w = t ++ u in
      let front = piece_whole h n w (branch_quiet k u silent) (omega (arith, length-append s t)) in
      let back = branch_whole k n m u r v silent after (omega (arith, length-append s t)) in
      rw (append_assoc s t u) (one_piece n s w v p (joined q r) (piece_begins h) front back)

  piece_whole : {s : Text} {p : Pattern} → IsPiece s p → (n : ℕ) (u : Text) → quiet u → length s ≤ suc n
      → piece_at (pattern_at n) (s ++ u) ≡ Some (p, u)
  piece_whole (once h) n u silent room = rw (atom_whole h n u room, silent)
  piece_whole (repeated {s = s} {t = t} h k) n u silent room =
      rw (append_assoc s t u, atom_whole h n (t ++ u) (omega (arith, length-append s t)), quantity_whole k u)
  piece_whole (once_or_more {s = s} h) n u silent room =
      rw (append_assoc s (43 ∷ []) u, atom_whole h n (43 ∷ u) (omega (arith, length-append s (43 ∷ []))))

  atom_whole : {s : Text} {p : Pattern} → IsAtom s p → (n : ℕ) (u : Text) → length s ≤ suc n
      → atom_at (pattern_at n) (s ++ u) ≡ Some (p, u)
  atom_whole (character h) n u room = atom_set_whole (pattern_at n) h u
  atom_whole (parentheses {t = t} h) n u room =
      rw (
        append_assoc t (41 ∷ []) u,
        pattern_whole h n (41 ∷ u) (ends_at_parenthesis u)
            (omega (arith, length-append t (41 ∷ []))),
      )

-- what the grammar spells is read
pub read_whole : (t : Text) (p : Pattern) → Shapes t p → read t ≡ Some p
read_whole t p h =
    let whole : pattern_at (suc (length t)) t ≡ Some (p, []) =
    rw append-nil at (pattern_whole h (suc (length t)) [] ends_at_end (omega arith)) in
    rw whole

-- two trees of one text are one
pub one_tree : (t : Text) (p q : Pattern) → Shapes t p → Shapes t q → p ≡ q
one_tree t p q h k =
    let e = read_whole t p h in
    let f = read_whole t q k in
    cc

-- ---- texts that are no pattern, and texts that do not match

pub unread : (t : Text) → read t ≡ None → IsNoPattern t
unread t e p h = let f = read_whole t p h.shapes in absurd (cc (e, f))

pub beyond : (t : Text) (p : Pattern) → Shapes t p → (InProfile p → ⊥) → IsNoPattern t
beyond t p h k q of = k (subst InProfile (one_tree t q p of.shapes h) of.in_profile)

pub matched : (s t : Text) (p : Pattern) → Shapes t p → Matches s t → Member p s
matched s t p h (q, of, m) = let P : Pattern
    → Type 0 = λ r. Member r s in subst P (one_tree t q p of.shapes h) m

pub unmatched : (s t : Text) (p : Pattern) → Shapes t p → (Member p s → ⊥) → Matches s t → ⊥
unmatched s t p h k m = k (matched s t p h m)
