-- The states of a DFA, and its cells.
use Rattle.std.proofs.Common.{◌≡◌, ℕ, ◌+◌, ◌*◌, ◌<◌, ◌≤◌, ◌⊎◌, Bool, true, false, nat_lt, IsTrue}
use Rattle.std.proofs.Common.{List, [], ◌∷◌, ◌++◌, length, slice_index_or, inl, inr, refl, sym, ap, ◌∙◌}
use Rattle.std.proofs.Common.{subst}
use Rattle.std.proofs.Common.{arith, length-append}
use Rattle.std.proofs.lemmas.Grind.{get_or_default_zero}
use Rattle.std.proofs.lemmas.Bool.{cases_lt, lt-ltb, or_left}
use Rattle.std.proofs.Math.ListN.{get_or-append, get_or-eq_default}
use Rattle.std.proofs.Math.Seq.{get_or-append_seam}
use Rattle.jp_automaton.specs.declared.dfa.State.{State}
use Rattle.jp_automaton.specs.declared.candidate.Candidate.{Candidate}
use Rattle.jp_automaton.specs.declared.candidate.Candidate.TheVariants as candidate
use Rattle.jp_automaton.specs.inner.Equivalence.{Equivalent, AreOf}
use Rattle.jp_pattern.specs.CharSets.{is_scalar}
use Rattle.jp_automaton.specs.inner.Dfa.{AreStates, Follows, Grows, HasPositions, IsCell, IsCellOf, IsState}
use Rattle.jp_automaton.specs.inner.Dfa.{IsDfaOf}
use Rattle.jp_automaton.specs.inner.Dfa.{cell_at, next_positions}
use Rattle.jp_pattern.specs.Unrolled.{Unrolled}
use Rattle.jp_automaton.specs.inner.Simulation.{step, is_elem, exits, Rises}
use Rattle.jp_automaton.specs.declared.cursor.Cursor.{Cursor}
use Rattle.jp_automaton.proofs.SetLemmas.{step_rises}

-- a number that was read of a list
pub first_is : (xs : List ℕ) (i x n : ℕ) → i < length xs → x ≡ slice_index_or xs i x → n ≡ x → n ≡
    slice_index_or xs i 0
first_is xs i x n lt e f = f ∙ e ∙ get_or_default_zero xs i x lt

ascii_scalar : (c : ℕ) → c < 128 → IsTrue (is_scalar c)
ascii_scalar c lt = or_left (nat_lt c 0xd800) _ (lt-ltb c 0xd800 (omega arith))

module _ (p : Unrolled) where
  -- a state of these positions
  pub state_with : (s : State) (active : List ℕ) → Rises 0 active → s.active.items ≡ active →
      s.accepts ≡ exits (is_elem active) p 0 s.at_start → IsState p s
  state_with s active up e a =
      record {
        rises = subst (Rises 0) (sym e) up;
        accepts = a ∙ ap
            (λ xs. exits (is_elem xs) p 0 s.at_start) (sym e);
      }

  pub grows_more : (states new : List State) (s : State) → 0 < length states → AreStates p states → IsState p
      s → (s.at_start ≡ true → s.accepts ≡ false) →
      new ≡ states ++ s ∷ [] → Grows p states new
  grows_more states new s some of one no_match e = subst (Grows p states) (sym e) more where
    here : (i : ℕ) (d : State) → i < length states + 1 → (i < length states) ⊎ (length states ≤ i) →
        IsState p (slice_index_or (states ++ s ∷ []) i d)
    here i d h (inl lt) = subst (IsState p) (sym (get_or-append states (s ∷ []) d i lt)) (of.each i d lt)
    here i d h (inr ge) =
        let at : length states ≡ i = omega arith in
        subst (λ n. IsState p (slice_index_or (states ++ s ∷ []) n d)) at
        (subst (IsState p) (sym (get_or-append_seam states s [] d)) one)

    HasNoMatch : State → Type 0
    HasNoMatch d = d.at_start ≡ true → d.accepts ≡ false

    no_match_here : (i : ℕ) (d : State) → 0 < i → i < length states + 1 →
        (i < length states) ⊎ (length states ≤ i) → HasNoMatch (slice_index_or (states ++ s ∷ []) i d)
    no_match_here i d past h (inl lt) =
        subst HasNoMatch (sym (get_or-append states (s ∷ []) d i lt)) (of.no_match i d past lt)
    no_match_here i d past h (inr ge) =
        let at : length states ≡ i = omega arith in
        subst (λ n. HasNoMatch (slice_index_or (states ++ s ∷ []) n d)) at
        (subst HasNoMatch (sym (get_or-append_seam states s [] d)) no_match)

    more : Grows p states (states ++ s ∷ [])
    more = record {
      states = record {
        each = λ i d lt. here i d (omega (arith, length-append states (s ∷ []))) (cases_lt i (length states));
        no_match = λ i d past lt. no_match_here i d past (omega (arith, length-append states (s ∷ [])))
            (cases_lt i (length states));
        first = λ d lt. subst (λ t. HasPositions t [] true) (sym (get_or-append states (s ∷ []) d 0 some))
            (of.first d some);
      };
      longer = omega (arith, length-append states (s ∷ []));
      same = λ i d lt. get_or-append states (s ∷ []) d i lt;
    }

  module _ (unanchored : Bool) where
    cell_kept : (states new : List State) → Grows p states new → (i column v : ℕ) → i < length states →
        IsCellOf p unanchored states i column v → IsCellOf p unanchored new i column v
    cell_kept states new grows i column v lt of c scalar is =
        let old = of c scalar is in
        record {
          within = λ e. omega (arith, old.within e, grows.longer);
          follows = λ s t e.
              subst (λ from. Follows p unanchored from c (slice_index_or new v t)) (sym (grows.same i s lt))
              (subst (λ to. Follows p unanchored (slice_index_or states i s) c to)
              (sym (grows.same v t (old.within e)))
              (old.follows s t e));
          found = λ s e a. subst (λ from. exits (is_elem (next_positions p from c)) p 0 true ≡ true)
              (sym (grows.same i s lt)) (old.found s e a);
          dead = λ s e a. subst (λ from. next_positions p from c ≡ []) (sym (grows.same i s lt))
              (old.dead s e a);
        }

    pub empty_cell : (states : List State) (i column v : ℕ) → v ≡ 255 →
        IsCellOf p unanchored states i column v
    empty_cell states i column v z c scalar is =
        record {
          within = λ e. absurd (omega arith);
          follows = λ s t e. absurd (omega arith);
          found = λ s e a. absurd (omega arith);
          dead = λ s e a. absurd (omega arith);
        }

    -- the cell of a character is that of each that is like it
    pub cell_equivalent : (states : List State) (i v : ℕ) (candidate : Candidate) → Equivalent p candidate →
        (c d : ℕ) → AreOf
        candidate c d →
        IsCell p unanchored states i c v → IsCell p unanchored states i d v
    cell_equivalent states i v candidate equivalent c d are of =
        let same : (s : State) → next_positions p (slice_index_or states i s) c
        ≡ next_positions p (slice_index_or states i s) d =
        λ s. equivalent.reads c d are (is_elem (slice_index_or states i s).active.items) 0
        (slice_index_or states i s).at_start in
        record {
          within = of.within;
          follows = λ s t e.
              subst (λ active. HasPositions (slice_index_or states v t) active unanchored) (same s)
              (of.follows s t e);
          found = λ s e a. ap (λ active. exits (is_elem active) p 0 true) (sym (same s)) ∙ of.found s e a;
          dead = λ s e a. sym (same s) ∙ of.dead s e a;
        }

    -- the column of a character of ASCII is its own
    pub cell_ascii : (states : List State) (i v code column : ℕ) → code ≡ column → column < 128 → IsCell p
        unanchored states i code v →
        IsCellOf p unanchored states i column v
    cell_ascii states i v code column e lt of c scalar (inl h) =
        subst (λ n. IsCell p unanchored states i n v) (e ∙ h.1) of
    cell_ascii states i v code column e lt of c scalar (inr h) = absurd (omega arith)

    -- the column of a character that is like another of ASCII
    pub cell_first : (states : List State) (i v first column : ℕ) → column < 128 → first < column →
        Equivalent p (candidate.Both first column) → IsCellOf p unanchored states i first v →
        IsCellOf p unanchored states i
        column v
    cell_first states i v first column lt below equivalent of =
        let low : first < 128 = omega arith in
        let one : IsCell p unanchored states i first v = of first (ascii_scalar first low)
        (inl (low, refl)) in
        cell_ascii states i v column column refl lt
        (cell_equivalent states i v (candidate.Both first column) equivalent first column (refl, refl) one)

    -- the columns of all others
    pub cell_past : (states : List State) (i v column : ℕ) → 192 ≤ column → Equivalent p candidate.PastAscii →
        IsCell p unanchored states i 128 v → IsCellOf p unanchored states i column v
    cell_past states i v column e equivalent of c scalar (inl h) = absurd (omega arith)
    cell_past states i v column e equivalent of c scalar (inr h) =
        cell_equivalent states i v candidate.PastAscii equivalent 128 c (refl, h.0, scalar) of

    -- each of them has the cell of the first
    pub cell_later : (states : List State) (i v column : ℕ) → 192 ≤ column →
        IsCellOf p unanchored states i 192 v → IsCellOf p unanchored states i column v
    cell_later states i v column e of c scalar (inl h) = absurd (omega arith)
    cell_later states i v column e of c scalar (inr h) = of c scalar (inr (h.0, omega arith))

    module _ (states new : List State) (cells after : List ℕ) (from column v : ℕ)
        (known : from < length states)
        (next : length cells ≡ from * 256 + column) (grows : Grows p states new)
        (dfa : IsDfaOf p unanchored states cells)
        (one : IsCellOf p unanchored new from column v)
        (stay : 128 ≤ column → column < 192 → v ≡ from) (in_row : column < 256) where
      cell_here : (i k : ℕ) → i < length new → k < 256 →
          (i * 256 + k < length cells) ⊎ (length cells ≤ i * 256 + k) → IsCellOf p unanchored new i k
          (cell_at (cells ++ v ∷ []) i k)
      cell_here i k lt lo (inl h) =
          let old : i < length states = omega arith in
          subst (IsCellOf p unanchored new i k) (sym (get_or-append cells (v ∷ []) 255 (i * 256 + k) h))
          (cell_kept states new grows i k (cell_at cells i k) old (dfa.cell i k old lo))
      cell_here i k lt lo (inr h) = last (cases_lt (from * 256 + column) (i * 256 + k)) where
        last : (from * 256 + column < i * 256 + k) ⊎ (i * 256 + k ≤ from * 256 + column) →
            IsCellOf p unanchored new i k (cell_at (cells ++ v ∷ []) i k)
        last (inl past) =
            let end : length (cells ++ v ∷ []) ≤ i * 256 + k = omega (arith, length-append cells (v ∷ [])) in
            empty_cell new i k _ (get_or-eq_default (cells ++ v ∷ []) 255 end)
        last (inr up) =
            let row : from ≡ i = omega arith in
            let same : column ≡ k = omega arith in
            let at : length cells ≡ i * 256 + k = omega arith in
            subst (λ n. IsCellOf p unanchored new i k (slice_index_or (cells ++ v ∷ []) n 255)) at
            (subst (IsCellOf p unanchored new i k) (sym (get_or-append_seam cells v [] 255))
            (subst (λ n. IsCellOf p unanchored new n k v) row
            (subst (λ n. IsCellOf p unanchored new from n v) same one)))

      stay_here : (i k : ℕ) → i * 256 + k < length cells + 1 → 128 ≤ k → k < 192 →
          (i * 256 + k < length cells) ⊎ (length cells ≤ i * 256 + k) → cell_at (cells ++ v ∷ []) i k ≡ i
      stay_here i k lt low high (inl h) =
          get_or-append cells (v ∷ []) 255 (i * 256 + k) h ∙ dfa.stays i k h low high
      stay_here i k lt low high (inr h) =
          let row : from ≡ i = omega arith in
          let same : column ≡ k = omega arith in
          let at : length cells ≡ i * 256 + k = omega arith in
          subst (λ n. slice_index_or (cells ++ v ∷ []) n 255 ≡ i) at
          (get_or-append_seam cells v [] 255 ∙ stay (omega arith) (omega arith) ∙ row)

      pub dfa_more : length new ≤ 254 → after ≡ cells ++ v ∷ [] → IsDfaOf p unanchored new after
      dfa_more few e = subst (IsDfaOf p unanchored new) (sym e) (record {
        known = grows.states;
        few = few;
        cell = λ i k lt lo. cell_here i k lt lo (cases_lt (i * 256 + k) (length cells));
        stays = λ i k lt low high. stay_here i k (omega (arith, length-append cells (v ∷ []))) low high
            (cases_lt (i * 256 + k) (length cells));
      })

-- the positions behind a character rise
pub reads_rises : (p : Unrolled) (c : ℕ) (positions before after : List ℕ) (at : Cursor) →
    before ≡ [] → at.past
    ≡ 0 →
    after ≡ before ++ step (is_elem positions) c p at.past at.entered → Rises 0 after
reads_rises p c positions before after at none first e =
    subst (Rises 0) (sym (e ∙ ap (λ xs. xs ++ step (is_elem positions) c p at.past at.entered) none))
    (subst (λ n. Rises n (step (is_elem positions) c p at.past at.entered)) first
    (step_rises (is_elem positions) c p at.past at.entered))
