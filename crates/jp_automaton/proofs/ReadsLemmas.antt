-- The positions that a part reads next, from those of its parts.
use Rattle.std.proofs.Common.{◌≡◌, ℕ, ◌+◌, ◌-◌, ◌*◌, ◌≤◌, ◌<◌, false, List, [], ◌++◌, append_assoc}
use Rattle.std.proofs.Common.{append-nil, sym, ap, ap₂, ◌∙◌, subst, arith}
use Rattle.jp_automaton.specs.declared.cursor.Cursor.{Cursor}
use Rattle.jp_pattern.specs.Unrolled.{Unrolled, seq, either, counted, letters}
use Rattle.jp_automaton.specs.inner.Simulation.{step, is_elem, Inactive, IsStep}
use Rattle.jp_automaton.proofs.CopyLemmas.{counted-step, unread}

joined : (before here after rest : List ℕ) → after ≡ before ++ here → after ++ rest ≡ before ++ (here ++ rest)
joined before here after rest e = ap (λ xs. xs ++ rest) e ∙ append_assoc before here rest

module _ (positions : List ℕ) (c : ℕ) (fin : List ℕ) where
  pub end_reads : (o : List ℕ) → o ++ [] ≡ fin → o ≡ fin
  end_reads o e = sym (append-nil o) ∙ e

  pub passed_reads : (o rest : List ℕ) → o ++ rest ≡ fin → rest ≡ [] → o ≡ fin
  passed_reads o rest e none = end_reads o (ap (λ xs. o ++ xs) (sym none) ∙ e)

  module _ (a : Unrolled) (x y : Cursor) (o n : List ℕ) (stepped : IsStep positions c a x y o n) where
    pub seq_reads : (b : Unrolled) → o ++ step (is_elem positions) c (seq a b) x.past x.entered ≡ fin →
        n ++ step (is_elem positions) c b y.past y.entered ≡ fin
    seq_reads b kept =
        joined o (step (is_elem positions) c a x.past x.entered) n _ stepped.reads
        ∙ ap₂ (λ k e. o ++ (step (is_elem positions) c a x.past x.entered ++ step (is_elem positions) c b k
        e)) stepped.walk.past stepped.walk.entered
        ∙ kept

    pub either_reads : (b : Unrolled) → o ++ step (is_elem positions) c (either a b) x.past x.entered ≡ fin →
        n ++ step (is_elem positions) c b y.past x.entered ≡ fin
    either_reads b kept =
        joined o (step (is_elem positions) c a x.past x.entered) n _ stepped.reads
        ∙ ap (λ k. o ++ (step (is_elem positions) c a x.past x.entered ++ step (is_elem positions) c b k
        x.entered)) stepped.walk.past
        ∙ kept

    pub copy_reads : (least i most : ℕ) → i < most →
        o ++ step (is_elem positions) c (counted (least - i) (most - i) a) x.past x.entered ≡ fin →
        n ++ step (is_elem positions) c (counted (least - (i + 1)) (most - (i + 1)) a) y.past y.entered ≡ fin
    copy_reads least i most lt kept =
        seq_reads (counted (least - (i + 1)) (most - (i + 1)) a)
        (ap (λ xs. o ++ xs) (sym (counted-step a least i (is_elem positions) c x.past x.entered most lt))
        ∙ kept)

  module _ (a : Unrolled) (i n size least : ℕ) (x : Cursor) (o : List ℕ) (e : size ≡ letters a)
      (none : x.entered ≡ false)
      (inactive : Inactive (is_elem positions) x.past (n * size)) where
    inactive_letters : Inactive (is_elem positions) x.past (n * letters a)
    inactive_letters = subst (λ s. Inactive (is_elem positions) x.past (n * s)) e inactive

    pub skip_reads : (most : ℕ) → n ≤ most - i →
        o ++ step (is_elem positions) c (counted (least - i) (most - i) a) x.past x.entered ≡ fin →
        o ++ step (is_elem positions) c (counted (least - (i + n)) (most - (i + n)) a) (x.past + n * size)
        x.entered ≡ fin
    skip_reads most le kept =
        let f : least - (i + n) ≡ least - i - n = omega arith in
        let g : most - (i + n) ≡ most - i - n = omega arith in
        ap₂ (λ k m. o ++ step (is_elem positions) c (counted k m a) (x.past + n * size) x.entered) f g
        ∙ ap₂ (λ s b. o ++ step (is_elem positions) c (counted (least - i - n) (most - i - n) a)
        (x.past + n * s) b) e none
        ∙ ap (λ xs. o ++ xs) (sym (unread (is_elem positions) a c n (least - i) (most - i) x.past le
        inactive_letters))
        ∙ ap (λ b. o ++ step (is_elem positions) c (counted (least - i) (most - i) a) x.past b) (sym none)
        ∙ kept
