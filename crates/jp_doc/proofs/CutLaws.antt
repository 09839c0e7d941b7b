-- Where bytes are cut into lines.
use Rattle.std.proofs.Common.{◌≡◌, ℕ, zero, suc, ◌+◌, ◌<◌, ◌≤◌, Bool, true, false, not, ◌||◌, ◌==◌, cond}
use Rattle.std.proofs.Common.{List, [], ◌∷◌, ◌++◌, refl, sym, ◌∙◌, ap, take, drop, length, slice_index, arith}
use Rattle.std.proofs.Common.{append_assoc, eqb-true, if◌then◌else◌}
use Rattle.jp_doc.specs.Feeding.{Cut, onto_cut, cut, has_line_feed, numbered, last_line}
use Rattle.jp_doc.specs.Lines.{Line, all_lines, onto_first, is_blank}

false_from : (b : Bool) → (b ≡ true → ⊥) → b ≡ false
false_from true h = absurd (h refl)
false_from false h = refl

-- neither of two tests holds
neither : (a b : Bool) → (a || b) ≡ false → (a ≡ false) × (b ≡ false)
neither true b h = absurd (cc)
neither false b h = (refl, h)

pub cut_open : (xs : List ℕ) → has_line_feed xs ≡ false → cut xs ≡ record { ended = []; open_line = xs }
cut_open [] h = refl
cut_open (x ∷ xs) h =
    let parts = neither (x == 10) (has_line_feed xs) h in
    rw (parts.0, cut_open xs parts.1) refl

pub cut_first : (xs ys : List ℕ) → has_line_feed xs ≡ false
    → cut (xs ++ 10 ∷ ys) ≡ record { ended = xs ∷ (cut ys).ended; open_line = (cut ys).open_line }
cut_first [] ys h = refl
cut_first (x ∷ xs) ys h =
    let parts = neither (x == 10) (has_line_feed xs) h in
    rw (parts.0, cut_first xs ys parts.1) refl

pub none_here : (xs : List ℕ) → ((k : ℕ) → 0 ≤ k → k < length xs → (slice_index xs k == 10) ≡ true → ⊥)
    → has_line_feed xs ≡ false
none_here [] h = refl
none_here (x ∷ xs) h =
    rw (false_from (x == 10) (h 0 (omega arith) (omega arith)))
    (none_here xs (λ k p q e. h (suc k) (omega arith) (omega arith) e))

-- the first line feed stands at k
pub first_here : (xs : List ℕ) (k : ℕ) → k < length xs
    → ((j : ℕ) → 0 ≤ j → j < k → (slice_index xs j == 10) ≡ true → ⊥) → (slice_index xs k == 10) ≡ true
    → (xs ≡ take k xs ++ 10 ∷ drop 1 (drop k xs)) × (has_line_feed (take k xs) ≡ false)
first_here [] k low h e = absurd (omega (arith, low))
first_here (x ∷ xs) zero low h e = (ap (λ b. b ∷ xs) (eqb-true x 10 e), refl)
first_here (x ∷ xs) (suc k) low h e =
    let parts = first_here xs k (omega arith) (λ j p q e. h (suc j) (omega arith) (omega arith) e) e in
    (ap (λ l. x ∷ l) parts.0, rw (false_from (x == 10) (h 0 (omega arith) (omega arith))) parts.1)

pub feedless_both : (xs ys : List ℕ) → has_line_feed xs ≡ false → has_line_feed ys ≡ false
    → has_line_feed (xs ++ ys) ≡ false
feedless_both [] ys h k = k
feedless_both (x ∷ xs) ys h k =
    let parts = neither (x == 10) (has_line_feed xs) h in
    rw parts.0 (feedless_both xs ys parts.1 k)

open_onto : (x : ℕ) (lines : List (List ℕ)) (rest : List ℕ) → (x == 10) ≡ false → has_line_feed rest ≡ false
    → has_line_feed (onto_cut x lines rest).open_line ≡ false
open_onto x [] rest e h = rw e h
open_onto x (line ∷ lines) rest e h = h

open_if : (t : Bool) (x : ℕ) (c : Cut) → (x == 10) ≡ t → has_line_feed c.open_line ≡ false
    → has_line_feed (if t then record { ended = [] ∷ c.ended; open_line = c.open_line } else onto_cut x
    c.ended c.open_line).open_line ≡ false
open_if true x c e h = h
open_if false x c e h = open_onto x c.ended c.open_line e h

-- what is left open holds no line feed
pub open_feedless : (xs : List ℕ) → has_line_feed (cut xs).open_line ≡ false
open_feedless [] = refl
open_feedless (x ∷ xs) = open_if (x == 10) x (cut xs) refl (open_feedless xs)

both_onto : (x : ℕ) (lines : List (List ℕ)) (rest ys : List ℕ) → (x == 10) ≡ false
    → onto_cut x (lines ++ (cut (rest ++ ys)).ended) (cut (rest ++ ys)).open_line
    ≡ record {
      ended = (onto_cut x lines rest).ended ++ (cut ((onto_cut x lines rest).open_line ++ ys)).ended;
      open_line = (cut ((onto_cut x lines rest).open_line ++ ys)).open_line;
    }
both_onto x [] rest ys e = rw e refl
both_onto x (line ∷ lines) rest ys e = refl

both_if : (t : Bool) (x : ℕ) (c : Cut) (ys : List ℕ) → (x == 10) ≡ t
    → (if t then record {
      ended = [] ∷ (c.ended ++ (cut (c.open_line ++ ys)).ended);
      open_line =
          (cut (c.open_line ++ ys)).open_line;
    }
    else onto_cut x (c.ended ++ (cut (c.open_line ++ ys)).ended) (cut (c.open_line ++ ys)).open_line)
    ≡ (let p : Cut = if t then record { ended = [] ∷ c.ended; open_line = c.open_line } else onto_cut x
    c.ended c.open_line in
    record {
      ended = p.ended ++ (cut (p.open_line ++ ys)).ended;
      open_line =
          (cut (p.open_line ++ ys)).open_line;
    })
both_if true x c ys e = refl
both_if false x c ys e = both_onto x c.ended c.open_line ys e

-- bytes are cut alike in one piece and in two
pub cut_both : (xs ys : List ℕ) → cut (xs ++ ys)
    ≡ record {
      ended = (cut xs).ended ++ (cut ((cut xs).open_line ++ ys)).ended;
      open_line =
          (cut ((cut xs).open_line ++ ys)).open_line;
    }
cut_both [] ys = refl
cut_both (x ∷ xs) ys = rw (cut_both xs ys) (both_if (x == 10) x (cut xs) ys refl)

lines_onto : (x : ℕ) (lines : List (List ℕ)) (rest : List ℕ) → onto_first x (lines ++ last_line rest)
    ≡ (onto_cut x lines rest).ended ++ last_line (onto_cut x lines rest).open_line
lines_onto x [] [] = refl
lines_onto x [] (b ∷ bs) = refl
lines_onto x (line ∷ lines) rest = refl

lines_if : (t : Bool) (x : ℕ) (c : Cut)
    → (if t then [] ∷ (c.ended ++ last_line c.open_line) else onto_first x (c.ended ++ last_line c.open_line))
    ≡ (let p : Cut = if t then record { ended = [] ∷ c.ended; open_line = c.open_line } else onto_cut x
    c.ended c.open_line in p.ended ++ last_line p.open_line)
lines_if true x c = refl
lines_if false x c = lines_onto x c.ended c.open_line

-- the lines are those that end, and then the open one
pub lines_cut : (xs : List ℕ) → all_lines xs ≡ (cut xs).ended ++ last_line (cut xs).open_line
lines_cut [] = refl
lines_cut (x ∷ xs) = rw (lines_cut xs) (lines_if (x == 10) x (cut xs))

pub lines_open : (xs : List ℕ) → has_line_feed xs ≡ false → all_lines xs ≡ last_line xs
lines_open xs h = lines_cut xs ∙ ap (λ (c : Cut). c.ended ++ last_line c.open_line) (cut_open xs h)

pub lines_both : (xs ys : List ℕ) → all_lines (xs ++ ys) ≡ (cut xs).ended ++ all_lines
    ((cut xs).open_line ++ ys)
lines_both xs ys =
    lines_cut (xs ++ ys) ∙ ap (λ (c : Cut). c.ended ++ last_line c.open_line) (cut_both xs ys)
    ∙ append_assoc (cut xs).ended (cut ((cut xs).open_line ++ ys)).ended
    (last_line (cut ((cut xs).open_line ++ ys)).open_line)
    ∙ ap (λ l. (cut xs).ended ++ l) (sym (lines_cut ((cut xs).open_line ++ ys)))

-- numbers

first_if : (t : Bool) (x : Line) (more : List Line) → cond t (x ∷ more) more ≡ cond t (x ∷ []) [] ++ more
first_if true x more = refl
first_if false x more = refl

pub numbered_first : (n : ℕ) (line : List ℕ) (lines : List (List ℕ)) → numbered n (line ∷ lines)
    ≡ numbered n (line ∷ []) ++ numbered (n + 1) lines
numbered_first n line lines = first_if (not (is_blank line)) (n, line) (numbered (n + 1) lines)

pub numbered_both : (n m : ℕ) (lines more : List (List ℕ)) → m ≡ n + length lines → numbered n (lines ++ more)
    ≡ numbered n lines ++ numbered m more
numbered_both n m [] more e = ap (λ k. numbered k more) {x = n} {y = m} (omega arith)
numbered_both n m (line ∷ lines) more e =
    numbered_first n line (lines ++ more)
    ∙ ap (λ r. numbered n (line ∷ []) ++ r) (numbered_both (n + 1) m lines more (omega arith))
    ∙ sym (append_assoc (numbered n (line ∷ [])) (numbered (n + 1) lines) (numbered m more))
    ∙ ap (λ r. r ++ numbered m more) (sym (numbered_first n line lines))
