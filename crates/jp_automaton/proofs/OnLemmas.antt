-- `{n,}` is n copies and one more, which may be left out or repeated: what a walk over those comes to.
use Rattle.std.proofs.Common.{◌≡◌, ℕ, zero, suc, ◌+◌, Bool, ◌||◌, List, ◌++◌, sym, ap, ap₂, ◌∙◌}
use Rattle.std.proofs.Common.{arith, append_assoc}
use Rattle.jp_pattern.specs.Unrolled.{Unrolled, counted, counted_on, plus, letters}
use Rattle.jp_automaton.specs.declared.cursor.Cursor.{Cursor}
use Rattle.jp_automaton.specs.inner.Simulation.{exits, step, is_elem, IsWalk, IsStep, or_entered}

pub on_letters : (n : ℕ) (a : Unrolled) → letters (counted_on n a) ≡ letters (counted n n a) + letters a
on_letters zero a = omega arith
on_letters (suc n) a = let e = on_letters n a in omega (arith, e)

shifted : (off la lc : ℕ) → (off + la) + lc ≡ off + (la + lc)
shifted off la lc = omega arith

from_none : (off : ℕ) → off ≡ off + 0
from_none off = omega arith

on_exits : (active : ℕ → Bool) (n : ℕ) (a : Unrolled) (off : ℕ) (entered : Bool)
    → exits active (counted_on n a) off entered
    ≡ (exits active (counted n n a) off entered
    || exits active a (off + letters (counted n n a)) (exits active (counted n n a) off entered))
on_exits active zero a off entered = ap (λ o. entered || exits active a o entered) (from_none off)
on_exits active (suc n) a off entered =
    let b = exits active (counted n n a) (off + letters a) (exits active a off entered) in
    on_exits active n a (off + letters a) (exits active a off entered)
    ∙ ap (λ o. b || exits active a o b) (shifted off (letters a) (letters (counted n n a)))

on_step : (active : ℕ → Bool) (c n : ℕ) (a : Unrolled) (off : ℕ) (entered : Bool)
    → step active c (counted_on n a) off entered
    ≡ step active c (counted n n a) off entered
    ++ step active c (plus a) (off + letters (counted n n a)) (exits active (counted n n a) off entered)
on_step active c zero a off entered = ap (λ o. step active c (plus a) o entered) (from_none off)
on_step active c (suc n) a off entered =
    let e = exits active a off entered in
    let b = exits active (counted n n a) (off + letters a) e in
    ap (λ l. step active c a off entered ++ l)
    (on_step active c n a (off + letters a) e
    ∙ ap (λ o. step active c (counted n n a) (off + letters a) e ++ step active c (plus a) o b)
    (shifted off (letters a) (letters (counted n n a))))
    ∙ sym (append_assoc (step active c a off entered) _ _)

pub on_walk : (active : List ℕ) (n : ℕ) (a : Unrolled) (at here behind : Cursor)
    → IsWalk active (counted n n a) at here → IsWalk active a here behind
    → IsWalk active (counted_on n a) at (or_entered here.entered behind)
on_walk active n a at here behind w v = record {
  past = omega (arith, w.past, v.past, on_letters n a);
  entered = ap₂ (λ b c. b || c) w.entered
      (v.entered ∙ ap₂ (λ o b. exits (is_elem active) a o b) w.past w.entered)
      ∙ sym (on_exits (is_elem active) n a at.past at.entered);
  stands = v.stands;
}

pub on_reads : (active : List ℕ) (c n : ℕ) (a : Unrolled) (at here behind : Cursor)
    (before between after : List ℕ) → IsStep active c (counted n n a) at here before between
    → IsStep active c (plus a) here behind between after
    → after ≡ before ++ step (is_elem active) c (counted_on n a) at.past at.entered
on_reads active c n a at here behind before between after s t =
    t.reads
    ∙ ap₂ (λ l r. l ++ r) s.reads
    (ap₂ (λ o b. step (is_elem active) c (plus a) o b) s.walk.past s.walk.entered)
    ∙ append_assoc before _ _
    ∙ ap (λ l. before ++ l) (sym (on_step (is_elem active) c n a at.past at.entered))
