-- Parts that no walk enters and that have no active position, and positions outside a part.
use Rattle.std.proofs.Common.{◌≡◌, ℕ, ◌+◌, ◌≤◌, Bool, true, false, ◌||◌, [], ◌++◌, refl, ap, ap₂, ◌∙◌, subst}
use Rattle.std.proofs.Common.{arith}
use Rattle.jp_pattern.specs.Unrolled.{Unrolled, nothing, letter, seq, either, maybe, plus, letters}
use Rattle.jp_automaton.specs.inner.Simulation.{exits, step, Inactive}

inactive_front : (active : ℕ → Bool) (off m n : ℕ) → m ≤ n → Inactive active off n → Inactive active off m
inactive_front active off m n le h k low high = h k low (omega arith)

inactive_back : (active : ℕ → Bool) (off m n : ℕ) → Inactive active off (m + n) → Inactive active (off + m) n
inactive_back active off m n h k low high =
    let e : off + (m + k) ≡ (off + m) + k = omega arith in
    subst (λ x. active x ≡ false) e (h (m + k) (omega arith) (omega arith))

pub inactive_exits : (active : ℕ → Bool) (p : Unrolled) (off : ℕ) → Inactive active off (letters p)
    → exits active p off false ≡ false
inactive_exits active nothing off h = refl
inactive_exits active (letter set) off h = h 1 (omega arith) (omega arith)
inactive_exits active (seq a b) off h =
    let first = inactive_exits active a off (inactive_front active off (letters a)
    (letters a + letters b) (omega arith)
    h) in
    ap (λ e. exits active b (off + letters a) e) first
    ∙ inactive_exits active b (off + letters a) (inactive_back active off (letters a) (letters b) h)
inactive_exits active (either a b) off h =
    ap₂ (λ x y. x || y) (inactive_exits active a off
    (inactive_front active off (letters a) (letters a + letters b)
    (omega arith) h)) (inactive_exits active b (off + letters a)
    (inactive_back active off (letters a) (letters b) h))
inactive_exits active (maybe a) off h = inactive_exits active a off h
inactive_exits active (plus a) off h = inactive_exits active a off h

pub inactive_step : (active : ℕ → Bool) (c : ℕ) (p : Unrolled) (off : ℕ) → Inactive active off (letters p)
    → step active c p off false ≡ []
inactive_step active c nothing off h = refl
inactive_step active c (letter set) off h = refl
inactive_step active c (seq a b) off h =
    let front = inactive_front active off (letters a) (letters a + letters b) (omega arith) h in
    let back = inactive_back active off (letters a) (letters b) h in
    ap₂ (λ x y. x ++ y) (inactive_step active c a off front) (ap (λ e. step active c b (off + letters a) e)
    (inactive_exits active a off front) ∙ inactive_step active c b (off + letters a) back)
inactive_step active c (either a b) off h =
    ap₂ (λ x y. x ++ y) (inactive_step active c a off
    (inactive_front active off (letters a) (letters a + letters b)
    (omega arith) h)) (inactive_step active c b (off + letters a)
    (inactive_back active off (letters a) (letters b)
    h))
inactive_step active c (maybe a) off h = inactive_step active c a off h
inactive_step active c (plus a) off h = ap (λ e. step active c a off e) (inactive_exits active a off h)
    ∙ inactive_step active c a off h

-- a part without letters changes nothing
or_self : (b : Bool) → (b || b) ≡ b
or_self true = refl
or_self false = refl

pub none_exits : (active : ℕ → Bool) (p : Unrolled) (off : ℕ) (entered : Bool) → letters p ≡ 0
    → exits active p off entered ≡ entered
none_exits active nothing off entered e = refl
none_exits active (letter set) off entered e = absurd (omega arith)
none_exits active (seq a b) off entered e =
    ap (λ x. exits active b (off + letters a) x) (none_exits active a off entered (omega arith))
    ∙ none_exits active b (off + letters a) entered (omega arith)
none_exits active (either a b) off entered e =
    ap₂ (λ x y. x || y) (none_exits active a off entered (omega arith))
    (none_exits active b (off + letters a) entered (omega arith)) ∙ or_self entered
none_exits active (maybe a) off entered e = ap (λ x. entered || x) (none_exits active a off entered e)
    ∙ or_self entered
none_exits active (plus a) off entered e = none_exits active a off entered e
