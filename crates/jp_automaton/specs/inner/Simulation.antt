-- A working file, which nobody has to believe: one step of the simulation on a set of positions, as the code
-- walks it. No public contract names it.
use Rattle.std.specs.Prelude.{◌≡◌, ℕ, ◌+◌, ◌<◌, ◌≤◌, Bool, false, ◌&&◌, ◌||◌, ◌⊎◌, List, []}
use Rattle.std.specs.Prelude.{◌∷◌, ◌++◌, ⊤, nat_eq, nat_le, nat_lt, if◌then◌else◌, drop, length}
use Rattle.std.specs.Prelude.{slice_index_or}
use Rattle.std.specs.Coded.{×_prop, Unit-prop, le_prop}
use Rattle.jp_automaton.specs.declared.cursor.Cursor.{Cursor}
use Rattle.jp_automaton.specs.declared.expressions.Expression.{Expression}
use Rattle.jp_automaton.specs.Expressions.{branches_before}
use Rattle.jp_pattern.specs.Pattern.{CharSet}
use Rattle.jp_pattern.specs.CharSets.{in_set}
use Rattle.jp_pattern.specs.Unrolled.{Unrolled, nothing, letter, seq, either, maybe, plus, letters}

-- The positions lie behind off, and active tells which of them are in the set.
module _ (active : ℕ → Bool) where
  -- whether the end of the pattern is reached without reading: from its start where entered is set and it is
  -- nullable, or from an active position that is one of its last
  abbrev pub exits : Unrolled → ℕ → Bool → Bool
  exits nothing off entered = entered
  exits (letter set) off entered = active (off + 1)
  exits (seq a b) off entered = exits b (off + letters a) (exits a off entered)
  exits (either a b) off entered = exits a off entered || exits b (off + letters a) entered
  exits (maybe a) off entered = entered || exits a off entered
  exits (plus a) off entered = exits a off entered

  -- the positions that are read next by c, from the left
  abbrev pub step : ℕ → Unrolled → ℕ → Bool → List ℕ
  step c nothing off entered = []
  step c (letter set) off entered = if entered && in_set set c then (off + 1) ∷ [] else []
  step c (seq a b) off entered =
      step c a off entered ++ step c b (off + letters a) (exits a off entered)
  step c (either a b) off entered = step c a off entered ++ step c b (off + letters a) entered
  step c (maybe a) off entered = step c a off entered
  step c (plus a) off entered = step c a off (entered || exits a off false)

abbrev pub Elem : ℕ → List ℕ → Type 0
Elem x [] = ⊥
Elem x (y ∷ ys) = (x ≡ y) ⊎ Elem x ys

abbrev pub is_elem : List ℕ → ℕ → Bool
is_elem [] x = false
is_elem (y ∷ ys) x = nat_eq x y || is_elem ys x

-- each above the one before, from above low on
abbrev pub Rises : ℕ → List ℕ → Type 0
Rises low [] = ⊤
Rises low (x ∷ xs) = (low < x) × Rises x xs

pub Rises-prop : (low : ℕ) (xs : List ℕ) → IsProp (Rises low xs)
Rises-prop low [] = Unit-prop
Rises-prop low (x ∷ xs) = ×_prop le_prop (Rises-prop x xs)

-- these are the positions of the set behind past, from the left
pub record IsRest (positions : List ℕ) (past : ℕ) (rest : List ℕ) : Type 0 where
  pub rises : Rises past rest
  pub same : (k : ℕ) → past < k → is_elem positions k ≡ is_elem rest k

-- so many positions of the set do not lie behind past
abbrev pub IsAt : List ℕ → ℕ → ℕ → Type 0
IsAt positions past index = IsRest positions past (drop index positions)

-- the position at the index, if there is one, is no more than this
abbrev pub is_active_up_to : List ℕ → ℕ → ℕ → Bool
is_active_up_to positions index end =
    nat_lt index (length positions) && nat_le (slice_index_or positions index 0) end

-- the position of a set, where its start is reached and it holds the character
abbrev pub read_if : Bool → Cursor → List ℕ
read_if has at = if at.entered && has then (at.past + 1) ∷ [] else []

abbrev pub reads_set : CharSet → ℕ → Cursor → List ℕ
reads_set set c at = read_if (in_set set c) at

-- none of the next n positions is in the set
abbrev pub Inactive : (ℕ → Bool) → ℕ → ℕ → Type 0
Inactive active off n = (k : ℕ) → 0 < k → k ≤ n → active (off + k) ≡ false

-- where a walk over a pattern leads
pub record IsWalk (positions : List ℕ) (p : Unrolled) (old new : Cursor) : Type 0 where
  pub past : new.past ≡ old.past + letters p
  pub entered : new.entered ≡ exits (is_elem positions) p old.past old.entered
  pub stands : IsAt positions new.past new.index

-- the same, and which positions are read next by c
pub record IsStep (positions : List ℕ) (c : ℕ) (p : Unrolled) (old new : Cursor)
    (before after : List ℕ) : Type 0 where
  pub walk : IsWalk positions p old new
  pub reads : after ≡ before ++ step (is_elem positions) c p old.past old.entered

-- whatever has so many letters, a walk over it leads here, and nothing of it is read
pub record IsPassed (positions : List ℕ) (size : ℕ) (old new : Cursor) : Type 0 where
  pub walk : (p : Unrolled) → letters p ≡ size → IsWalk positions p old new
  pub reads : (p : Unrolled) (c : ℕ) → letters p ≡ size →
      step (is_elem positions) c p old.past old.entered ≡ []

abbrev pub or_entered : Bool → Cursor → Cursor
or_entered b at = record { past = at.past; index = at.index; entered = b || at.entered }

abbrev pub entered_as : Bool → Cursor → Cursor
entered_as b at = record { past = at.past; index = at.index; entered = b }

-- where a walk over branches leads that others follow
pub record IsWalkBefore (positions : List ℕ) (expressions : List Expression) (old new : Cursor) : Type 0 where
  pub past : new.past ≡ old.past + letters (branches_before expressions nothing)
  pub stands : IsAt positions new.past new.index
  pub leads : (q : Unrolled) (r : Cursor) → IsWalk positions q (entered_as old.entered new) r →
      IsWalk positions (branches_before expressions q) old (or_entered new.entered r)

-- the same, and which positions of them are read next by c
pub record IsStepBefore (positions : List ℕ) (c : ℕ) (expressions : List Expression) (old new : Cursor)
    (before after : List ℕ) : Type 0 where
  pub walk : IsWalkBefore positions expressions old new
  pub reads : (q : Unrolled) → after ++ step (is_elem positions) c q new.past old.entered
      ≡ before ++ step (is_elem positions) c (branches_before expressions q) old.past old.entered
