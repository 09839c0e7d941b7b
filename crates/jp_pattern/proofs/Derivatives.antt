-- Membership is decided by derivatives: what is left of a language once a character is read is the language
-- of a pattern.
use Rattle.std.proofs.Common.{◌≡◌, ℕ, zero, suc, ◌-◌, ◌≤◌, ◌⊎◌, ◌↔◌, Bool, true, false, ◌&&◌, ◌||◌, nat_le}
use Rattle.std.proofs.Common.{nat_eq, IsTrue, List, [], ◌∷◌, length, Option, Some, None, refl, sym, ap, subst}
use Rattle.std.proofs.Common.{inl, inr, ⊎_elim, arith, true≢false}
use Rattle.std.specs.List.{concat, AllByRecursion}
use Rattle.std.proofs.lemmas.Bool.{and_parts, and_from, or_cases, or_left, or_right, leb-true, le-leb}
use Rattle.std.proofs.lemmas.Bool.{eqb-true, eq-eqb}
use Rattle.jp_pattern.specs.Pattern.{Text, CharSet, Pattern, empty, letter, group, seq, either, repeat, plus}
use Rattle.jp_pattern.specs.CharSets.{is_scalar, in_set}
use Rattle.jp_pattern.specs.Language.{AtMost, Then, Member}
use Rattle.jp_pattern.proofs.PartLemmas.{then_read, read_then, empty_then, then_empty, repeated_read}
use Rattle.jp_pattern.proofs.PartLemmas.{read_repeated, repeated_read_on, read_repeated_on, repeated_none}

abbrev at_most : Option ℕ → ℕ → Bool
at_most None n = true
at_most (Some most) n = nat_le n most

-- the empty text is a member
abbrev pub nullable : Pattern → Bool
nullable empty = true
nullable (letter set) = false
nullable (group p) = nullable p
nullable (seq p q) = nullable p && nullable q
nullable (either p q) = nullable p || nullable q
nullable (repeat least most p) = at_most most least && (nat_eq least 0 || nullable p)
nullable (plus p) = nullable p

-- no text
abbrev never : Pattern
never = letter (CharSet.class false [])

-- the empty text alone, or no text
abbrev empty_if : Bool → Pattern
empty_if true = empty
empty_if false = never

-- p, and also q if the flag is set
abbrev either_if : Bool → Pattern → Pattern → Pattern
either_if true q p = either p q
either_if false q p = p

-- what may follow the character
abbrev pub derivative : Pattern → ℕ → Pattern
derivative empty c = never
derivative (letter set) c = empty_if (in_set set c)
derivative (group p) c = derivative p c
derivative (seq p q) c = either_if (nullable p) (derivative q c) (seq (derivative p c) q)
derivative (either p q) c = either (derivative p c) (derivative q c)
derivative (repeat least None p) c = seq (derivative p c) (repeat (least - 1) None p)
derivative (repeat least (Some zero) p) c = never
derivative (repeat least (Some (suc most)) p) c = seq (derivative p c) (repeat (least - 1) (Some most) p)
derivative (plus p) c = seq (derivative p c) (repeat 0 None p)

-- each character of the text in turn
abbrev pub decide : Pattern → Text → Bool
decide p [] = nullable p
decide p (c ∷ t) = decide (derivative p c) t

then_map : (X Z Y : Text → Type 0) (v : Text) → ((u : Text) → X u → Z u) → Then X Y v → Then Z Y v
then_map X Z Y v f (u, w, e, x, y) = (u, w, e, f u x, y)

none_in_never : (t : Text) → Member never t → ⊥
none_in_never t (c, e, h) = true≢false (sym (and_parts (is_scalar c) false h).1)

-- ---- the empty text

empties : (X : Text → Type 0) → X [] → (n : ℕ) → (parts : List Text) × AllByRecursion X parts
    × (length parts ≡ n) × ([] ≡ concat parts)
empties X x zero = ([], tt, refl, refl)
empties X x (suc n) = let r = empties X x n in ([] ∷ r.0, (x, r.1), ap suc r.2, r.3)

at_most_is : (most : Option ℕ) (n : ℕ) → at_most most n ≡ true → AtMost most n
at_most_is None n e = tt
at_most_is (Some most) n e = leb-true n most e

is_at_most : (most : Option ℕ) (m n : ℕ) → m ≤ n → AtMost most n → at_most most m ≡ true
is_at_most None m n le h = refl
is_at_most (Some most) m n le h = le-leb m most (omega arith)

zero_at_most : (most : Option ℕ) (n : ℕ) → AtMost most n → AtMost most 0
zero_at_most None n h = tt
zero_at_most (Some most) n h = omega arith

nullable_sound : (p : Pattern) → nullable p ≡ true → Member p []
nullable_sound empty e = refl
nullable_sound (letter set) e = absurd (true≢false (sym e))
nullable_sound (group p) e = nullable_sound p e
nullable_sound (seq p q) e =
    let both = and_parts (nullable p) (nullable q) e in
    ([], [], refl, nullable_sound p both.0, nullable_sound q both.1)
nullable_sound (either p q) e =
    ⊎_elim (λ h. inl (nullable_sound p h)) (λ h. inr (nullable_sound q h))
    (or_cases (nullable p) (nullable q) e)
nullable_sound (repeat least most p) e =
    let both = and_parts _ _ e in
    let high : AtMost most least = at_most_is most least both.0 in
    ⊎_elim
    (λ h. let z : least ≡ 0 = eqb-true least 0 h in ([], tt, omega arith, zero_at_most most least high, refl))
    (λ h. let r = empties (Member p) (nullable_sound p h) least in
    (r.0, r.1, omega (arith, r.2), subst (AtMost most) (sym r.2) high, r.3))
    (or_cases _ (nullable p) both.1)
nullable_sound (plus p) e = ([] ∷ [], (nullable_sound p e, tt), omega arith, tt, refl)

first_empty : (X : Text → Type 0) (least : ℕ) (parts : List Text) → AllByRecursion X parts
    → least ≤ length parts → [] ≡ concat parts →
    (least ≡ 0) ⊎ X []
first_empty X least [] all low e = inl (omega arith)
first_empty X least ([] ∷ parts) all low e = inr all.0
first_empty X least ((d ∷ u) ∷ parts) all low e = absurd cc

nullable_whole : (p : Pattern) → Member p [] → nullable p ≡ true
nullable_whole empty m = refl
nullable_whole (letter set) (c, e, h) = absurd cc
nullable_whole (group p) m = nullable_whole p m
nullable_whole (seq p q) m =
    let r = then_empty (Member p) (Member q) m in
    and_from _ _ (nullable_whole p r.0) (nullable_whole q r.1)
nullable_whole (either p q) m =
    ⊎_elim (λ h. or_left _ _ (nullable_whole p h)) (λ h. or_right _ _ (nullable_whole q h)) m
nullable_whole (repeat least most p) (parts, all, low, high, e) =
    and_from _ _ (is_at_most most least (length parts) low high)
    (⊎_elim (λ h. or_left _ _ (eq-eqb least 0 h)) (λ h. or_right _ _ (nullable_whole p h))
    (first_empty (Member p) least parts all low e))
nullable_whole (plus p) (parts, all, low, high, e) =
    ⊎_elim (λ h. absurd (omega arith)) (λ h. nullable_whole p h) (first_empty (Member p) 1 parts all low e)

-- ---- the derivative

empty_if_sound : (b : Bool) (v : Text) → Member (empty_if b) v → IsTrue b × (v ≡ [])
empty_if_sound true v m = (refl, m)
empty_if_sound false v m = absurd (none_in_never v m)

empty_if_whole : (b : Bool) (v : Text) → IsTrue b → v ≡ [] → Member (empty_if b) v
empty_if_whole true v h e = e
empty_if_whole false v h e = absurd (true≢false (sym h))

either_if_sound : (b : Bool) (q p : Pattern) (v : Text) → Member (either_if b q p) v → Member p v
    ⊎ (IsTrue b × Member q v)
either_if_sound true q p v m = ⊎_elim (λ h. inl h) (λ h. inr (refl, h)) m
either_if_sound false q p v m = inl m

either_if_whole : (b : Bool) (q p : Pattern) (v : Text) → Member p v ⊎ (IsTrue b × Member q v)
    → Member (either_if b q p) v
either_if_whole true q p v m = ⊎_elim (λ h. inl h) (λ h. inr h.1) m
either_if_whole false q p v m = ⊎_elim (λ h. h) (λ h. absurd (true≢false (sym h.0))) m

derivative_sound : (p : Pattern) (c : ℕ) (v : Text) → Member (derivative p c) v → Member p (c ∷ v)
derivative_sound empty c v m = absurd (none_in_never v m)
derivative_sound (letter set) c v m =
    let r = empty_if_sound (in_set set c) v m in (c, ap (λ t. c ∷ t) r.1, r.0)
derivative_sound (group p) c v m = derivative_sound p c v m
derivative_sound (seq p q) c v m =
    ⊎_elim
    (λ h. read_then (Member p) (Member q) c v (then_map _ _ _ v (λ u. derivative_sound p c u) h))
    (λ h. empty_then (Member p) (Member q) (c ∷ v) (nullable_sound p h.0) (derivative_sound q c v h.1))
    (either_if_sound (nullable p) (derivative q c) (seq (derivative p c) q) v m)
derivative_sound (either p q) c v m = ⊎_elim (λ h. inl (derivative_sound p c v h))
    (λ h. inr (derivative_sound q c v h)) m
derivative_sound (repeat least None p) c v m =
    read_repeated_on (Member p) c v least (then_map _ _ _ v (λ u. derivative_sound p c u) m)
derivative_sound (repeat least (Some zero) p) c v m = absurd (none_in_never v m)
derivative_sound (repeat least (Some (suc most)) p) c v m =
    read_repeated (Member p) c v least most (then_map _ _ _ v (λ u. derivative_sound p c u) m)
derivative_sound (plus p) c v m =
    read_repeated_on (Member p) c v 1 (then_map _ _ _ v (λ u. derivative_sound p c u) m)

derivative_whole : (p : Pattern) (c : ℕ) (v : Text) → Member p (c ∷ v) → Member (derivative p c) v
derivative_whole empty c v m = absurd cc
derivative_whole (letter set) c v (d, e, h) =
    let same : d ≡ c = cc in
    let rest : v ≡ [] = cc in
    empty_if_whole (in_set set c) v (subst (λ k. IsTrue (in_set set k)) same h) rest
derivative_whole (group p) c v m = derivative_whole p c v m
derivative_whole (seq p q) c v m =
    either_if_whole (nullable p) (derivative q c) (seq (derivative p c) q) v
    (⊎_elim
    (λ h. inl (then_map _ _ _ v (λ u. derivative_whole p c u) h))
    (λ h. inr (nullable_whole p h.0, derivative_whole q c v h.1))
    (then_read (Member p) (Member q) c v m))
derivative_whole (either p q) c v m = ⊎_elim (λ h. inl (derivative_whole p c v h))
    (λ h. inr (derivative_whole q c v h)) m
derivative_whole (repeat least None p) c v m =
    then_map _ _ _ v (λ u. derivative_whole p c u) (repeated_read_on (Member p) c v least m)
derivative_whole (repeat least (Some zero) p) c v m = absurd (repeated_none (Member p) c v least m)
derivative_whole (repeat least (Some (suc most)) p) c v m =
    then_map _ _ _ v (λ u. derivative_whole p c u) (repeated_read (Member p) c v least most m)
derivative_whole (plus p) c v m = then_map _ _ _ v (λ u. derivative_whole p c u)
    (repeated_read_on (Member p) c v 1 m)

-- ---- membership

decide_sound : (p : Pattern) (t : Text) → decide p t ≡ true → Member p t
decide_sound p [] e = nullable_sound p e
decide_sound p (c ∷ t) e = derivative_sound p c t (decide_sound (derivative p c) t e)

decide_whole : (p : Pattern) (t : Text) → Member p t → decide p t ≡ true
decide_whole p [] m = nullable_whole p m
decide_whole p (c ∷ t) m = decide_whole (derivative p c) t (derivative_whole p c t m)

pub decided : (p : Pattern) (t : Text) → IsTrue (decide p t) ↔ Member p t
decided p t = (decide_sound p t, decide_whole p t)
