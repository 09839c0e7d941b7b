-- A pattern with each repetition written out, and what may follow each of its atoms.
use Rattle.std.specs.Prelude.{◌≡◌, ℕ, zero, suc, ◌+◌, ◌⊎◌, Bool, true, false, List, [], ◌∷◌, Contains}
use Rattle.std.specs.Prelude.{Some, None, IsTrue}
use Rattle.jp_pattern.specs.Pattern.{Text, CharSet, Pattern}
use Rattle.jp_pattern.specs.CharSets.{in_set}
use Rattle.jp_pattern.specs.Language.{Then, Repeated, Member}

-- A pattern without counts (RFC 9485, 4): `maybe` may be left out, and `plus` stands once and may be
-- repeated.
pub data Unrolled : Type 0 where
  nothing : Unrolled
  letter : CharSet → Unrolled
  seq : Unrolled → Unrolled → Unrolled
  either : Unrolled → Unrolled → Unrolled
  maybe : Unrolled → Unrolled
  plus : Unrolled → Unrolled

-- `{n,m}` is m copies; those past the n-th may be left out, each with all that follow it (RFC 9485, 4)
abbrev pub counted : ℕ → ℕ → Unrolled → Unrolled
counted least zero a = nothing
counted zero (suc most) a = maybe (seq a (counted zero most a))
counted (suc least) (suc most) a = seq a (counted least most a)

-- `{n,}` is n copies and one more, which may be left out or repeated (RFC 9485, 4)
abbrev pub counted_on : ℕ → Unrolled → Unrolled
counted_on zero a = maybe (plus a)
counted_on (suc least) a = seq a (counted_on least a)

-- the pattern with each repetition written out; `+` is one copy that may be repeated (RFC 9485, 8)
abbrev pub unrolled : Pattern → Unrolled
unrolled Pattern.empty = nothing
unrolled (Pattern.letter set) = letter set
unrolled (Pattern.group p) = unrolled p
unrolled (Pattern.seq p q) = seq (unrolled p) (unrolled q)
unrolled (Pattern.either p q) = either (unrolled p) (unrolled q)
unrolled (Pattern.repeat least None p) = counted_on least (unrolled p)
unrolled (Pattern.repeat least (Some most) p) = counted least most (unrolled p)
unrolled (Pattern.plus p) = plus (unrolled p)

-- the text is in the language of the pattern that was written out (RFC 9485, 4)
abbrev pub Has : Unrolled → Text → Type 0
Has nothing t = t ≡ []
Has (letter set) t = (c : ℕ) × (t ≡ c ∷ []) × IsTrue (in_set set c)
Has (seq a b) t = Then (Has a) (Has b) t
Has (either a b) t = Has a t ⊎ Has b t
Has (maybe a) t = (t ≡ []) ⊎ Has a t
Has (plus a) t = Repeated (Has a) 1 None t

-- how many atoms of one character there are
abbrev pub letters : Unrolled → ℕ
letters nothing = 0
letters (letter set) = 1
letters (seq a b) = letters a + letters b
letters (either a b) = letters a + letters b
letters (maybe a) = letters a
letters (plus a) = letters a

-- the text may follow where the k-th atom of one character, from the left and from 1, was just read
abbrev pub After : Unrolled → ℕ → Text → Type 0
After nothing k t = ⊥
After (letter set) k t = (k ≡ 1) × (t ≡ [])
After (seq a b) k t = Then (After a k) (Has b) t ⊎ ((j : ℕ) × (k ≡ letters a + j) × After b j t)
After (either a b) k t = After a k t ⊎ ((j : ℕ) × (k ≡ letters a + j) × After b j t)
After (maybe a) k t = After a k t
After (plus a) k t = Then (After a k) (Repeated (Has a) 0 None) t

-- The language of a position of the pattern, a number from 0 to the unrolled size: at position 0 nothing was
-- read yet, and at position k the k-th atom of one character was just read.
abbrev pub PositionHas : Pattern → ℕ → Text → Type 0
PositionHas p zero t = Member p t
PositionHas p (suc k) t = After (unrolled p) (suc k) t

-- position 0 where the flag is set, and these
abbrev pub all_positions : Bool → List ℕ → List ℕ
all_positions true positions = 0 ∷ positions
all_positions false positions = positions

-- the union of the languages of these positions
abbrev pub SomePositionHas : Pattern → List ℕ → Text → Type 0
SomePositionHas p positions t = (k : ℕ) × Contains positions k × PositionHas p k t
