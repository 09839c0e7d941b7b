-- What is kept of nodes that are found.
use Rattle.std.specs.Prelude.{ℕ, ◌+◌, Bool, true, false, Option, Some, None, option_map}
use Rattle.std.specs.Prelude.{List, [], ◌∷◌, ◌++◌, map}
use Rattle.std.specs.List.{fold}
use Rattle.jp_doc.specs.Json.{Json}
use Rattle.jp_doc.specs.Location.{Node, Location}
use Rattle.jp_compiled.specs.declared.query.Want.{Want}
use Rattle.jp_compiled.specs.declared.query.Want.TheVariants as want
use Rattle.jp_node.specs.Part.{part_value}
use Rattle.jp_found.specs.Ways.{way_location}
use Rattle.jp_found.specs.declared.found.Found.{Found}
use Rattle.jp_found.specs.declared.found.Found.TheVariants.{Visitor, First, Count, Only, Distinct}
use Rattle.jp_found.specs.declared.found.Alone as code
use Rattle.jp_found.specs.declared.found.Alone.TheVariants as code_alone

-- no value, one alone, or several
pub data Alone : Type 0 where
  none : Alone
  one : Json → Alone
  several : Alone

abbrev pub alone_of : code.Alone → Alone
alone_of code_alone.None = none
alone_of (code_alone.One p) = one (part_value p)
alone_of code_alone.Several = several

abbrev pub put_alone : Alone → Json → Alone
put_alone none v = one v
put_alone (one w) v = several
put_alone several v = several

abbrev pub alone_value : Alone → Option Json
alone_value none = None
alone_value (one v) = Some v
alone_value several = None

-- what the caller's visitor keeps, the value of the first, how many, the value of the only one, or the value
-- of the first and where they are
pub data Kept (K : Type 0) : Type 0 where
  taken : K → Kept K
  first : Option Json → Kept K
  count : ℕ → Kept K
  only : Alone → Kept K
  located : Option Json → List Location → Kept K

-- whether the caller's visitor keeps it
abbrev pub is_taken : {K : Type 0} → Kept K → Bool
is_taken (taken k) = true
is_taken (first o) = false
is_taken (count n) = false
is_taken (only a) = false
is_taken (located o ls) = false

abbrev pub kept : {V K : Type 0} → (V → K) → Found V → Kept K
kept keeps (Visitor t) = taken (keeps t)
kept keeps (First o) = first (option_map part_value o)
kept keeps (Count n) = count n
kept keeps (Only a) = only (alone_of a)
kept keeps (Distinct l) = located (option_map part_value l.first) (map way_location l.ways.items)

-- the first that there is
abbrev pub put_first : Option Json → Json → Option Json
put_first None v = Some v
put_first (Some w) v = Some w

-- what is kept once this node is found too
abbrev pub put_found : {K : Type 0} → (K → Node → K) → Kept K → Node → Kept K
put_found put (taken k) n = taken (put k n)
put_found put (first o) n = first (put_first o n.value)
put_found put (count m) n = count (m + 1)
put_found put (only a) n = only (put_alone a n.value)
put_found put (located o ls) n = located (put_first o n.value) (ls ++ n.location ∷ [])

-- what is kept once these nodes are found too
unfoldable pub plus : {K : Type 0} → (K → Node → K) → K → List Node → K
plus put k ns = fold put k ns

-- what an empty visitor of the same kind keeps
abbrev pub emptied_found : {K : Type 0} → (K → K) → Kept K → Kept K
emptied_found emptied (taken k) = taken (emptied k)
emptied_found emptied (first o) = first None
emptied_found emptied (count n) = count 0
emptied_found emptied (only a) = only none
emptied_found emptied (located o ls) = located None []

-- what is kept of no nodes, where this is wanted of them
abbrev pub none_kept : {K : Type 0} → Want → Kept K
none_kept want.First = first None
none_kept want.Count = count 0
none_kept want.Only = only none
none_kept want.Distinct = located None []
