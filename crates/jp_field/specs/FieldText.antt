-- Which texts are fields: singular queries of `@` (RFC 9535, 2.3.5.1).
use Rattle.std.specs.Prelude.{◌≡◌, ◌⊎◌, ◌∷◌, [], ℕ, List, true, false, Option, None, Some, Err}
use Rattle.std.specs.Str.{chars}
use Rattle.jp_tree.specs.Tree as tree
use Rattle.jp_tree.specs.Tree.{Text, Query}
use Rattle.jp_tree.specs.declared.fault.QueryFault.{QueryFault}
use Rattle.jp_tree.specs.declared.fault.QueryFault.TheVariants.{Syntax, IllTyped}
use Rattle.jp_types.specs.Numbers.{whole_number}
use Rattle.jp_output.specs.Rows.{Path, Step, member, item}
use Rattle.jp_check.specs.Verdict.{IsAccepted, IsVerdict}

-- what a segment of one name or one index selects, and nothing for another
abbrev pub step_in : tree.Segment → Option Step
step_in (tree.segment false (tree.add_selector (tree.name k) tree.no_selectors)) = Some (member k)
step_in (tree.segment false (tree.add_selector (tree.index t) tree.no_selectors)) =
    Some (item (whole_number t))
step_in _ = None

-- a step before others, where there are all of them
abbrev pub step_before : Option Step → Option Path → Option Path
step_before (Some s) (Some path) = Some (s ∷ path)
step_before _ _ = None

-- the steps of segments, where each has one
abbrev pub path_in : tree.Segments → Option Path
path_in tree.no_segments = Some []
path_in (tree.add_segment s ss) = step_before (step_in s) (path_in ss)

abbrev pub path_of : Query → Option Path
path_of (tree.query start ss) = path_in ss

-- A query of `@` is one of `$` but for its first character (RFC 9535, 2.1 and 2.3.5): @ is 64, and $ is 36.
-- The text is `@` and segments that are accepted, and these are the steps of a singular query.
abbrev pub IsFieldText : Text → Path → Type 0
IsFieldText text path = (rest : Text) × (text ≡ 64 ∷ rest) × (q : Query) × IsAccepted (36 ∷ rest) q
    × (path_of q ≡ Some path)

-- the text is `@` and a query that is refused so, or that is not singular
abbrev pub IsRefusedAfter : Text → QueryFault → Type 0
IsRefusedAfter rest fault = IsVerdict (36 ∷ rest) (Err fault)
    ⊎ ((q : Query) × IsAccepted (36 ∷ rest) q × (path_of q ≡ None) × (fault ≡ IllTyped))

-- the text does not begin with `@`, or is refused behind it
abbrev pub IsFieldRefused : Text → QueryFault → Type 0
IsFieldRefused text fault = (((rest : Text) → text ≡ 64 ∷ rest → ⊥) × (fault ≡ Syntax))
    ⊎ ((rest : Text) × (text ≡ 64 ∷ rest) × IsRefusedAfter rest fault)

-- the texts, in bytes, are these fields, in their order
abbrev pub AreFields : List (List ℕ) → List Path → Type 0
AreFields [] fs = fs ≡ []
AreFields (t ∷ ts) fs = (f : Path) × (rest : List Path) × (fs ≡ f ∷ rest) × IsFieldText (chars t) f
    × AreFields ts rest
