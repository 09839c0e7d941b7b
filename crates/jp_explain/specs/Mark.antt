-- Where a query text may still go on.
use Rattle.std.specs.Prelude.{ℕ, ◌≡◌, ◌≤◌, length, take}
use Rattle.jp_tree.specs.Tree.{Text, Query}
use Rattle.jp_number.specs.declared.numbers.Numbers.{Numbers}
use Rattle.jp_check.specs.Verdict.{IsAcceptedIn}

-- the text is accepted as a query whose literals are these numbers
abbrev pub IsQuery : Numbers → Text → Type 0
IsQuery numbers t = (q : Query) × IsAcceptedIn numbers t q

-- the text has as many characters, and some query of these numbers begins with them
abbrev pub MayGoOn : Numbers → Text → ℕ → Type 0
MayGoOn numbers t mark = (mark ≤ length t) × ((u : Text) × (take mark u ≡ take mark t) × IsQuery numbers u)
