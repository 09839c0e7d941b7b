-- What a plan stands for.
use Rattle.jp_tree.specs.Tree.{Text, Query}
use Rattle.jp_tree.specs.View.{query_of}
use Rattle.jp_number.specs.declared.numbers.Numbers.{Numbers}
use Rattle.jp_check.specs.Verdict.{IsAcceptedIn}
use Rattle.jp_check.specs.declared.accepted.Plan.{Plan}

-- the query that it holds
abbrev pub planned_query : Plan → Query
planned_query p = query_of p.query

-- the numbers that its literals may be
abbrev pub planned_numbers : Plan → Numbers
planned_numbers p = p.numbers

-- some text is accepted with this tree, where literals may be these numbers
abbrev pub IsAcceptedQuery : Numbers → Query → Type 0
IsAcceptedQuery numbers q = ∥ ((t : Text) × IsAcceptedIn numbers t q) ∥₁
