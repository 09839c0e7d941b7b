-- What the worked examples say of a tree.
use Rattle.std.specs.Prelude.{◌≡◌, Ok, Err}
use Rattle.jp_number.specs.declared.numbers.Numbers.{Numbers}
use Rattle.jp_number.specs.declared.numbers.Numbers.TheVariants.{Whole}
use Rattle.jp_tree.specs.Tree.{Query}
use Rattle.jp_tree.specs.declared.fault.QueryFault.{QueryFault}
use Rattle.jp_check.specs.Verdict.{verdict_in}

-- where literals may be these numbers, the tree is accepted as it is, or refused with this fault
abbrev pub IsValidIn : Numbers → Query → Type 0
IsValidIn numbers q = verdict_in numbers q ≡ Ok q

abbrev pub IsRefusedIn : Numbers → Query → QueryFault → Type 0
IsRefusedIn numbers q fault = verdict_in numbers q ≡ Err fault

-- the same where literals are whole
abbrev pub IsValid : Query → Type 0
IsValid q = IsValidIn Whole q

abbrev pub IsRefused : Query → QueryFault → Type 0
IsRefused q fault = IsRefusedIn Whole q fault
