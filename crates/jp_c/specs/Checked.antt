-- What C is told of a query that is checked.
use Rattle.std.specs.Prelude.{◌≡◌, ◌≢◌, ℕ, ◌⊎◌, List, Err, IsUtf8}
use Rattle.std.specs.Str.{chars}
use Rattle.jp_number.specs.declared.numbers.Numbers.{Numbers}
use Rattle.jp_tree.specs.Tree.{Query}
use Rattle.jp_tree.specs.declared.fault.QueryFault.{QueryFault}
use Rattle.jp_tree.specs.declared.fault.QueryFault.TheVariants.{Memory}
use Rattle.jp_check.specs.Verdict.{IsAcceptedIn, IsVerdictIn}
use Rattle.jp_explain.specs.Mark.{MayGoOn}
use Rattle.jp_c.specs.Codes.{query_code}

-- of these bytes, where literals may be these numbers:
module _ (n : Numbers) (query : List ℕ) where
  -- It is refused so, and some accepted query begins with all before the place. Of want of memory, which has the
  -- status 35, no verdict is told.
  pub record IsRefusal (place code : ℕ) : Type 0 where
    pub fault : QueryFault
    pub is : fault ≢ Memory → IsVerdictIn n (chars query) (Err fault)
    pub begins : MayGoOn n (chars query) place
    pub status : code ≡ query_code fault

  -- it is accepted; or refused; or no text; or memory was refused
  abbrev pub IsChecked : ℕ → ℕ → Type 0
  IsChecked place code = ((code ≡ 0) × ((q : Query) × IsAcceptedIn n (chars query) q))
      ⊎ IsRefusal place code
      ⊎ ((code ≡ 6) × (¬ IsUtf8 query))
      ⊎ (code ≡ 35)
