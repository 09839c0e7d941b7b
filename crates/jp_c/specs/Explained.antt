-- What C is told of why a query is refused.
use Rattle.std.specs.Prelude.{◌≡◌, ◌≢◌, ℕ, ◌⊎◌, List, Err, IsUtf8, length}
use Rattle.std.specs.Str.{chars}
use Rattle.jp_number.specs.declared.numbers.Numbers.{Numbers}
use Rattle.jp_tree.specs.Tree.{Query}
use Rattle.jp_tree.specs.declared.fault.QueryFault.{QueryFault}
use Rattle.jp_tree.specs.declared.fault.QueryFault.TheVariants.{Memory}
use Rattle.jp_check.specs.Verdict.{IsAcceptedIn, IsVerdictIn}
use Rattle.jp_explain.specs.Picture.{IsPicture}
use Rattle.jp_c.specs.Buffers.{IsFilledBy}
use Rattle.jp_c.specs.Codes.{query_code}

-- of these bytes, where literals may be these numbers, and of a buffer before the call and behind it:
module _ (n : Numbers) (query old new : List ℕ) (needed : ℕ) where
  -- The query is refused so, and these lines show it. Of want of memory no verdict is told.
  pub record IsExplanation (code : ℕ) : Type 0 where
    pub fault : QueryFault
    pub is : fault ≢ Memory → IsVerdictIn n (chars query) (Err fault)
    pub lines : List ℕ
    pub picture : IsPicture (chars query) (chars lines)
    pub bytes : IsFilledBy lines old new
    pub length_told : needed ≡ length lines
    pub status : code ≡ query_code fault

  -- nothing is said
  abbrev pub IsUnsaid : Type 0
  IsUnsaid = (needed ≡ 0) × (new ≡ old)

  -- it is refused; or nothing is said: it is accepted, or no text, or memory was refused
  abbrev pub IsExplained : ℕ → Type 0
  IsExplained code = IsExplanation code
      ⊎ (IsUnsaid × (((code ≡ 0) × ((q : Query) × IsAcceptedIn n (chars query) q))
      ⊎ ((code ≡ 6) × (¬ IsUtf8 query))
      ⊎ (code ≡ 35)))
