-- What is asked of a run, as it is written.
use Rattle.std.specs.Prelude.{◌≡◌, ℕ, List, Option, Some, None, Ok, Err, IsSomeAnd, option_map}
use Rattle.std.specs.Borrow.{Bor}
use Rattle.std.specs.Str.{chars}
use Rattle.jp_number.specs.declared.numbers.Numbers.{Numbers}
use Rattle.jp_tree.specs.Tree as tree
use Rattle.jp_tree.specs.Tree.{Text, Logical}
use Rattle.jp_tree.specs.declared.fault.QueryFault.{QueryFault}
use Rattle.jp_check.specs.Verdict.{IsAcceptedIn, IsVerdictIn}
use Rattle.jp_check.specs.Filter.{IsFilterVerdictIn}
use Rattle.jp_answer.specs.FilteredQuery.{FilteredQuery}
use Rattle.jp_run.specs.declared.fault.RunFault.{RunFault}
use Rattle.jp_run.specs.declared.fault.RunFault.TheVariants.{Query, Filter, Document, Read, Write, Limit}
use Rattle.jp_run.specs.declared.fault.RunFault.TheVariants.{Memory, Settings}
use Rattle.jp_run.specs.declared.settings.Settings as settings

-- the text of a query, and of a filter, if there is one
pub record AskedTexts : Type 0 where
  pub query : Text
  pub filter : Option Text

-- of a query of every document
abbrev pub query_alone : Text → AskedTexts
query_alone text = record { query = text; filter = None }

-- of these texts of `src/`
abbrev pub texts : List ℕ → Option (Bor (List ℕ)) → AskedTexts
texts query filter = record { query = chars query; filter = option_map (λ f. chars f.now) filter }

-- of this query by the settings, which have the filter
abbrev pub asked_by : List ℕ → settings.Settings → AskedTexts
asked_by query s = texts query s.filter

-- the text of a filter is accepted, and spells this one; where there is none, neither is there one
abbrev pub IsFilterOf : Numbers → Option Text → Option Logical → Type 0
IsFilterOf numbers None f = f ≡ None
IsFilterOf numbers (Some text) f = (l : Logical) × (f ≡ Some l) × IsFilterVerdictIn numbers text (Ok l)

-- there is a filter, and its text is refused so
abbrev pub IsFilterRefused : Numbers → Option Text → QueryFault → Type 0
IsFilterRefused numbers filter f = IsSomeAnd filter (λ text. IsFilterVerdictIn numbers text (Err f))

-- the texts are accepted, where literals may be these numbers, and spell this
pub record AreAcceptedIn (numbers : Numbers) (texts : AskedTexts) (q : FilteredQuery) : Type 0 where
  pub query : IsAcceptedIn numbers texts.query q.query
  pub filter : IsFilterOf numbers texts.filter q.filter

-- the texts are refused with this fault: the query's, or, of a query that is accepted, the filter's
abbrev pub AreRefusedIn : Numbers → AskedTexts → RunFault → Type 0
AreRefusedIn numbers asked (Query f) = IsVerdictIn numbers asked.query (Err f)
AreRefusedIn numbers asked (Filter f) = ((q : tree.Query) × IsAcceptedIn numbers asked.query q)
    × IsFilterRefused numbers asked.filter f
AreRefusedIn numbers asked (Document line fault) = ⊥
AreRefusedIn numbers asked Read = ⊥
AreRefusedIn numbers asked Write = ⊥
AreRefusedIn numbers asked Limit = ⊥
AreRefusedIn numbers asked Memory = ⊥
AreRefusedIn numbers asked Settings = ⊥
