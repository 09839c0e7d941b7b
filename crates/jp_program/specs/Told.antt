-- What the notes are told of a refused query, or filter.
use Rattle.std.specs.Prelude.{◌≡◌, ℕ, ◌⊎◌, Bool, true, List, ◌++◌, Option, IsSomeAnd, codes}
use Rattle.std.specs.Str.{chars}
use Rattle.std.specs.Io.KnownBytes.{Appends}
use Rattle.jp_tree.specs.declared.fault.QueryFault.{QueryFault}
use Rattle.jp_tree.specs.declared.fault.QueryFault.TheVariants.{TooDeep, Syntax, Fraction, Range, IllTyped}
use Rattle.jp_tree.specs.declared.fault.QueryFault.TheVariants.{Memory}
use Rattle.jp_check.specs.Filter.{filter_text}
use Rattle.jp_explain.specs.Picture.{IsPicture}
use Rattle.jp_run.specs.declared.fault.RunFault.{RunFault}
use Rattle.jp_run.specs.declared.fault.RunFault.TheVariants as fault
use Rattle.jp_run.specs.declared.fault.RunFault.TheVariants.{Query, Filter, Document, Read, Write, Limit}
use Rattle.jp_run.specs.declared.fault.RunFault.TheVariants.{Settings}
use Rattle.jp_program.specs.Split.{question}
use Rattle.jp_program.specs.Wanted.{Wanted}

-- the line of what memory was wanted for
abbrev pub memory_line : List ℕ
memory_line = codes "jp: memory\n"

-- the line of a refusal: of a query, and of a filter
abbrev pub query_line : QueryFault → List ℕ
query_line TooDeep = codes "jp: query: too deep\n"
query_line Syntax = codes "jp: query: syntax\n"
query_line Fraction = codes "jp: query: fraction\n"
query_line Range = codes "jp: query: range\n"
query_line IllTyped = codes "jp: query: type\n"
query_line Memory = memory_line

abbrev pub filter_line : QueryFault → List ℕ
filter_line TooDeep = codes "jp: where: too deep\n"
filter_line Syntax = codes "jp: where: syntax\n"
filter_line Fraction = codes "jp: where: fraction\n"
filter_line Range = codes "jp: where: range\n"
filter_line IllTyped = codes "jp: where: type\n"
filter_line Memory = memory_line

-- the line of a text that is more than one filter
abbrev pub one_filter_line : List ℕ
one_filter_line = codes "jp: --where takes one filter: join two by && or ||\n"

-- the lines that show where the wanted query went wrong, and behind them the question for its quotes, exactly
-- where the shell seems to have split it
abbrev pub IsExplained : Wanted → List ℕ → Type 0
IsExplained w bytes = (picture : List ℕ) × IsPicture w.query (chars picture)
    × (bytes ≡ picture ++ question w.query w.files)

-- the lines that show where the query with the wanted filter went wrong, or the line that it is more than one
abbrev pub IsFilterExplained : Wanted → List ℕ → Type 0
IsFilterExplained w bytes = IsSomeAnd w.filter (λ text. IsPicture (filter_text text) (chars bytes))
    ⊎ (bytes ≡ one_filter_line)

-- what stands behind the line of a refusal: those lines, or that memory was wanted for them
abbrev pub IsNote : (Wanted → List ℕ → Type 0) → Wanted → List ℕ → List ℕ → Type 0
IsNote Explained w line bytes = (more : List ℕ) × (bytes ≡ line ++ more)
    × (Explained w more ⊎ (more ≡ memory_line))

abbrev pub IsRefusalNote : Wanted → RunFault → List ℕ → Type 0
IsRefusalNote w (Query f) bytes = IsNote IsExplained w (query_line f) bytes
IsRefusalNote w (Filter f) bytes = IsNote IsFilterExplained w (filter_line f) bytes
IsRefusalNote w (Document line fault) bytes = ⊥
IsRefusalNote w Read bytes = ⊥
IsRefusalNote w Write bytes = ⊥
IsRefusalNote w Limit bytes = ⊥
IsRefusalNote w fault.Memory bytes = ⊥
IsRefusalNote w Settings bytes = ⊥

-- the notes were told so behind what they had, or they have failed
abbrev pub IsTold : Wanted → RunFault → Bool → Option (List ℕ) → Option (List ℕ) → Type 0
IsTold w f failed old new = (failed ≡ true)
    ⊎ ((bytes : List ℕ) × IsRefusalNote w f bytes × Appends old new bytes)
