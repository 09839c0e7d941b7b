-- What a query selects in the documents of lines that a filter chooses.
use Rattle.std.specs.Prelude.{◌≡◌, List, [], IfOk}
use Rattle.std.specs.List.{All}
use Rattle.jp_doc.specs.Lines.{Line}
use Rattle.jp_doc.specs.ReadingIn.{reading_in}
use Rattle.jp_number.specs.declared.numbers.Numbers.{Numbers}
use Rattle.jp_pattern.specs.Tests.{Tests}
use Rattle.jp_answer.specs.FilteredQuery.{FilteredQuery, selected_nodes}

-- no node of any of them
abbrev pub SelectsNothing : Numbers → Tests → FilteredQuery → List Line → Type 0
SelectsNothing numbers t q ls =
    All (λ (l : Line). IfOk (reading_in numbers l.1) (λ root. selected_nodes t root q ≡ [])) ls
