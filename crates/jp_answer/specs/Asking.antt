-- What is asked of a block stands for this.
use Rattle.std.specs.Prelude.{option_map}
use Rattle.jp_compiled.specs.Compiled.{compiled_query}
use Rattle.jp_eval.specs.Filter.{asked_filter}
use Rattle.jp_answer.specs.FilteredQuery.{FilteredQuery}
use Rattle.jp_answer.specs.declared.asked.Asked.{Asked}

-- the query, of the documents that the filter chooses
abbrev pub asked_query : Asked → FilteredQuery
asked_query a = record {
  filter = option_map asked_filter a.filter;
  query = compiled_query a.query.now;
}
