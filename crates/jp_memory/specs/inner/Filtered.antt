-- A working file, which nobody has to believe: what an evaluator of chosen documents stands for, for private
-- clauses alone.
use Rattle.std.specs.Prelude.{option_map}
use Rattle.jp_eval.specs.Evaluated.{evaluated_query}
use Rattle.jp_eval.specs.Filter.{asked_filter}
use Rattle.jp_answer.specs.FilteredQuery.{FilteredQuery}
use Rattle.jp_memory.specs.declared.filtered.FilteredEvaluator.{FilteredEvaluator}

abbrev pub filtered_query : FilteredEvaluator → FilteredQuery
filtered_query e = record {
  filter = option_map asked_filter e.filter;
  query = evaluated_query e.evaluator;
}
