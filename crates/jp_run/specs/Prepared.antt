-- What is asked, once it is prepared.
use Rattle.std.specs.Prelude.{option_map}
use Rattle.jp_check.specs.Plan.{planned_query}
use Rattle.jp_check.specs.PlannedFilter.{planned_filter}
use Rattle.jp_answer.specs.FilteredQuery.{FilteredQuery}
use Rattle.jp_run.specs.declared.prepared.Prepared.{Prepared}

abbrev pub prepared_query : Prepared → FilteredQuery
prepared_query p = record {
  filter = option_map planned_filter p.filter;
  query = planned_query p.plan;
}
