-- A working file, which nobody has to believe: what a run asks, for private clauses alone.
use Rattle.std.specs.Prelude.{option_map}
use Rattle.jp_compiled.specs.Compiled.{compiled_query}
use Rattle.jp_eval.specs.Filter.{asked_filter}
use Rattle.jp_answer.specs.FilteredQuery.{FilteredQuery}
use Rattle.jp_run.specs.declared.job.Job.{Job}

-- the query that it walks, in the documents that its filter chooses
abbrev pub job_query : {R : Type 0} {G : Type 0} → Job R G → FilteredQuery
job_query job = record {
  filter = option_map asked_filter job.filter;
  query = compiled_query job.query.now;
}
