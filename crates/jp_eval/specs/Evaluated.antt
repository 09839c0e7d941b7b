-- What an evaluator stands for.
use Rattle.jp_tree.specs.Tree.{Query}
use Rattle.jp_compiled.specs.Compiled.{compiled_query}
use Rattle.jp_eval.specs.declared.evaluator.Evaluator.{Evaluator}

-- the query that it evaluates
abbrev pub evaluated_query : Evaluator → Query
evaluated_query e = compiled_query e.query.now
