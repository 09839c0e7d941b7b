-- What the plan of a filter stands for.
use Rattle.jp_number.specs.declared.numbers.Numbers.{Numbers}
use Rattle.jp_tree.specs.Tree.{Logical}
use Rattle.jp_check.specs.Plan.{planned_query, planned_numbers}
use Rattle.jp_check.specs.Filter.{filter_inside}
use Rattle.jp_check.specs.declared.filter_plan.FilterPlan.{FilterPlan}

-- the filter that it holds
abbrev pub planned_filter : FilterPlan → Logical
planned_filter p = filter_inside (planned_query p.plan)

-- the numbers that its literals may be
abbrev pub filter_numbers : FilterPlan → Numbers
filter_numbers p = planned_numbers p.plan
