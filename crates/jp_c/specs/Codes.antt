-- The numbers that C is given, which `include/jp.h` names.
use Rattle.std.specs.Prelude.{ℕ}
use Rattle.jp_doc.specs.declared.fault.DocFault.{DocFault}
use Rattle.jp_doc.specs.declared.fault.DocFault.TheVariants.{LongLine, Unreadable, NotWhole, LongNumber}
use Rattle.jp_doc.specs.declared.fault.DocFault.TheVariants.{LongArray}
use Rattle.jp_doc.specs.declared.fault.DocFault.TheVariants as of_line
use Rattle.jp_tree.specs.declared.fault.QueryFault.{QueryFault}
use Rattle.jp_tree.specs.declared.fault.QueryFault.TheVariants.{TooDeep, Syntax, Fraction, Range, IllTyped}
use Rattle.jp_tree.specs.declared.fault.QueryFault.TheVariants as of_query
use Rattle.jp_c.specs.declared.refused.Refused.{Refused}
use Rattle.jp_c.specs.declared.refused.Refused.TheVariants.{Options, QueryText, FilterText, Query, Filter}
use Rattle.jp_c.specs.declared.refused.Refused.TheVariants.{Limit, Memory}

-- of a query's fault
abbrev pub query_code : QueryFault → ℕ
query_code TooDeep = 1
query_code Syntax = 2
query_code Fraction = 3
query_code Range = 4
query_code IllTyped = 5
query_code of_query.Memory = 35

-- of a filter's fault
abbrev pub filter_code : QueryFault → ℕ
filter_code TooDeep = 17
filter_code Syntax = 18
filter_code Fraction = 19
filter_code Range = 20
filter_code IllTyped = 21
filter_code of_query.Memory = 35

-- of a line's fault
abbrev pub line_code : DocFault → ℕ
line_code LongLine = 1
line_code Unreadable = 2
line_code NotWhole = 3
line_code LongNumber = 4
line_code LongArray = 5
line_code of_line.Memory = 6

-- of why there is no answer
abbrev pub code_of : Refused → ℕ
code_of Options = 34
code_of QueryText = 6
code_of FilterText = 22
code_of (Query f) = query_code f
code_of (Filter f) = filter_code f
code_of Limit = 33
code_of Memory = 35
