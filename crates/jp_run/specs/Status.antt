-- The status that a program ends with.
use Rattle.std.specs.Prelude.{ℕ}
use Rattle.jp_run.specs.declared.fault.RunFault.{RunFault}
use Rattle.jp_run.specs.declared.fault.RunFault.TheVariants.{Query, Filter, Document, Read}
use Rattle.jp_run.specs.declared.fault.RunFault.TheVariants.{Write, Limit, Memory, Settings}

abbrev pub status_of : RunFault → ℕ
status_of (Query fault) = 2
status_of (Filter fault) = 2
status_of (Document line fault) = 3
status_of Read = 4
status_of Write = 4
status_of Limit = 4
status_of Memory = 5
status_of Settings = 64
