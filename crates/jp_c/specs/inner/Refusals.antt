-- A working file, which nobody has to believe: what faults are told as, for private clauses alone.
use Rattle.jp_run.specs.declared.fault.RunFault.{RunFault}
use Rattle.jp_run.specs.declared.fault.RunFault.TheVariants as run
use Rattle.jp_c.specs.declared.refused.Refused.{Refused}
use Rattle.jp_c.specs.declared.refused.Refused.TheVariants.{Query, Filter, Limit, Memory}

abbrev pub refusal_of : RunFault → Refused
refusal_of (run.Query f) = Query f
refusal_of (run.Filter f) = Filter f
refusal_of (run.Document line fault) = Memory
refusal_of run.Read = Memory
refusal_of run.Write = Memory
refusal_of run.Limit = Limit
refusal_of run.Memory = Memory
refusal_of run.Settings = Memory
