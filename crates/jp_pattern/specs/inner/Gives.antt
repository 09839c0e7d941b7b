-- A working file, which nobody has to believe: what a function that reads ensures, by the reader of
-- lists, unless memory runs out.
use Rattle.std.specs.Prelude.{◌≡◌, Option, Some, None, Result, Ok, Err}
use Rattle.jp_pattern.specs.declared.fault.PatternFault.{PatternFault}
use Rattle.jp_pattern.specs.declared.fault.PatternFault.TheVariants as faults

abbrev pub Fails : {Y : Type 0} → PatternFault → Option Y → Type 0
Fails faults.Memory read = Unit {0}
Fails faults.NoPattern read = read ≡ None

abbrev pub Gives : {X Y : Type 0} → (X → Y) → Result X PatternFault → Option Y → Type 0
Gives view (Ok x) read = read ≡ Some (view x)
Gives view (Err e) read = Fails e read
