-- A working file, which nobody has to believe: the limits of a document, for private clauses alone.
use Rattle.std.specs.Prelude.{Bool, Result, Ok, Err, if◌then◌else◌}
use Rattle.jp_doc.specs.declared.fault.DocFault.{DocFault}
use Rattle.jp_doc.specs.declared.fault.DocFault.TheVariants.{NotWhole}

-- whether there is a long array, unless some number is not whole
abbrev pub tested : Bool → Bool → Result Bool DocFault
tested float long = if float then Err NotWhole else Ok long
