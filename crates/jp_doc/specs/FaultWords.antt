-- The words for what is wrong with a line.
use Rattle.std.specs.Prelude.{ℕ, List, codes}
use Rattle.jp_doc.specs.declared.fault.DocFault.{DocFault}
use Rattle.jp_doc.specs.declared.fault.DocFault.TheVariants.{LongLine, Unreadable, NotWhole, LongNumber}
use Rattle.jp_doc.specs.declared.fault.DocFault.TheVariants.{LongArray, Memory}

abbrev pub fault_words : DocFault → List ℕ
fault_words LongLine = codes "long line"
fault_words Unreadable = codes "unreadable"
fault_words NotWhole = codes "not whole"
fault_words LongNumber = codes "long number"
fault_words LongArray = codes "long array"
fault_words Memory = codes "memory"
