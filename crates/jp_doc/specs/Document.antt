-- What a document stands for.
use Rattle.std.specs.Prelude.{Result, Ok, Err}
use Rattle.jp_doc.specs.Json.{Json, value_of}
use Rattle.jp_doc.specs.declared.document.Document.{Document}
use Rattle.jp_doc.specs.declared.fault.DocFault.{DocFault}

abbrev pub document_value : Document → Json
document_value d = value_of d.root

-- a document's value, or the fault
abbrev pub answer_of : Result Document DocFault → Result Json DocFault
answer_of (Ok d) = Ok (document_value d)
answer_of (Err f) = Err f
