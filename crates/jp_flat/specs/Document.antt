-- The value of a flat document, or the fault in its place.
use Rattle.std.specs.Prelude.{List, Result, Ok, Err}
use Rattle.jp_doc.specs.Json.{Json}
use Rattle.jp_doc.specs.declared.fault.DocFault.{DocFault}
use Rattle.json.specs.Token.{Token}
use Rattle.jp_flat.specs.Flat.{value_at}
use Rattle.jp_flat_nodes.specs.Nodes.{Source, source, tokens_at}
use Rattle.jp_flat.specs.declared.document.FlatDocument.{FlatDocument}

-- where its texts stand
abbrev pub document_source : FlatDocument → Source
document_source d = source d.line.now d.texts.now

-- its tokens
abbrev pub document_tokens : FlatDocument → List Token
document_tokens d = tokens_at (document_source d) d.nodes.now

abbrev pub document_value : FlatDocument → Json
document_value d = value_at (document_tokens d)

-- a document's value, or the fault
abbrev pub document_answer : Result FlatDocument DocFault → Result Json DocFault
document_answer (Ok d) = Ok (document_value d)
document_answer (Err f) = Err f
