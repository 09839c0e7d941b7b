-- A working file, which nobody has to believe: what one line gives to an answer, for private clauses alone.
use Rattle.std.specs.Prelude.{ℕ, List, [], Result, Ok, Err}
use Rattle.jp_doc.specs.Json.{Json}
use Rattle.jp_doc.specs.Lines.{Line}
use Rattle.jp_doc.specs.declared.fault.DocFault.{DocFault}
use Rattle.jp_pattern.specs.Tests.{Tests}
use Rattle.jp_output.specs.OutputForm.{OutputForm}
use Rattle.jp_answer.specs.Answer.{document_bytes}
use Rattle.jp_answer.specs.FilteredQuery.{FilteredQuery}
use Rattle.jp_answer.specs.declared.on_fault.OnFault.{OnFault}
use Rattle.jp_answer.specs.declared.on_fault.OnFault.TheVariants.{Stop, KeepGoing}

-- what is said of its document, or of its fault where the answer keeps going
abbrev pub given : OutputForm → OnFault → Tests → FilteredQuery → Line → Result Json DocFault → List ℕ
given form on_fault tests q l (Ok root) = document_bytes form tests q l root
given form KeepGoing tests q l (Err fault) = form.of_fault l.0 fault
given form Stop tests q l (Err fault) = []
