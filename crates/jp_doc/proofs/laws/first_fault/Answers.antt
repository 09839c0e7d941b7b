use Rattle.jp_doc.proofs.ReadingLaws.{unreadable_is_unread, not_whole_has_float, long_array_is_long}
use Rattle.jp_doc.proofs.ReadingLaws.{document_is_read, no_long_number, no_memory_fault}
use Rattle.jp_doc.proofs.laws.first_fault.Goals as goal

pub returns-clause-unreadable : goal.returns-clause-unreadable
returns-clause-unreadable c = unreadable_is_unread

pub returns-clause-not_whole : goal.returns-clause-not_whole
returns-clause-not_whole c = not_whole_has_float

pub returns-clause-long_array : goal.returns-clause-long_array
returns-clause-long_array c = long_array_is_long

pub returns-clause-document : goal.returns-clause-document
returns-clause-document c = document_is_read

pub returns-clause-no_long_number : goal.returns-clause-no_long_number
returns-clause-no_long_number c = no_long_number

pub returns-clause-no_memory : goal.returns-clause-no_memory
returns-clause-no_memory c = no_memory_fault
